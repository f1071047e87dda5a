-- An aggregator as the messages that wait in it.
use Rattle.std.specs.Prelude.{ℕ, List, [], length}
use Rattle.gr_msg.specs.declared.message.Msg.{Msg}
use Rattle.gr_view.specs.Places.{at_place}
use Rattle.gr_agg.specs.Buffers.{Waiting}

-- The limit, and the messages for each core in the order of the cores.
pub record Lists : Type 0 where
  pub limit : ℕ
  pub lists : List (List Msg)

-- What waits for each core; nothing for a number that is no core's.
abbrev pub waiting_in : Lists → Waiting
waiting_in kept = record { limit = kept.limit; cores = length kept.lists; messages = at_place [] kept.lists }
