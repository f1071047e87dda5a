-- The laws of what batches tell: the premises of events in the parts of calls and of scopes.
use Rattle.std.specs.Prelude.{◌≡◌, ℕ, Option, None}
use Rattle.gr_lang.specs.States.{State}
use Rattle.gr_msg.specs.declared.message.Msg.TheVariants as msg
use Rattle.gr_batch.specs.Batches.{batches_of}
use Rattle.gr_net.specs.Sums.{Each}
use Rattle.gr_machine.specs.Histories.{Sent}
use Rattle.gr_stands.specs.Worlds.{Given, World, bodies}
use Rattle.gr_stands_calls.specs.Acting.{IsFirstLetter}
use Rattle.gr_stands_closes.specs.Closing.{AreHeld, BatchTells}
use Rattle.gr_scopes_stays.specs.Stays.{BatchIsApart}
use Rattle.gr_batches.specs.Batches.{BatchesStand}

-- The plain state has the task of each call of a batch that comes back after its call, with the reply that it gets.
abbrev pub RepliesTell : Type 0
RepliesTell =
    (given : Given) (sent : Sent) (world : World) (state : State) (me from batch : ℕ) (before : Option ℕ)
    → BatchesStand given sent world state → IsFirstLetter given world me from (msg.BatchReply batch before) → BatchTells given world state me batch before

-- The tasks of a batch's calls are in slots of their own.
abbrev pub BatchesAreApart : Type 0
BatchesAreApart = (given : Given) (sent : Sent) (world : World) (state : State) (me batch : ℕ) → BatchesStand given sent world state → BatchIsApart world me batch

-- Each call that goes off on an object, other than a vector's, is that of a task that waits for it.
abbrev pub HeldTell : Type 0
HeldTell =
    (given : Given) (sent : Sent) (world : World) (state : State) (me object : ℕ) → BatchesStand given sent world state
    → (bodies world me).vectors.vectors object ≡ None
    → Each (λ batch. AreHeld (bodies world me) object batch.calls) (batches_of ((bodies world me).batches.combiners object))
