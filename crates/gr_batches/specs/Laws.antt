-- The laws of batches: before the first step the part holds.
use Rattle.std.specs.Prelude.{ℕ, []}
use Rattle.gr_lang.specs.States.{State}
use Rattle.gr_machine.specs.GlobalRuns.{opening_world}
use Rattle.gr_machine.specs.Nets.{world_in}
use Rattle.gr_stands.specs.Worlds.{Given, machine_in}
use Rattle.gr_batches.specs.Batches.{BatchesStand}

-- No batch has gone off, whatever the plain state is.
abbrev pub OpeningsHaveBatches : Type 0
OpeningsHaveBatches = (given : Given) (slot : ℕ) (state : State) → BatchesStand given (λ core batch. []) (world_in (opening_world (machine_in given) slot)) state
