-- The law of outcomes that leave calls, with the entries of their marks.
use Rattle.std.specs.Prelude.{◌≡◌, ℕ, List, Some}
use Rattle.gr_lang.specs.States.{State}
use Rattle.gr_lang.specs.Histories.{after}
use Rattle.gr_net.specs.Sums.{Each}
use Rattle.gr_machine.specs.States.{Letter}
use Rattle.gr_machine.specs.Outcomes.{Outcome}
use Rattle.gr_machine.specs.Histories.{Sent}
use Rattle.gr_stands.specs.Worlds.{Given, World, bodies}
use Rattle.gr_stands_outcomes.specs.Marks.{entries_from}
use Rattle.gr_batches.specs.Batches.{BatchesStand}
use Rattle.gr_batches_takes.specs.Taking.{KeepsBatches}
use Rattle.gr_batches_events.specs.Leaving.{IsNoMail}
use Rattle.gr_batches_leaves.specs.Leaves.{IsInNoBatch, LeavesCalls}

-- Such an outcome keeps the part of batches, with the plain state to which its entries lead, where the tasks of these are in no batch.
abbrev pub EntriesLeaveBatches : Type 0
EntriesLeaveBatches =
    (given : Given) (sent : Sent) (world : World) (state next : State) (me : ℕ) (got : List Letter) (outcome : Outcome)
    → LeavesCalls (IsInNoBatch world) (bodies world me) outcome → Each (λ letter. IsNoMail letter.message) got
    → after given.program given.setup.cores given.setup.steps state (entries_from sent me outcome.marks) ≡ Some next
    → BatchesStand given sent world state → KeepsBatches given sent world me got outcome next
