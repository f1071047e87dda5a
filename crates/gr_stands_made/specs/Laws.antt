-- The laws of what steps are made of, and of what they keep.
use Rattle.std.specs.Prelude.{◌≡◌, ℕ, List, Some}
use Rattle.gr_lang.specs.States.{State}
use Rattle.gr_merge.specs.GlobalRuns.{goes_at}
use Rattle.gr_machine.specs.declared.journal.Stamped.{Stamped}
use Rattle.gr_machine.specs.Outcomes.{Outcome}
use Rattle.gr_machine.specs.Histories.{Sent}
use Rattle.gr_machine.specs.Steppers.{kind_of, stepper}
use Rattle.gr_machine.specs.GlobalRuns as runs
use Rattle.gr_machine.specs.Nets.{world_in}
use Rattle.gr_stands.specs.Worlds.{Given, machine_in, World}
use Rattle.gr_stands.specs.Stands.{IsSound, Stands}
use Rattle.gr_stands_outcomes.specs.Marks.{sent_from}
use Rattle.gr_stands_steps.specs.Entries.{StandsAmongCores, StepStands}
use Rattle.gr_stands_steps.specs.Telling.{PartsTell, SlotsFit}
use Rattle.gr_stands_made.specs.Pieces.{ran_at, RunStarts, StepMade}
use Rattle.gr_stands_made.specs.Rows.{RunRows}
use Rattle.gr_stands_made.specs.Keeping.{KeptByPieces}

-- The step that was made is made of pieces.
abbrev pub StepsAreMade : Type 0
StepsAreMade =
    (given : Given) (sent : Sent) (before after : runs.World) (state : State) (me : ℕ) (entry : Stamped)
    → IsSound given → StandsAmongCores given (world_in before) state → PartsTell given sent (world_in before) state me → SlotsFit given entry.slots
    → goes_at (stepper (machine_in given)) (kind_of entry.event) me before entry ≡ Some after
    → (made : StepStands given before after me entry.clock state sent)
    → StepMade given sent (world_in before) (world_in after) state made.next me entry.slots made.marks entry.event

-- The other two speak of any facts, and so no contract can state them: they are lemmas for other proofs.

-- A fact of each row is one of what a Run does first.
abbrev pub RowsAreFound : Type 1
RowsAreFound =
    (given : Given) (sent : Sent) (world : World) (state : State) (me : ℕ) (slots : List ℕ) (Fact : Outcome → Type 0)
    → Stands given world state → RunStarts given sent world state me slots → RunRows given world state me slots Fact → Fact (ran_at given world me slots)

-- What each piece keeps, the step keeps that was made.
abbrev pub PiecesKeep : Type 1
PiecesKeep =
    (given : Given) (Before : Sent → World → State → Type 0) (Between : ℕ → Sent → World → State → Type 0) (After : Sent → World → State → Type 0)
    → KeptByPieces given Before Between After
    → (sent : Sent) (before after : runs.World) (state : State) (me : ℕ) (entry : Stamped)
    → IsSound given → StandsAmongCores given (world_in before) state → PartsTell given sent (world_in before) state me → SlotsFit given entry.slots
    → goes_at (stepper (machine_in given)) (kind_of entry.event) me before entry ≡ Some after
    → (made : StepStands given before after me entry.clock state sent)
    → Before sent (world_in before) state → After (sent_from sent me made.marks) (world_in after) made.next
