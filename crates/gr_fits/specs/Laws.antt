-- The laws of what tasks do next.
use Rattle.std.specs.Prelude.{◌≡◌, ℕ, true, All, List, Some}
use Rattle.gr_syntax.specs.declared.syntax.Program.{Program}
use Rattle.gr_syntax.specs.Items.{object_names}
use Rattle.gr_syntax.specs.Names.{is_name}
use Rattle.gr_lang.specs.declared.action.Entry.{Entry}
use Rattle.gr_lang.specs.States.{State, opening_state}
use Rattle.gr_lang.specs.Steps.{step}
use Rattle.gr_lang.specs.Histories.{after}
use Rattle.gr_valid.specs.Valid.{IsValid}
use Rattle.gr_machine.specs.States.{Suspended}
use Rattle.gr_stands.specs.Worlds.{Given, machine_in, World, bodies}
use Rattle.gr_stands.specs.Actions.{ActionFits, ActionsFit}
use Rattle.gr_stands.specs.Calls.{is_told}
use Rattle.gr_stands.specs.Stands.{Stands}
use Rattle.gr_fits.specs.Reached.{IsReached, HasOneHeap, RunsAccepted}

-- The opening state is reached.
abbrev pub OpeningsAreReached : Type 0
OpeningsAreReached = (given : Given) → IsReached given (opening_state given.program given.setup.steps)

-- A step from a state that is reached leads to one that is reached, and so do entries one after another.
abbrev pub StepsReach : Type 0
StepsReach =
    (given : Given) (state next : State) (entry : Entry) → IsReached given state
    → step given.program given.setup.cores given.setup.steps state entry ≡ Some next → IsReached given next

abbrev pub EntriesReach : Type 0
EntriesReach =
    (given : Given) (state next : State) (entries : List Entry) → IsReached given state
    → after given.program given.setup.cores given.setup.steps state entries ≡ Some next → IsReached given next

-- Each state that is reached is valid.
abbrev pub ReachedStatesAreValid : Type 0
ReachedStatesAreValid = (given : Given) (state : State) → IsReached given state → IsValid given.program state

-- In each state that a legal history of an accepted program reaches, the next action of each task fits.
abbrev pub ReachedStatesFit : Type 0
ReachedStatesFit = (given : Given) (state : State) → RunsAccepted given → IsReached given state → ActionsFit given state

-- So does that of each task in a slot, but where a message tells how the plain state has it.
abbrev pub SlotsFit : Type 0
SlotsFit =
    (given : Given) (world : World) (state : State) (core slot : ℕ) (task : Suspended)
    → ActionsFit given state → Stands given world state
    → (bodies world core).tasks.slots slot ≡ Some task → is_told task.waits ≡ 0 → ActionFits (machine_in given) task.action

-- Where each object has a name of the language, none is named `heap`.
abbrev pub NamedProgramsHaveOneHeap : Type 0
NamedProgramsHaveOneHeap = (program : Program) → All (λ name. is_name name ≡ true) (object_names program.items) → HasOneHeap program
