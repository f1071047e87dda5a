-- The states that the plain memory of a run goes through; and what is asked of the names of its program.
use Rattle.std.specs.Prelude.{◌≡◌, false, List, Some, codes}
use Rattle.gr_syntax.specs.declared.syntax.Program.{Program}
use Rattle.gr_syntax.specs.Items.{object_names}
use Rattle.gr_syntax.specs.Names.{has}
use Rattle.gr_accept.specs.Accepted.{IsAccepted}
use Rattle.gr_lang.specs.declared.action.Entry.{Entry}
use Rattle.gr_lang.specs.States.{State}
use Rattle.gr_lang.specs.Histories.{final}
use Rattle.gr_stands.specs.Worlds.{Given}

-- A legal history of the run's program leads to the state.
pub record IsReached (given : Given) (state : State) : Type 0 where
  pub history : List Entry
  pub leads : final given.program given.setup.cores given.setup.steps history ≡ Some state

-- No array, set, map or vector is named `heap`. No text names one so, since the word is a keyword; calls of that name are those of the heap.
abbrev pub HasOneHeap : Program → Type 0
HasOneHeap program = has (object_names program.items) (codes "heap") ≡ false

-- The run's program is accepted, and `heap` names the heap alone.
pub record RunsAccepted (given : Given) : Type 0 where
  pub accepted : IsAccepted given.program
  pub heap : HasOneHeap given.program
