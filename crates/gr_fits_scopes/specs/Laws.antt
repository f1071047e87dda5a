-- The laws of scopes in states that are reached, and of the work that is left under them.
use Rattle.std.specs.Prelude.{◌≡◌, ℕ, ◌<◌, true, false, List, ◌∷◌, length, Some}
use Rattle.std.specs.FinMap as fin
use Rattle.gr_lang.specs.declared.action.TaskId.{TaskId}
use Rattle.gr_lang.specs.States.{going, Task, State, left}
use Rattle.gr_stands.specs.Worlds.{Given}
use Rattle.gr_scopes.specs.Trees.{tree_of, Rises}
use Rattle.gr_fits.specs.Reached.{IsReached}
use Rattle.gr_fits_scopes.specs.Scopes.{AreFinishes, without_loop, AllEndedIn, AllBegunIn, AllEnded}

-- Each task has opened its scopes after the one in which it stands, in order.
abbrev pub OpenedScopesRise : Type 0
OpenedScopesRise =
    (given : Given) (state : State) (id : TaskId) (task : Task) → IsReached given state
    → fin.get state.tasks id ≡ Some task → Rises task.scope (length state.scopes) task.opened

-- So has what the tree has of the task.
abbrev pub HoldersRise : Type 0
HoldersRise =
    (given : Given) (state : State) → IsReached given state → (id : TaskId) (scope : ℕ) (opened : List ℕ)
    → (tree_of state).holders id ≡ Some (record { scope = scope; opened = opened }) → Rises scope (tree_of state).count opened

-- The innermost scope of a task is one that has been opened, and so is the one in which it stands.
abbrev pub InnermostScopesAreThere : Type 0
InnermostScopesAreThere =
    (given : Given) (state : State) → IsReached given state → (id : TaskId) (task : Task) (number : ℕ) (outer : List ℕ)
    → fin.get state.tasks id ≡ Some task → task.opened ≡ number ∷ outer → number < length state.scopes

abbrev pub TasksStandInScopes : Type 0
TasksStandInScopes =
    (given : Given) (state : State) → IsReached given state → (id : TaskId) (task : Task) → fin.get state.tasks id ≡ Some task → task.scope < length state.scopes

-- The scopes that a task has opened are finishes, but for the loop at which it waits.
abbrev pub OuterScopesAreFinishes : Type 0
OuterScopesAreFinishes =
    (given : Given) (state : State) (id : TaskId) (task : Task) → IsReached given state
    → fin.get state.tasks id ≡ Some task → AreFinishes state.scopes (without_loop task.mode task.opened)

-- No work is left under the innermost scope of a task, where each task in it has ended and each index of it, if it is a loop, has begun.
abbrev pub ScopesAreDone : Type 0
ScopesAreDone =
    (given : Given) (state : State) (id : TaskId) (task : Task) (number : ℕ) (outer : List ℕ) → IsReached given state
    → fin.get state.tasks id ≡ Some task → task.opened ≡ number ∷ outer → AllEndedIn state number → AllBegunIn state number → left state number ≡ false

-- The innermost scope of a task that is going is no loop: there the tasks are enough.
abbrev pub FinishesAreDone : Type 0
FinishesAreDone =
    (given : Given) (state : State) (id : TaskId) (task : Task) (number : ℕ) (outer : List ℕ) → IsReached given state
    → fin.get state.tasks id ≡ Some task → task.mode ≡ going → task.opened ≡ number ∷ outer → AllEndedIn state number → left state number ≡ false

-- So they are for the root.
abbrev pub RootsAreDone : Type 0
RootsAreDone = (given : Given) (state : State) → IsReached given state → AllEndedIn state 0 → left state 0 ≡ false

-- Where no work is left under the root, each task has ended;
abbrev pub AllTasksHaveEnded : Type 0
AllTasksHaveEnded = (given : Given) (state : State) → IsReached given state → left state 0 ≡ false → AllEnded state

-- and so it is where the root is passed.
abbrev pub PassedStatesAreDone : Type 0
PassedStatesAreDone = (given : Given) (state : State) → IsReached given state → state.passed ≡ true → AllEnded state × (left state 0 ≡ false)
