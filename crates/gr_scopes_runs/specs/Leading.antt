-- What comes of an outcome for the part of scopes, in the plain state to which the entries of its marks lead.
use Rattle.std.specs.Prelude.{◌≡◌, ℕ, List, ◌∷◌, Some}
use Rattle.std.specs.FinMap as fin
use Rattle.gr_lang.specs.declared.action.TaskId.{TaskId}
use Rattle.gr_lang.specs.States.{Task, State}
use Rattle.gr_msg.specs.declared.message.ScopeId.{ScopeId}
use Rattle.gr_machine.specs.States.{Letter}
use Rattle.gr_machine.specs.Outcomes.{Outcome}
use Rattle.gr_machine.specs.Histories.{Sent}
use Rattle.gr_stands.specs.Worlds.{Given, World}
use Rattle.gr_scopes.specs.Trees.{Names, tree_of, NamesGrow}
use Rattle.gr_scopes_opens.specs.Keeping.{KeepsScopes}
use Rattle.gr_scopes_entries.specs.Marks.{LeadsBy}

-- With names that have grown from these, the outcome at the core keeps the part of scopes, which is that of this plain state from then on.
pub record KeepsGrown (given : Given) (names : Names) (world : World) (me : ℕ) (got : List Letter) (outcome : Outcome) (next : State) : Type 0 where
  pub more : Names
  pub grown : NamesGrow names more
  pub keeps : KeepsScopes given world me got outcome more (tree_of next)

-- So it is for the plain state to which the entries of its marks lead.
abbrev pub KeepsLeading : Given → Sent → Names → World → State → ℕ → List Letter → Outcome → Type 0
KeepsLeading given sent names world state me got outcome =
    (next : State) → LeadsBy given sent me state outcome.marks next → KeepsGrown given names world me got outcome next

-- A fact of the part of work, of a chunk: its scope is the innermost of the task whose loop it is of.
pub record IsInLoop (names : Names) (state : State) (owner : TaskId) (scope : ScopeId) : Type 0 where
  pub task : Task
  pub there : fin.get state.tasks owner ≡ Some task
  pub number : ℕ
  pub outer : List ℕ
  pub opened : task.opened ≡ number ∷ outer
  pub named : names number ≡ Some scope
