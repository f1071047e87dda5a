-- What the part of scopes looks at in a plain state, its tree: in which scope each task stands and which it has opened, and how entries change that.
use Rattle.std.specs.Prelude.{◌≡◌, ℕ, ◌+◌, ◌<◌, Bool, true, if◌then◌else◌, List, [], ◌∷◌, length, map, drop, Option, Some, None}
use Rattle.std.specs.FinMap as fin
use Rattle.gr_lang.specs.declared.action.TaskId.{TaskId}
use Rattle.gr_lang.specs.States.{Task, State}
use Rattle.gr_msg.specs.declared.message.ScopeId.{ScopeId}
use Rattle.gr_machine.specs.Slots.{same_id}

-- Of a task: the scope in which it stands, and those that it has opened and not passed, the innermost first.
pub record Holder : Type 0 where
  pub scope : ℕ
  pub opened : List ℕ

abbrev pub holder_of : Option Task → Option Holder
holder_of None = None
holder_of (Some task) = Some (record { scope = task.scope; opened = task.opened })

-- The tasks, how many scopes have been opened, the root among them, and whether the root is passed.
pub record Tree : Type 0 where
  pub holders : TaskId → Option Holder
  pub count : ℕ
  pub passed : Bool

abbrev pub tree_of : State → Tree
tree_of state = record { holders = λ id. holder_of (fin.get state.tasks id); count = length state.scopes; passed = state.passed }

-- What entries make of it

unfoldable pub put_holder : (TaskId → Option Holder) → TaskId → Holder → TaskId → Option Holder
put_holder holders id holder other = if same_id other id then Some holder else holders other

-- A task is made in a scope.
abbrev pub with_task : Tree → TaskId → ℕ → Tree
with_task tree id scope = record tree { holders = put_holder tree.holders id (record { scope = scope; opened = [] }) }

-- A task opens a scope, which becomes its innermost.
abbrev pub with_opened : Tree → TaskId → Holder → Tree
with_opened tree id holder = record tree { holders = put_holder tree.holders id (record holder { opened = tree.count ∷ holder.opened }); count = tree.count + 1 }

-- A loop over nothing opens a scope and passes it at once.
abbrev pub with_empty : Tree → Tree
with_empty tree = record tree { count = tree.count + 1 }

-- A task passes its innermost scope.
abbrev pub with_passed : Tree → TaskId → Holder → Tree
with_passed tree id holder = record tree { holders = put_holder tree.holders id (record holder { opened = drop 1 holder.opened }) }

-- The root is passed.
abbrev pub with_over : Tree → Tree
with_over tree = record tree { passed = true }

-- The order of scopes

-- Each of these scopes was opened before those that stand before it, and after this one.
abbrev pub Rises : (scope top : ℕ) → List ℕ → Type 0
Rises scope top [] = scope < top
Rises scope top (one ∷ more) = (one < top) × Rises scope one more

-- The names of scopes

-- The names that the machine gives to scopes, by their numbers in the plain state. The scope of a loop over nothing has none.
abbrev pub Names : Type 0
Names = ℕ → Option ScopeId

-- Scopes keep their names, and there may be more.
abbrev pub NamesGrow : Names → Names → Type 0
NamesGrow names more = (number : ℕ) (scope : ScopeId) → names number ≡ Some scope → more number ≡ Some scope

-- The task of this name stands in the scope of this name in the plain state, and has opened the scopes of these names.
pub record IsHeld (names : Names) (tree : Tree) (id : TaskId) (scope : ScopeId) (opened : List ScopeId) : Type 0 where
  pub holder : Holder
  pub there : tree.holders id ≡ Some holder
  pub inside : names holder.scope ≡ Some scope
  pub opens : map names holder.opened ≡ map Some opened

-- A scope of the plain state has this name.
pub record IsScope (names : Names) (scope : ScopeId) : Type 0 where
  pub number : ℕ
  pub named : names number ≡ Some scope
