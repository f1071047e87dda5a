-- How the loops at which tasks wait change.
use Rattle.std.specs.Prelude.{◌≡◌, ℕ, ◌<◌, if◌then◌else◌, List, ◌∷◌, length, slice_get, Option, Some, None}
use Rattle.std.specs.FinMap as fin
use Rattle.std.specs.FinSet as set
use Rattle.gr_lang.specs.declared.action.Entry.{Entry}
use Rattle.gr_lang.specs.declared.action.Entry.TheVariants as entry
use Rattle.gr_lang.specs.declared.action.TaskId.{TaskId}
use Rattle.gr_lang.specs.States.{at_loop, Task, Scope, State}
use Rattle.gr_machine.specs.Slots.{same_id}
use Rattle.gr_shares.specs.Loops.{Loop, Loops, left_in, loops_of}
use Rattle.gr_shares.specs.ShareActs.{AllBegun}

-- What a loop of a plain state is: that of the innermost scope of a task which waits at it.
pub record WaitsAtLoop (state : State) (owner : TaskId) (loop : Loop) : Type 0 where
  pub task : Task
  pub there : fin.get state.tasks owner ≡ Some task
  pub waits : task.mode ≡ at_loop
  pub outer : List ℕ
  pub opened : task.opened ≡ loop.number ∷ outer
  pub scope : Scope
  pub placed : slice_get state.scopes loop.number ≡ Some scope
  pub ranged : scope.range ≡ Some loop.range

-- The loops, with another one, or none, for this task.
unfoldable pub put_loop : Loops → TaskId → Option Loop → Loops
put_loop loops id loop other = if same_id other id then loop else loops other

-- The loop that a task opens next.
abbrev pub new_loop : State → ℕ → ℕ → ℕ → List ℕ → Loop
new_loop state lo hi target args = record { number = length state.scopes; range = record { lo = lo; hi = hi; target = target; args = args; begun = set.empty } }

-- One index more has begun.
abbrev pub begun_at : Loop → ℕ → Loop
begun_at loop index = record { number = loop.number; range = record loop.range { begun = set.insert loop.range.begun index } }

-- An entry by which no loop is opened or passed, and no index begins.
abbrev pub IsOfNoLoop : Entry → Type 0
IsOfNoLoop (entry.Loop id lo hi grain target args) = ⊥
IsOfNoLoop (entry.Begin owner index kid) = ⊥
IsOfNoLoop (entry.Pass id) = ⊥
IsOfNoLoop _ = Unit

-- A fact of the part of scopes: the innermost scope of each task is one that has been opened.
abbrev pub ScopesAreThere : State → Type 0
ScopesAreThere state = (id : TaskId) (task : Task) (number : ℕ) (outer : List ℕ) → fin.get state.tasks id ≡ Some task → task.opened ≡ number ∷ outer → number < length state.scopes

-- The task waited at no loop, and waits at a new one.
pub record OpensLoop (before after : State) (id : TaskId) (lo hi target : ℕ) (args : List ℕ) : Type 0 where
  pub none : loops_of before id ≡ None
  pub loops : (other : TaskId) → loops_of after other ≡ put_loop (loops_of before) id (Some (new_loop before lo hi target args)) other

-- The index was left of the loop at which its owner waits, and has begun.
pub record BeginsIndex (before after : State) (owner : TaskId) (index : ℕ) : Type 0 where
  pub loop : Loop
  pub there : loops_of before owner ≡ Some loop
  pub left : left_in loop.range index ≡ 1
  pub loops : (other : TaskId) → loops_of after other ≡ put_loop (loops_of before) owner (Some (begun_at loop index)) other

-- The task waits at no loop; of the one at which it waited, if it did, all indices have begun.
pub record PassesLoop (before after : State) (id : TaskId) : Type 0 where
  pub begun : (loop : Loop) → loops_of before id ≡ Some loop → AllBegun loop
  pub loops : (other : TaskId) → loops_of after other ≡ put_loop (loops_of before) id None other
