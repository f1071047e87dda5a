-- The number of tasks of each scope that haven't ended, and what an entry changes in these numbers.
use Rattle.std.specs.Prelude.{◌≡◌, ℕ, Bool, ◌||◌, nat_lt, List, length, slice_index, Option}
use Rattle.std.specs.Option.{option_map, option_and_then}
use Rattle.std.specs.List.{count_by}
use Rattle.std.specs.FinMap as fin
use Rattle.gr_lang.specs.declared.action.Entry.{Entry}
use Rattle.gr_lang.specs.declared.action.Entry.TheVariants as entry
use Rattle.gr_syntax.specs.declared.syntax.Program.{Program}
use Rattle.gr_lang.specs.States.{State, Task, innermost, id_cmp}
use Rattle.gr_valid.specs.Valid.{IsValid}
use Rattle.gr_valid.specs.Work.{has_index, works_in}
use Rattle.gr_tables.specs.Changes.{begins_in, ends_in}
use Rattle.gr_tables.specs.Stacks.{top_of}
use Rattle.gr_tables.specs.declared.counts.Change.{Change}
use Rattle.gr_tables.specs.declared.counts.Change.TheVariants as change

-- How many of these tasks stand in the scope and haven't ended.
abbrev pub unended_of : fin.FinMap id_cmp Task → ℕ → ℕ
unended_of tasks scope = count_by (works_in scope) (fin.values tasks)

-- The numbers of a valid state, scope by scope.
pub record IsCounted (program : Program) (state : State) (counts : List ℕ) : Type 0 where
  pub valid : IsValid program state
  pub scopes : length counts ≡ length state.scopes
  pub unended : (scope : ℕ) → slice_index counts scope ≡ unended_of state.tasks scope

-- Whether work stands in the scope itself: a task that hasn't ended, or an index that hasn't begun.
abbrev pub is_work_in : List ℕ → State → ℕ → Bool
is_work_in counts state scope = nat_lt 0 (slice_index counts scope) || has_index state scope

-- What an entry changes, where it is a step: a spawned task stands in the innermost scope of the one that spawns it, and a task of a loop in the loop's scope.
abbrev pub change_of : State → Entry → Change
change_of state (entry.Spawn id how target args child) = begins_in (option_map innermost (fin.get state.tasks id))
change_of state (entry.Begin owner index child) = begins_in (option_and_then (λ task. top_of task.opened) (fin.get state.tasks owner))
change_of state (entry.End id) = ends_in (option_map (λ task. task.scope) (fin.get state.tasks id))
change_of state (entry.Finish id) = change.Opens
change_of state (entry.Loop id lo hi grain target args) = change.Opens
change_of state _ = change.Stays
