-- What is due for a task or scope of a state.
use Rattle.std.specs.Prelude.{ℕ, Bool, false, ◌&&◌, ◌||◌, if◌then◌else◌, List, [], Option, Some, None, slice_get}
use Rattle.std.specs.Option.{option_map_or, option_and_then}
use Rattle.std.specs.FinMap as fin
use Rattle.gr_lang.specs.declared.action.Entry.{Entry}
use Rattle.gr_lang.specs.declared.action.Entry.TheVariants as entry
use Rattle.gr_lang.specs.declared.action.Op.{Op}
use Rattle.gr_lang.specs.declared.action.How.{How}
use Rattle.gr_lang.specs.declared.action.TaskId.{TaskId}
use Rattle.gr_lang.specs.declared.action.TrapKind.{TrapKind}
use Rattle.gr_lang.specs.States.{State, Task, is_at_loop, is_going, left}
use Rattle.gr_tables.specs.Dues.{call_in, is_arrive, is_end, is_finish, is_loop, is_spawn, is_trap}
use Rattle.gr_tables.specs.Scopes.{args_of, begins_in}
use Rattle.gr_tables.specs.Stacks.{top_of}
use Rattle.gr_tables.specs.Turns.{scope_if}

-- The call that is due for a task.
abbrev pub due_call : State → TaskId → Option Op
due_call state id = option_and_then (λ task. if is_going task.mode then call_in task.action else None) (fin.get state.tasks id)

-- The scope of the child that the task spawns.
abbrev pub due_spawn : State → TaskId → How → ℕ → List ℕ → Option ℕ
due_spawn state id how target args = option_and_then (λ task. scope_if (is_spawn task.action how target args) task) (fin.get state.tasks id)

-- The parent of the scope that the task opens, for a `finish` and for a loop.
abbrev pub due_finish : State → TaskId → Option ℕ
due_finish state id = option_and_then (λ task. scope_if (is_finish task.action) task) (fin.get state.tasks id)

abbrev pub due_loop : State → TaskId → ℕ → ℕ → ℕ → ℕ → List ℕ → Option ℕ
due_loop state id lo hi grain target args = option_and_then (λ task. scope_if (is_loop task.action lo hi grain target args) task) (fin.get state.tasks id)

-- The scope of the loop at which the task waits.
abbrev pub loop_scope : State → TaskId → Option ℕ
loop_scope state owner = option_and_then (λ task. if is_at_loop task.mode then top_of task.opened else None) (fin.get state.tasks owner)

-- The task that begins with this index of a loop, and its arguments.
abbrev pub due_begin : State → ℕ → ℕ → Option ℕ
due_begin state number index = option_and_then (λ scope. begins_in scope.range index) (slice_get state.scopes number)

abbrev pub begin_args : State → ℕ → ℕ → List ℕ
begin_args state number index = option_map_or (λ scope. args_of scope.range index) (slice_get state.scopes number) []

-- The scope that the task waits to pass.
abbrev pub passing : Task → Option ℕ
passing task = if is_at_loop task.mode || (is_going task.mode && is_arrive task.action) then top_of task.opened else None

abbrev pub due_pass : State → TaskId → Option ℕ
due_pass state id = option_and_then passing (fin.get state.tasks id)

-- Whether work is left under the scope that the entry passes.
abbrev pub is_blocked : State → Entry → Bool
is_blocked state (entry.Pass id) = option_map_or (left state) (due_pass state id) false
is_blocked state entry.Over = left state 0
is_blocked state _ = false

-- Whether the end of the body is due.
abbrev pub due_end : State → TaskId → Bool
due_end state id = option_map_or (λ task. is_going task.mode && is_end task.action) (fin.get state.tasks id) false

-- Whether this trap is due.
abbrev pub due_trap : ℕ → State → TaskId → TrapKind → Bool
due_trap cores state id kind = option_map_or (λ task. is_going task.mode && is_trap cores task.action kind) (fin.get state.tasks id) false
