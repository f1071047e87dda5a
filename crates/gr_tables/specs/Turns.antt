-- What a turn makes of a task, and of the tasks.
use Rattle.std.specs.Prelude.{ℕ, Bool, ◌&&◌, if◌then◌else◌, ◌∷◌, Option, Some, None}
use Rattle.std.specs.Option.{option_map_or}
use Rattle.std.specs.FinMap as fin
use Rattle.gr_syntax.specs.declared.syntax.Program.{Program}
use Rattle.gr_lang.specs.declared.action.TaskId.{TaskId}
use Rattle.gr_lang.specs.Effects.{nothing}
use Rattle.gr_lang.specs.States as state
use Rattle.gr_lang.specs.Steps.{goes_on}
use Rattle.gr_tables.specs.declared.tasks.Turn.{Turn}
use Rattle.gr_tables.specs.declared.tasks.Turn.TheVariants as turn
use Rattle.gr_tables.specs.Stacks.{under_top}

-- A task after its turn.
abbrev pub turned : Program → ℕ → Turn → state.Task → state.Task
turned program steps (turn.GoesOn reply) task = goes_on program steps task reply
turned program steps (turn.Enters scope) task = record (goes_on program steps task nothing) { opened = scope ∷ task.opened }
turned program steps (turn.Waits scope) task = record task { mode = state.at_loop; opened = scope ∷ task.opened }
turned program steps turn.Leaves task = record (goes_on program steps task nothing) { opened = under_top task.opened }
turned program steps turn.Ends task = record task { mode = state.ended }
turned program steps turn.Traps task = record task { mode = state.trapped }

-- The tasks after a change of the one of this id; where there is none, the same tasks.
abbrev pub changed_at : fin.FinMap state.id_cmp state.Task → TaskId → (state.Task → state.Task) → fin.FinMap state.id_cmp state.Task
changed_at tasks id change = option_map_or (λ task. fin.insert tasks id (change task)) (fin.get tasks id) tasks

-- The scope under which new work of the task stands, where it is going and this is due.
abbrev pub scope_if : Bool → state.Task → Option ℕ
scope_if is_due task = if state.is_going task.mode && is_due then Some (state.innermost task) else None
