-- A plain memory with its program and setup: how it opens, what an entry makes of it, and which entry a task has next.
use Rattle.std.specs.Prelude.{ℕ, if◌then◌else◌, Option, Some, None}
use Rattle.std.specs.Option.{option_map, option_and_then}
use Rattle.std.specs.FinMap as fin
use Rattle.gr_syntax.specs.declared.syntax.Program.{Program}
use Rattle.gr_lang.specs.declared.action.Action.{Action}
use Rattle.gr_lang.specs.declared.action.Action.TheVariants as action
use Rattle.gr_lang.specs.declared.action.Entry.{Entry}
use Rattle.gr_lang.specs.declared.action.Entry.TheVariants as entry
use Rattle.gr_lang.specs.declared.action.TaskId.{TaskId}
use Rattle.gr_lang.specs.Objects.{Objects, call}
use Rattle.gr_lang.specs.States.{State, is_going, opening_state}
use Rattle.gr_lang.specs.Steps.{step}

-- A program with the number of cores, the limit of pure steps, and a state.
pub record Held : Type 0 where
  pub program : Program
  pub cores : ℕ
  pub steps : ℕ
  pub state : State

-- Before the first entry.
abbrev pub opening_held : Program → ℕ → ℕ → Held
opening_held program cores steps = record { program = program; cores = cores; steps = steps; state = opening_state program steps }

-- The same with another state.
abbrev pub with_state : Held → State → Held
with_state held state = record held { state = state }

-- After one entry, where it is a step.
abbrev pub stepped : Held → Entry → Option Held
stepped held one = option_map (with_state held) (step held.program held.cores held.steps held.state one)

-- The legal entry of a going task at this action, where it is a call, an end or a trap.
abbrev pub entry_of : Objects → TaskId → Action → Option Entry
entry_of objects id (action.Call op) = Some (entry.Call id op (call op objects).1)
entry_of objects id action.End = Some (entry.End id)
entry_of objects id (action.Trap kind) = Some (entry.Trap id kind)
entry_of objects id _ = None

-- The legal entry of the task, where it is going.
abbrev pub entry_due : State → TaskId → Option Entry
entry_due state id = option_and_then (λ task. if is_going task.mode then entry_of state.objects id task.action else None) (fin.get state.tasks id)
