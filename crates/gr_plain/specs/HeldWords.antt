-- A plain memory with other objects, tasks or scopes in its state, and one that refuses an entry.
use Rattle.std.specs.Prelude.{ℕ, List, [], ◌∷◌, ◌++◌, Option, Some, None, ◌≡◌}
use Rattle.std.specs.FinMap as fin
use Rattle.gr_lang.specs.declared.action.Entry.{Entry}
use Rattle.gr_lang.specs.declared.action.TaskId.{TaskId}
use Rattle.gr_lang.specs.Objects.{Objects}
use Rattle.gr_lang.specs.States.{Range, Scope, Task, id_cmp}
use Rattle.gr_tables.specs.declared.tasks.Turn.{Turn}
use Rattle.gr_plain.specs.Held.{Held, stepped, with_state}
use Rattle.gr_tables.specs.Turns.{changed_at, turned}

abbrev pub with_objects : Held → Objects → Held
with_objects held objects = with_state held (record held.state { objects = objects })

abbrev pub with_tasks : Held → fin.FinMap id_cmp Task → Held
with_tasks held tasks = with_state held (record held.state { tasks = tasks })

abbrev pub with_scopes : Held → List Scope → Held
with_scopes held scopes = with_state held (record held.state { scopes = scopes })

abbrev pub new_scope : TaskId → ℕ → Option Range → Scope
new_scope owner parent range = record { owner = Some owner; parent = parent; range = range }

-- With one scope more.
abbrev pub with_scope : Held → Scope → Held
with_scope held scope = with_scopes held (held.state.scopes ++ scope ∷ [])

-- After a turn of the task of this id; where there is none, nothing has changed.
abbrev pub after_turn : Held → TaskId → Turn → Held
after_turn held id turn = with_tasks held (changed_at held.state.tasks id (turned held.program held.steps turn))

-- The entry is no step, and nothing has changed.
abbrev pub IsRefused : Held → Entry → Held → Type 0
IsRefused old entry new = (stepped old entry ≡ None) × (new ≡ old)
