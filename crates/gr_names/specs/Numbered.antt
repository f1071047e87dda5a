-- The names of a program's objects and tasks, by their numbers.
use Rattle.std.specs.Prelude.{ℕ, ◌==◌, if◌then◌else◌, List, [], map, unwrap_or, slice_get, codes}
use Rattle.gr_syntax.specs.declared.limits.TheConstants.{HEAP}
use Rattle.gr_syntax.specs.declared.syntax.Item.{Item}
use Rattle.gr_syntax.specs.declared.syntax.Program.{Program}
use Rattle.gr_syntax.specs.Items.{object_names, tasks_of}

-- The names of the tasks that items declare.
abbrev pub task_names : List Item → List (List ℕ)
task_names items = map (λ task. task.name) (tasks_of items)

-- The name at this place; empty where there is none.
abbrev pub name_at : List (List ℕ) → ℕ → List ℕ
name_at names place = unwrap_or (slice_get names place) []

-- The name of the object of that number. The heap has a number of its own.
abbrev pub object_name : Program → ℕ → List ℕ
object_name program number = if number == HEAP then codes "heap" else name_at (object_names program.items) number

-- The name of the task of that number.
abbrev pub task_name : Program → ℕ → List ℕ
task_name program number = name_at (task_names program.items) number
