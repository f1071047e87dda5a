-- The objects and tasks that the items of a program declare. Objects and tasks have numbers from 0 in the order of the text.
use Rattle.std.specs.Prelude.{ℕ, if◌then◌else◌, List, [], ◌∷◌, map, Option, Some, position, codes}
use Rattle.std.specs.Str.{bytes_eq}
use Rattle.gr_syntax.specs.declared.limits.TheConstants.{HEAP}
use Rattle.gr_syntax.specs.declared.syntax.Item.{Item}
use Rattle.gr_syntax.specs.declared.syntax.Item.TheVariants as item
use Rattle.gr_syntax.specs.declared.syntax.Stmt.{Stmt}
use Rattle.gr_syntax.specs.declared.syntax.Name.{Name}
use Rattle.gr_syntax.specs.declared.syntax.Program.{Program}

-- A task of the text.
pub record TaskText : Type 0 where
  pub name : List ℕ
  pub params : List (List ℕ)
  pub body : List Stmt

abbrev pub texts : List Name → List (List ℕ)
texts = map (λ n. n.text)

abbrev pub tasks_of : List Item → List TaskText
tasks_of [] = []
tasks_of (item.Task name params body ∷ more) = record { name = name.text; params = texts params; body = body } ∷ tasks_of more
tasks_of (_ ∷ more) = tasks_of more

-- The names of the objects other than the heap.
abbrev pub object_names : List Item → List (List ℕ)
object_names [] = []
object_names (item.Array name words ∷ more) = name.text ∷ object_names more
object_names (item.Set name ∷ more) = name.text ∷ object_names more
object_names (item.Map name ∷ more) = name.text ∷ object_names more
object_names (item.Vector name ∷ more) = name.text ∷ object_names more
object_names (_ ∷ more) = object_names more

-- The number of the object of that name, where the program has it. The heap has a number of its own.
abbrev pub object_named : Program → List ℕ → Option ℕ
object_named program name = if bytes_eq name (codes "heap") then Some HEAP else position (bytes_eq name) (object_names program.items)

-- The number of the task of that name, where the program has it.
abbrev pub task_named : Program → List ℕ → Option ℕ
task_named program name = position (λ task. bytes_eq name task.name) (tasks_of program.items)
