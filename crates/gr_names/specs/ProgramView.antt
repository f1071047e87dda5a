-- What the tables of a program keep.
use Rattle.std.specs.Prelude.{◌≡◌, ℕ, List}
use Rattle.gr_syntax.specs.declared.syntax.Item.{Item}
use Rattle.gr_syntax.specs.Items.{object_names}
use Rattle.gr_names.specs.Numbered.{task_names}
use Rattle.gr_names.specs.declared.program.ProgramNames.TheInside.{Inside}

-- These are the names of the objects and of the tasks that the items declare.
pub record AreNamesOf (items : List Item) (objects tasks : List (List ℕ)) : Type 0 where
  pub objects_are : objects ≡ object_names items
  pub tasks_are : tasks ≡ task_names items

-- The tables are those of the program.
abbrev pub IsOfProgram : Inside → Type 0
IsOfProgram names = AreNamesOf names.program.now.items names.objects names.tasks
