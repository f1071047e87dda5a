-- The points of a program's code: at each, the locals of the task to whose code it belongs, and what is left to do there.
use Rattle.std.specs.Prelude.{ℕ, List, [], ◌++◌, slice_get, unwrap_or}
use Rattle.gr_syntax.specs.declared.syntax.Program.{Program}
use Rattle.gr_syntax.specs.Items.{TaskText}
use Rattle.gr_lang.specs.Next.{Todo, Running, runs, lets_of, given}

-- A point: the names of the task's locals, and what is left to do.
pub record Point : Type 0 where
  pub names : List (List ℕ)
  pub todo : List Todo

-- What contracts see of code: the program for which it stands, and its points by number.
pub record Lowered : Type 0 where
  pub program : Program
  pub points : List Point

-- No locals, and nothing to do.
abbrev pub nowhere : Point
nowhere = record { names = []; todo = [] }

-- The point of that number.
abbrev pub point_at : List Point → ℕ → Point
point_at points at = unwrap_or (slice_get points at) nowhere

-- The state of a task that stands at a point, where its locals have these words.
abbrev pub state_at : Point → List ℕ → Running
state_at point words = record { todo = point.todo; locals = given point.names words }

-- The point at which a task begins: its locals are its parameters, then what its body gives with `let`.
abbrev pub first_point : TaskText → Point
first_point task = record { names = task.params ++ lets_of task.body; todo = runs task.body }
