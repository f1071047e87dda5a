-- Suspended tasks over the code of a program, and in which state of the language each is.
use Rattle.std.specs.Prelude.{◌≡◌, ℕ, Bool, List, length, Option, is_some, IfSome}
use Rattle.gr_lang.specs.Next.{Running}
use Rattle.gr_code.specs.declared.instructions.Onward.{Onward}
use Rattle.gr_code.specs.Points.{Lowered, point_at, state_at}
use Rattle.gr_code.specs.Instructions.{IsOnward}

-- A suspended task: its point, the words of its locals, and how it goes on where it stands at an action.
pub record Task : Type 0 where
  pub at : ℕ
  pub words : List ℕ
  pub onward : Option Onward

-- The state in which the task is.
abbrev pub state_of : Lowered → Task → Running
state_of code task = state_at (point_at code.points task.at) task.words

-- Whether the task stands at an action, as it does between one run and the reply to its action.
abbrev pub waits : Task → Bool
waits task = is_some task.onward

-- The task is one of this code: it has a word for each local, and where it stands at an action it knows how it goes on.
pub record IsOver (code : Lowered) (task : Task) : Type 0 where
  pub words : length task.words ≡ length (point_at code.points task.at).names
  pub onward : IfSome task.onward (IsOnward code.points task.at)
