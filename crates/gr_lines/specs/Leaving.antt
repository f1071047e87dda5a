-- What leaves calls that wait on vectors alone.
use Rattle.std.specs.Prelude.{◌≡◌, ℕ, true, Option, None}
use Rattle.gr_machine.specs.Machines.{thing}
use Rattle.gr_machine.specs.States.{Suspended, Body}
use Rattle.gr_machine.specs.Openings.{is_vector}
use Rattle.gr_stands.specs.Worlds.{Given, machine_in}
use Rattle.gr_lines.specs.Lines.{on_line}

-- The task of a slot waits on no vector.
abbrev pub IsOffLines : Given → Option Suspended → Type 0
IsOffLines given held = (number : ℕ) → is_vector (thing (machine_in given) number) ≡ true → on_line number held ≡ None

-- The vectors of a core stay, and the tasks that wait on them.
pub record LeavesLines (given : Given) (before after : Body) : Type 0 where
  pub vectors : after.vectors ≡ before.vectors
  pub tasks : (number slot : ℕ) → is_vector (thing (machine_in given) number) ≡ true → on_line number (after.tasks.slots slot) ≡ on_line number (before.tasks.slots slot)
