-- What a core has of the vector of a number: its line.
use Rattle.std.specs.Prelude.{ℕ, ◌==◌, Bool, false, if◌then◌else◌, Option, Some, None}
use Rattle.gr_machine.specs.declared.waits.Waits.{Waits}
use Rattle.gr_machine.specs.declared.waits.Waits.TheVariants as wait
use Rattle.gr_machine.specs.States.{Suspended, Vector, Body}
use Rattle.gr_machine.specs.Openings.{empty_vector}

-- Whether a task waits for calls on the vector to go off, or for a turn of it.
abbrev pub waits_on : ℕ → Waits → Bool
waits_on number (wait.Close object) = object == number
waits_on number (wait.Turn vector) = vector == number
waits_on number _ = false

-- The task in a slot, if it waits so.
abbrev pub on_line : ℕ → Option Suspended → Option Suspended
on_line number None = None
on_line number (Some task) = if waits_on number task.waits then Some task else None

-- What a core has of a vector: nothing, where it has none.
abbrev pub vector_in : Option Vector → Vector
vector_in None = empty_vector
vector_in (Some vector) = vector

-- The tasks at a core that wait for calls on the vector, by slot.
abbrev pub tasks_on : ℕ → Body → ℕ → Option Suspended
tasks_on number body slot = on_line number (body.tasks.slots slot)
