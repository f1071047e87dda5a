-- Cores whose calls that wait to be combined, or are under way, stay as they are.
use Rattle.std.specs.Prelude.{◌≡◌, ◌⊎◌, ℕ, Option, None}
use Rattle.gr_machine.specs.Machines.{Machine}
use Rattle.gr_machine.specs.States.{Suspended, Body}
use Rattle.gr_stands.specs.Calls.{of_slot}
use Rattle.gr_batches.specs.Batches.{is_closing, is_flying, CoreStands}

-- What is in a slot is no task that waits for the calls on an object to go off, where that is no vector, nor for a batch.
pub record IsFree (body : Body) (held : Option Suspended) : Type 0 where
  pub closing : (object : ℕ) → body.vectors.vectors object ≡ None → of_slot (is_closing object) held ≡ 0
  pub flying : (batch : ℕ) → of_slot (is_flying batch) held ≡ 0

-- The calls stay, and so does each task that has one of them; no vector goes.
pub record CallsStay (before after : Body) : Type 0 where
  pub batches : after.batches ≡ before.batches
  pub vectors : (object : ℕ) → after.vectors.vectors object ≡ None → before.vectors.vectors object ≡ None
  pub slots : (slot : ℕ) → (after.tasks.slots slot ≡ before.tasks.slots slot) ⊎ (IsFree before (before.tasks.slots slot) × IsFree before (after.tasks.slots slot))

abbrev pub CoresAreKept : Type 0
CoresAreKept = (machine : Machine) (before after : Body) → CallsStay before after → CoreStands machine before → CoreStands machine after
