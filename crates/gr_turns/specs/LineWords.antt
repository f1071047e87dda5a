-- Changes of what stands at a number, and what stands there where a run opens.
use Rattle.std.specs.Prelude.{ℕ, ◌%◌, ◌+◌, ◌==◌, ◌&&◌, Bool, true, false, if◌then◌else◌, List, [], ◌∷◌, Option, Some, None}
use Rattle.gr_view.specs.Places.{put}
use Rattle.gr_vector.specs.Laws.{no_turns}
use Rattle.gr_vector.specs.Turns.{Turns}
use Rattle.gr_code.specs.declared.shapes.Shape.{Shape}
use Rattle.gr_code.specs.declared.shapes.Shape.TheVariants as shape
use Rattle.gr_turns.specs.LineView.{VectorData}

-- A change of what stands at a number, where something does.
abbrev pub changed_there : {X : Type 0} → (X → X) → (ℕ → Option X) → ℕ → Option X → ℕ → Option X
changed_there change held number None = held
changed_there change held number (Some there) = put held number (Some (change there))

abbrev pub changed_at : {X : Type 0} → (X → X) → (ℕ → Option X) → ℕ → ℕ → Option X
changed_at change held number = changed_there change held number (held number)

-- What stands where a run opens.

abbrev pub empty_data : VectorData
empty_data = record { part = []; combiner = []; groups = []; turn = None }

abbrev pub is_line : Shape → Bool
is_line shape.Vector = true
is_line _ = false

-- The vectors of shapes, in their order.
abbrev pub lines_of : List Shape → List (Option VectorData)
lines_of [] = []
lines_of (shape ∷ shapes) = (if is_line shape then Some empty_data else None) ∷ lines_of shapes

-- The turns of those whose master is here, where the first of the shapes has this number.
abbrev pub masters_from : ℕ → ℕ → ℕ → List Shape → List (Option Turns)
masters_from cores me number [] = []
masters_from cores me number (shape ∷ shapes) = (if is_line shape && number % cores == me then Some no_turns else None) ∷ masters_from cores me (number + 1) shapes
