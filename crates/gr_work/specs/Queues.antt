-- The two queues of units, and what is taken from them.
use Rattle.std.specs.Prelude.{◌-◌, List, [], ◌∷◌, length, take, Option, Some, None, Bool, true, false}
use Rattle.std.specs.List.{last_or}
use Rattle.gr_msg.specs.declared.message.Unit.{Unit as WorkUnit}

-- The core's own units, and the units that other cores may take.
pub record Queues : Type 0 where
  pub private : List WorkUnit
  pub public : List WorkUnit

abbrev pub is_empty : {X : Type 0} → List X → Bool
is_empty [] = true
is_empty (first ∷ rest) = false

-- What the core begins next: the first of its own units, or where there is none the last that others may take.
abbrev pub next_unit : List WorkUnit → List WorkUnit → Option WorkUnit
next_unit [] public = last_or None public
next_unit (first ∷ rest) public = Some first

-- The queues after that.
abbrev pub after_next : List WorkUnit → List WorkUnit → Queues
after_next [] public = record { private = []; public = take (length public - 1) public }
after_next (first ∷ rest) public = record { private = rest; public = public }
