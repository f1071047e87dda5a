-- Words, places and keyed calls, told by shapes.
use Rattle.std.specs.Prelude.{ℕ, ◌+◌, ◌-◌, ◌≤◌, ◌&&◌, Bool, true, false, nat_le, nat_lt, if◌then◌else◌, List, [], ◌∷◌, Option, Some, None}
use Rattle.gr_lang.specs.declared.action.Op.{Op}
use Rattle.gr_lang.specs.declared.action.Op.TheVariants as op
use Rattle.gr_code.specs.declared.shapes.Shape.{Shape}
use Rattle.gr_code.specs.declared.shapes.Shape.TheVariants as shape
use Rattle.gr_machine.specs.Calls.{is_reducer}

-- The words of an array end by this address.
abbrev pub EndsBy : ℕ → Option Shape → Type 0
EndsBy end (Some (shape.Words from words)) = from + words ≤ end
EndsBy end _ = Unit

-- The address of a place of an array.
abbrev pub address_by : Option Shape → ℕ → Option ℕ
address_by (Some (shape.Words from words)) place = if nat_lt place words then Some (from + place) else None
address_by _ place = None

-- The place among words that have this address.
abbrev pub place_by : Shape → ℕ → Option ℕ
place_by (shape.Words from words) at = if nat_le from at && nat_lt at (from + words) then Some (at - from) else None
place_by _ at = None

-- The array that has an address among its words, with the place there. Arrays are numbered from the first of these on.
abbrev pub array_by : ℕ → ℕ → List Shape → Option (ℕ × ℕ)
array_by object at [] = None
array_by object at (shape.Words from words ∷ more) = if nat_le from at && nat_lt at (from + words) then Some (object, at - from) else array_by (object + 1) at more
array_by object at (_ ∷ more) = array_by (object + 1) at more

-- Whether a call on a key is one of what has this shape.
abbrev pub is_keyed_by : Op → Option Shape → Bool
is_keyed_by (op.Insert object key) (Some shape.Set) = true
is_keyed_by (op.Remove object key) (Some shape.Set) = true
is_keyed_by (op.Has object key) (Some shape.Set) = true
is_keyed_by (op.Put object key word) (Some shape.Map) = true
is_keyed_by (op.Get object key) (Some shape.Map) = true
is_keyed_by (op.Erase object key) (Some shape.Map) = true
is_keyed_by (op.Merge object reducer key word) (Some shape.Map) = is_reducer reducer
is_keyed_by _ _ = false
