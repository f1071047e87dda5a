-- Numbers as they are written: each with its number of bytes.
use Rattle.std.specs.Prelude.{◌≡◌, ℕ, ◌<◌, ◌^◌, true, List, [], ◌∷◌}
use Rattle.std.specs.List.{flat_map}
use Rattle.std.specs.Int.{bytes_high_first}
use Rattle.gr_format.specs.declared.field.Field.{Field}
use Rattle.gr_format.specs.declared.field.Field.TheVariants.{Byte, Pair, Word}
use Rattle.gr_format.specs.Formats.{Format, whole, field}

-- With how many bytes a number is written.
abbrev pub width_of : Field → ℕ
width_of (Byte n) = 1
width_of (Pair n) = 2
width_of (Word n) = 8

-- The number that is written.
abbrev pub number_of : Field → ℕ
number_of (Byte n) = n
number_of (Pair n) = n
number_of (Word n) = n

-- The lowest bytes of the number, as many as it has, the highest of them first.
abbrev pub written : Field → List ℕ
written f = bytes_high_first (width_of f) (number_of f)

-- The bytes of numbers, one number after the other.
abbrev pub spelled : List Field → List ℕ
spelled fields = flat_map written fields

-- The format takes these numbers, each with its width and in its range, and gives the value.
abbrev pub Takes : {A : Type 0} → Format A → List Field → A → Type 0
Takes (whole value) [] other = value ≡ other
Takes (whole value) (f ∷ fields) other = ⊥
Takes (field width passes next) [] value = ⊥
Takes (field width passes next) (f ∷ fields) value =
    (width_of f ≡ width) × (number_of f < 256 ^ width) × (passes (number_of f) ≡ true) × Takes (next (number_of f)) fields value
