-- Formats: values spelled as big-endian numbers one after the other, each in a range that the numbers before it may name.
use Rattle.std.specs.Prelude.{◌≡◌, ℕ, zero, suc, ◌+◌, ◌-◌, ◌*◌, ◌^◌, nat_le, ◌&&◌, Bool, true, if◌then◌else◌, List, [], ◌∷◌, length, take, drop, Result, Ok, Err}
use Rattle.std.specs.Int.{is_in_range}

-- What spells a value: nothing more; or a number of so many bytes that passes a test, and then what this number says.
pub data Format (A : Type 0) : Type 0 where
  whole : A → Format A
  field : ℕ → (ℕ → Bool) → (ℕ → Format A) → Format A

-- The number of some bytes, the highest first.
abbrev pub number : List ℕ → ℕ
number [] = 0
number (byte ∷ bytes) = byte * 256 ^ length bytes + number bytes

-- The bytes begin with a number of so many bytes, and it passes.
unfoldable pub begins : ℕ → (ℕ → Bool) → List ℕ → Bool
begins width passes bytes = nat_le width (length bytes) && passes (number (take width bytes))

-- The bytes spell the value: they begin with a number that passes, and the rest spells it as this number says.
unfoldable pub Spells : {A : Type 0} → Format A → List ℕ → A → Type 0
Spells (whole value) bytes other = (bytes ≡ []) × (value ≡ other)
Spells (field width passes next) bytes value = (begins width passes bytes ≡ true) × Spells (next (number (take width bytes))) (drop width bytes) value

-- Reading from the left: the value and the bytes behind it, or how many bytes are left at the first number that is cut off or doesn't pass.
unfoldable pub reading : {A : Type 0} → Format A → List ℕ → Result (A × List ℕ) ℕ
reading (whole value) bytes = Ok (value, bytes)
reading (field width passes next) bytes =
    if begins width passes bytes then reading (next (number (take width bytes))) (drop width bytes) else Err (length bytes)

-- The value where nothing is left behind it, or else the place of the fault in so many bytes.
abbrev pub opened_of : {A : Type 0} → ℕ → Result (A × List ℕ) ℕ → Result A ℕ
opened_of size (Ok (value, [])) = Ok value
opened_of size (Ok (value, byte ∷ rest)) = Err (size - length (byte ∷ rest))
opened_of size (Err left) = Err (size - left)

-- The value that all of the bytes spell, or the place of the first fault: where reading stops, or else the first byte behind the value.
unfoldable pub opened : {A : Type 0} → Format A → List ℕ → Result A ℕ
opened format bytes = opened_of (length bytes) (reading format bytes)

-- Formats put together.

-- A number of so many bytes in a range.
unfoldable pub ranged : ℕ → ℕ → ℕ → Format ℕ
ranged width least most = field width (is_in_range least most) whole

-- A value, and then what it says.
infixl 10 ◌>>=◌
unfoldable pub ◌>>=◌ : {A B : Type 0} → Format A → (A → Format B) → Format B
(whole value) >>= next = next value
(field width passes first) >>= next = field width passes (λ n. first n >>= next)

-- So many values, one after the other.
unfoldable pub times : {A : Type 0} → ℕ → Format A → Format (List A)
times zero format = whole []
times (suc count) format = do
  value ← format
  values ← times count format
  whole (value ∷ values)
