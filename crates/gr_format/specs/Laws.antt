-- The laws of formats.
use Rattle.std.specs.Prelude.{◌≡◌, ℕ, ◌<◌, true, List, [], ◌∷◌, ◌++◌, slice_index, Ok}
use Rattle.gr_format.specs.declared.field.Field.{Field}
use Rattle.gr_format.specs.Formats.{Format, whole, field, Spells, opened}
use Rattle.gr_format.specs.Writing.{Takes, spelled}

-- What is spelled is read.
abbrev pub SpelledIsRead : Type 0 → Type 0
SpelledIsRead A = (format : Format A) (bytes : List ℕ) (value : A) → Spells format bytes value → opened format bytes ≡ Ok value

-- What is read is spelled so.
abbrev pub ReadIsSpelled : Type 0 → Type 0
ReadIsSpelled A = (format : Format A) (bytes : List ℕ) (value : A) → opened format bytes ≡ Ok value → Spells format bytes value

-- Bytes spell one value at most.
abbrev pub SpellsOne : Type 0 → Type 0
SpellsOne A = (format : Format A) (bytes : List ℕ) (one other : A) → Spells format bytes one → Spells format bytes other → one ≡ other

-- No spelling is the beginning of another.
abbrev pub SpellingsAreApart : Type 0 → Type 0
SpellingsAreApart A = (format : Format A) (bytes more : List ℕ) (one other : A) → Spells format bytes one → Spells format (bytes ++ more) other → more ≡ []

-- Numbers that a format takes spell their value.
abbrev pub TakenIsSpelled : Type 0 → Type 0
TakenIsSpelled A = (format : Format A) (fields : List Field) (value : A) → Takes format fields value → Spells format (spelled fields) value

-- Each value tells the numbers by which the format comes to it, after those that came before.
abbrev pub Tells : {A : Type 0} → (A → List ℕ) → List ℕ → Format A → Type 0
Tells numbers before (whole value) = numbers value ≡ before
Tells numbers before (field width passes next) = (n : ℕ) → passes n ≡ true → Tells numbers (before ++ n ∷ []) (next n)

-- Each number of the list is below 256.
abbrev pub AreBytes : List ℕ → Type 0
AreBytes bytes = (place : ℕ) → slice_index bytes place < 256

-- Where each value tells its numbers, it has one spelling.
abbrev pub SpelledOnce : Type 0 → Type 0
SpelledOnce A = (numbers : A → List ℕ) (format : Format A) (one other : List ℕ) (value : A) → Tells numbers [] format → AreBytes one → AreBytes other
    → Spells format one value → Spells format other value → one ≡ other
