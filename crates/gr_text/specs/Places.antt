-- The line and column of a place in a text: a newline goes to the first column of the next line, and every other byte one column on.
use Rattle.std.specs.Prelude.{ℕ, ◌+◌, ◌==◌, if◌then◌else◌, List, [], ◌∷◌, take}
use Rattle.gr_syntax.specs.declared.syntax.Place.{Place}

abbrev pub first_place : Place
first_place = record { line = 1; column = 1 }

abbrev pub after_byte : Place → ℕ → Place
after_byte place byte = if byte == 10 then record { line = place.line + 1; column = 1 } else record { line = place.line; column = place.column + 1 }

-- The place after these bytes.
abbrev pub after_bytes : Place → List ℕ → Place
after_bytes place [] = place
after_bytes place (byte ∷ bytes) = after_bytes (after_byte place byte) bytes

abbrev pub place_of : List ℕ → ℕ → Place
place_of text at = after_bytes first_place (take at text)
