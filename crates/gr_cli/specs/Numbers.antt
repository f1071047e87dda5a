-- Which numbers an option takes, and how they are written.
use Rattle.std.specs.Prelude.{ℕ, ◌≤◌, Bool, ◌&&◌, length, Option, Some, None, if◌then◌else◌, nat_le}
use Rattle.std.specs.Char.{is_ascii_digit}
use Rattle.std.specs.List.{list_all}
use Rattle.std.specs.Str.Parse.{digits_value}
use Rattle.clap.specs.Words.{Text}
use Rattle.gr_cli.specs.declared.numbers.Bounds.{Bounds}
use Rattle.gr_cli.specs.declared.numbers.TheConstants.{MAX_DIGITS}

-- The number is within the bounds.
abbrev pub IsWithin : Bounds → ℕ → Type 0
IsWithin bounds number = (bounds.least ≤ number) × (number ≤ bounds.most)

-- Whether the text is one or more decimal digits, and not too many of them.
abbrev pub is_numeral : Text → Bool
is_numeral text =
    nat_le 1 (length text) && (nat_le (length text) MAX_DIGITS && list_all is_ascii_digit text)

-- Whether the number is within the bounds.
abbrev pub contains : Bounds → ℕ → Bool
contains bounds number = nat_le bounds.least number && nat_le number bounds.most

-- The number that the text spells in decimal, where it is a numeral of one within the bounds.
abbrev pub number_in : Bounds → Text → Option ℕ
number_in bounds text =
    if is_numeral text && contains bounds (digits_value 10 text) then Some (digits_value 10 text) else None
