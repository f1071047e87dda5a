-- What `parse` says of a numeral.
use Rattle.std.proofs.Common.{◌≡◌, ◌<◌, ◌≤◌, ◌^◌, ◌&&◌, refl, ℕ, Bool, true, false}
use Rattle.std.proofs.Common.{length, None, Err, nat_le, arith, rules}
use Rattle.std.proofs.lemmas.Bool.{leb-true}
use Rattle.std.proofs.lemmas.Str.Parse.{IsNumeralModel, numerals_by_value, parse_digits}
use Rattle.clap.proofs.WalkLemmas.{both}
use Rattle.std.specs.Char.{is_ascii_digit}
use Rattle.std.specs.List.{list_all}
use Rattle.std.specs.Str.Parse.{ParsesUnsigned, digits_value}
use Rattle.clap.specs.Words.{Text}
use Rattle.gr_cli.specs.Numbers.{contains, is_numeral, number_in}
use Rattle.gr_cli.specs.declared.numbers.Bounds.{Bounds}
use Rattle.gr_cli.specs.declared.numbers.TheConstants.{MAX_DIGITS}

-- Decimal digits by their class are those that `parse` takes.
pub own : IsNumeralModel (λ text. list_all is_ascii_digit text ≡ true) (digits_value 10)
own = numerals_by_value _ (search rules)

-- A numeral that `parse` refuses spells too large a number for the bounds.
pub refused : {E : Type 0} (bounds : Bounds) (text : Text) (fault : E)
    → ParsesUnsigned 64 10 text (Err fault) → is_numeral text ≡ true → bounds.most < 2 ^ 64
    → None ≡ number_in bounds text
refused bounds text fault parses numeral fits = go (contains bounds value) refl
  where
    value : ℕ
    value = digits_value 10 text

    only_digits : Bool
    only_digits = list_all is_ascii_digit text

    go : (within : Bool) → contains bounds value ≡ within → None ≡ number_in bounds text
    go false has = rw (numeral, has) refl
    go true has =
        let parts = both (nat_le 1 (length text)) (nat_le (length text) MAX_DIGITS && only_digits) numeral in
        let digits = both (nat_le (length text) MAX_DIGITS) only_digits parts.1 in
        let sides = both (nat_le bounds.least value) (nat_le value bounds.most) has in
        let some : 1 ≤ length text = leb-true 1 (length text) parts.0 in
        let top : value ≤ bounds.most = leb-true value bounds.most sides.1 in
        absurd (parse_digits own 64 text (Err fault) parses digits.1 (omega arith, omega (arith, top, fits)))
