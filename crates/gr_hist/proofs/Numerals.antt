-- The reader takes a numeral just where it is what `decimal` writes.
use Rattle.std.proofs.Common.{◌≡◌, ◌∙◌, ◌<◌, ◌≤◌, ◌^◌, ◌&&◌, ◌+◌, ◌*◌, ◌-◌, ap, refl, sym, ℕ, zero, suc, true, not, [], ◌∷◌, length, nat_lt, nat_le, Option, Some, None, arith, decimal, get_or, option_and_then}
use Rattle.std.proofs.lemmas.Bool.{and_parts, ne_eqb, eq-eqb, ltb-true, lt-ltb, leb-true, le-leb}
use Rattle.std.proofs.lemmas.Option.{cond_some, same_Some}
use Rattle.std.specs.Fmt.{digits}
use Rattle.std.specs.Char.{digit_value, is_ascii_digit}
use Rattle.std.specs.Str.Parse.{AllDigits, digits_value, digits_value_after}
use Rattle.std.proofs.lemmas.List.Elements.{All-cons, All-nil}
use Rattle.std.proofs.lemmas.Str.{digit_value_digit}
use Rattle.std.proofs.lemmas.Str.Parse.{digit_from_value, numerals_by_value, tells_digits}
use Rattle.std.proofs.lemmas.Fmt.{decimal-digits_value, decimal_is_IsNumeral, first_decimal}
use Rattle.gr_hist.specs.Names.{Bytes}
use Rattle.gr_hist.specs.FieldWords.{digit_after, digits_after, leads, number_of}
use Rattle.gr_hist.proofs.Choices.{if_some}
use Rattle.gr_hist.proofs.Cutting.{Over}

digit_found : (number byte more : ℕ) → digit_after number byte ≡ Some more → (digit_value byte < 10) × (more ≡ number * 10 + digit_value byte) × (more < 2 ^ 64)
digit_found number byte more h =
    let sum = number * 10 + (byte - 48) in
    let found = cond_some (is_ascii_digit byte && nat_lt sum (2 ^ 64)) sum more h in
    let tests = and_parts (is_ascii_digit byte) (nat_lt sum (2 ^ 64)) found.0 in
    let range = and_parts (nat_le 48 byte) (nat_le byte 57) tests.0 in
    let low : 48 ≤ byte = leb-true _ _ range.0 in
    let high : byte ≤ 57 = leb-true _ _ range.1 in
    let small : number * 10 + (byte - 48) < 2 ^ 64 = ltb-true _ _ tests.1 in
    let digit : digit_value byte + 48 ≡ byte = digit_value_digit byte (low, high) in
    let same : number * 10 + (byte - 48) ≡ more = found.1 in
    (omega arith, omega arith, omega arith)

digit_only : (number byte : ℕ) → digit_value byte < 10 → number * 10 + digit_value byte < 2 ^ 64 → digit_after number byte ≡ Some (number * 10 + digit_value byte)
digit_only number byte small fits =
    let range = digit_from_value byte small in
    let digit : digit_value byte + 48 ≡ byte = digit_value_digit byte range in
    let is : byte - 48 ≡ digit_value byte = omega arith in
    let low : nat_le 48 byte ≡ true = le-leb _ _ range.0 in
    let high : nat_le byte 57 ≡ true = le-leb _ _ range.1 in
    let less : nat_lt (number * 10 + (byte - 48)) (2 ^ 64) ≡ true = lt-ltb _ _ (omega arith) in
    rw (low, high, less) (ap (λ (k : ℕ). Some (number * 10 + k)) is)

le_after : (number : ℕ) (bytes : Bytes) → number ≤ digits_value_after 10 number bytes
le_after number [] = omega arith
le_after number (byte ∷ bytes) = omega (arith, le_after (number * 10 + digit_value byte) bytes)

digits_found : (number : ℕ) (bytes : Bytes) (value : ℕ) → number < 2 ^ 64 → digits_after number bytes ≡ Some value
    → AllDigits 10 bytes × (digits_value_after 10 number bytes ≡ value) × (value < 2 ^ 64)
digits_found number [] value fits h =
    let same : number ≡ value = same_Some number value h in
    (tt, same, omega arith)
digits_found number (byte ∷ bytes) value fits h = by (digit_after number byte) refl h (λ more. digits_found more bytes value)
  where
    by : (found : Option ℕ) → digit_after number byte ≡ found → option_and_then (λ more. digits_after more bytes) found ≡ Some value
        → ((more : ℕ) → more < 2 ^ 64 → digits_after more bytes ≡ Some value → AllDigits 10 bytes × (digits_value_after 10 more bytes ≡ value) × (value < 2 ^ 64))
        → AllDigits 10 (byte ∷ bytes) × (digits_value_after 10 number (byte ∷ bytes) ≡ value) × (value < 2 ^ 64)
    by None is h others = cc
    by (Some more) is h others =
        let first = digit_found number byte more is in
        let rest = others more first.2 h in
        ((first.0, rest.0), ap (λ (k : ℕ). digits_value_after 10 k bytes) (sym first.1) ∙ rest.1, rest.2)

digits_only : (number : ℕ) (bytes : Bytes) → AllDigits 10 bytes → digits_value_after 10 number bytes < 2 ^ 64 → digits_after number bytes ≡ Some (digits_value_after 10 number bytes)
digits_only number [] all fits = refl
digits_only number (byte ∷ bytes) all fits =
    let small : number * 10 + digit_value byte < 2 ^ 64 = omega (arith, fits, le_after (number * 10 + digit_value byte) bytes) in
    ap (option_and_then (λ more. digits_after more bytes)) (digit_only number byte all.0 small) ∙ digits_only (number * 10 + digit_value byte) bytes all.1 fits

leads_is : (bytes : Bytes) → 0 < length bytes → (get_or bytes 0 0 ≡ 48 → length bytes ≡ 1) → leads bytes ≡ true
leads_is [] some one = absurd (omega arith)
leads_is (byte ∷ []) some one = refl
leads_is (byte ∷ next ∷ bytes) some one = ap not (ne_eqb byte 48 (λ same. let bad : suc (suc (length bytes)) ≡ 1 = one same in absurd (omega arith)))

leads_tells : (bytes : Bytes) → leads bytes ≡ true → (0 < length bytes) × (get_or bytes 0 0 ≡ 48 → length bytes ≡ 1)
leads_tells [] h = cc
leads_tells (byte ∷ []) h = (omega arith, λ same. refl)
leads_tells (byte ∷ next ∷ bytes) h = (omega arith, λ same. let bad : not true ≡ true = sym (ap not (eq-eqb byte 48 same)) ∙ h in cc)

-- What is taken is written so.
pub number_found : (bytes : Bytes) (number : ℕ) → number_of bytes ≡ Some number → (bytes ≡ decimal number) × (number < 2 ^ 64)
unfolding number_of
number_found bytes number h =
    let found = if_some (leads bytes) (digits_after 0 bytes) number h in
    let all = digits_found 0 bytes number (omega arith) found.1 in
    let first = leads_tells bytes found.0 in
    let small : digits_value 10 bytes < 2 ^ 64 = omega (arith, all.1, all.2) in
    (sym (decimal-digits_value (numerals_by_value (AllDigits 10) tells_digits) bytes all.0 first.0 first.1 small) ∙ ap decimal all.1, all.2)

leads_zero : leads (decimal 0) ≡ true
unfolding digits
leads_zero = refl

leads_decimal : (number : ℕ) → number < 2 ^ 64 → leads (decimal number) ≡ true
leads_decimal zero h = leads_zero
leads_decimal (suc number) h =
    leads_is (decimal (suc number)) (decimal_is_IsNumeral (suc number) h).0.0 (λ same. absurd (omega (arith, first_decimal (suc number) (omega arith) h)))

-- What is written is taken.
pub number_only : (number : ℕ) → number < 2 ^ 64 → number_of (decimal number) ≡ Some number
unfolding number_of
number_only number h =
    let is = decimal_is_IsNumeral number h in
    let small : digits_value 10 (decimal number) < 2 ^ 64 = omega (arith, is.1) in
    rw (leads_decimal number h) (digits_only 0 (decimal number) is.0.1 small ∙ ap (λ (k : ℕ). Some k) is.1)

over_digits : (bytes : Bytes) → AllDigits 10 bytes → Over 46 bytes
over_digits [] all = All-nil (λ byte. 46 < byte)
over_digits (byte ∷ bytes) all =
    let range = digit_from_value byte all.0 in
    All-cons (λ byte. 46 < byte) byte bytes (omega (arith, range.0)) (over_digits bytes all.1)

-- A numeral has no point, space or line feed.
pub over_decimal : (number : ℕ) → number < 2 ^ 64 → Over 46 (decimal number)
over_decimal number h = over_digits (decimal number) (decimal_is_IsNumeral number h).0.1
