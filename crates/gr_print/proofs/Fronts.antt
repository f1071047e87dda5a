-- A token in front of what ends it is the longest token there.
use Rattle.std.proofs.Common.{◌≡◌, ℕ, suc, ◌+◌, ◌<◌, ◌≤◌, ◌^◌, Bool, true, false, cond, [], ◌∷◌, ◌++◌, length, get_or, Option, Some, None, refl, sym, ap, ◌∙◌, arith}
use Rattle.std.specs.Prelude.{◌==◌}
use Rattle.std.specs.List.{list_all, prefix_len}
use Rattle.std.specs.Fmt.{decimal}
use Rattle.std.specs.Str.Parse.{AllDigits}
use Rattle.std.proofs.lemmas.Fmt.{decimal_is_IsNumeral}
use Rattle.std.proofs.lemmas.Str.Parse.{tells_digits}
use Rattle.std.proofs.Math.Seq.{take-append_seam}
use Rattle.gr_text.specs.declared.token.Keyword.{Keyword}
use Rattle.gr_text.specs.declared.token.Sign.{Sign}
use Rattle.gr_text.specs.declared.token.Sign.TheVariants as s
use Rattle.gr_text.specs.declared.token.TokenKind.TheVariants as kinds
use Rattle.gr_text.specs.Spelling.{keyword_bytes, sign_bytes}
use Rattle.gr_syntax.specs.Names.{is_letter, is_digit, is_word}
use Rattle.gr_text.specs.Text.{Text, IsLongest, IsToken}
use Rattle.gr_text.specs.FrontWords.{HasHead, single_sign, double_sign, or_else, front_sign}
use Rattle.gr_text.proofs.Found.{number_found, keyword_found, name_found}
use Rattle.gr_text.proofs.Longest.{letter_word}
use Rattle.gr_text.proofs.Runs.{and_first, and_second, and_both, run_more}
use Rattle.gr_text.proofs.Words.{keyword_head, keyword_letters}

-- ---- runs

-- The text doesn't begin with a byte that passes.
abbrev pub Stops : (ℕ → Bool) → Text → Type 0
Stops p [] = Unit {0}
Stops p (b ∷ rest) = p b ≡ false

pub run_is : (p : ℕ → Bool) (bytes rest : Text) → list_all p bytes ≡ true → Stops p rest → prefix_len p (bytes ++ rest) ≡ length bytes
run_is p [] [] h s = refl
run_is p [] (b ∷ rest) h s = ap (λ (v : Bool). cond v (1 + prefix_len p rest) 0) s
run_is p (b ∷ bytes) rest h s =
    let more = run_is p bytes rest (and_second (p b) (list_all p bytes) h) s in
    run_more p b (bytes ++ rest) (and_first (p b) (list_all p bytes) h) ∙ ap suc more

-- ---- words

pub name_longest : (text rest : Text) → IsToken kinds.Name text → Stops is_word rest → IsLongest kinds.Name (length text) (text ++ rest)
name_longest [] rest t h = absurd t
name_longest (b ∷ bytes) rest t h =
    name_found (b ∷ bytes ++ rest) (b ∷ bytes) (length (b ∷ bytes)) t.0 (sym (run_is is_word (b ∷ bytes) rest (and_both (is_word b) (list_all is_word bytes) (letter_word b t.0) t.1) h)) (sym (take-append_seam (b ∷ bytes) rest)) t.2

letter_head : (bytes rest : Text) → is_letter (get_or bytes 0 0) ≡ true → HasHead (λ b. is_letter b ≡ true) (bytes ++ rest)
letter_head [] rest h = absurd cc
letter_head (b ∷ bytes) rest h = h

pub keyword_longest : (word : Keyword) (rest : Text) → Stops is_word rest → IsLongest (kinds.Keyword word) (length (keyword_bytes word)) (keyword_bytes word ++ rest)
keyword_longest word rest h =
    keyword_found (keyword_bytes word ++ rest) (keyword_bytes word) (length (keyword_bytes word)) word (letter_head (keyword_bytes word) rest (keyword_head word))
    (sym (run_is is_word (keyword_bytes word) rest (keyword_letters word) h)) (sym (take-append_seam (keyword_bytes word) rest)) refl

-- ---- numbers

digit_passes : (b : ℕ) → 48 ≤ b → b ≤ 57 → is_digit b ≡ true
digit_passes b h k = grind arith

digits_pass : (ds : Text) → AllDigits 10 ds → list_all is_digit ds ≡ true
digits_pass [] h = refl
digits_pass (d ∷ ds) h =
    let parts = tells_digits.parts d ds h in
    and_both (is_digit d) (list_all is_digit ds) (digit_passes d parts.0.0 parts.0.1) (digits_pass ds parts.1)

digit_head : (bytes rest : Text) → 0 < length bytes → list_all is_digit bytes ≡ true → HasHead (λ b. is_digit b ≡ true) (bytes ++ rest)
digit_head [] rest some h = absurd (omega arith)
digit_head (b ∷ bytes) rest some h = and_first (is_digit b) (list_all is_digit bytes) h

pub decimal_digits : (n : ℕ) → n < 2 ^ 64 → list_all is_digit (decimal n) ≡ true
decimal_digits n small = digits_pass (decimal n) (decimal_is_IsNumeral n small).0.1

pub decimal_some : (n : ℕ) → n < 2 ^ 64 → 0 < length (decimal n)
decimal_some n small = (decimal_is_IsNumeral n small).0.0

pub number_longest : (n : ℕ) (rest : Text) → n < 2 ^ 64 → Stops is_digit rest → IsLongest (kinds.Number n) (length (decimal n)) (decimal n ++ rest)
number_longest n rest small h =
    let digits = decimal_digits n small in
    number_found (decimal n ++ rest) (decimal n) (length (decimal n)) n (digit_head (decimal n) rest (decimal_some n small) digits)
    (sym (run_is is_digit (decimal n) rest digits h)) (sym (take-append_seam (decimal n) rest)) (sym (decimal_is_IsNumeral n small).1)

-- ---- signs

-- The text begins with no byte that could be the second of a sign.
abbrev pub NoHalf : Text → Type 0
NoHalf [] = Unit {0}
NoHalf (b ∷ rest) = ((b == 46) ≡ false) × ((b == 61) ≡ false)

-- A sign of one byte that begins no longer one.
alone : (a : ℕ) (g : Sign) (rest : Text) → single_sign a ≡ Some g → ((b : ℕ) → (b == 46) ≡ false → (b == 61) ≡ false → double_sign a b ≡ None) → NoHalf rest → front_sign (a ∷ rest) ≡ Some g
alone a g [] is none h = is
alone a g (b ∷ rest) is none h = ap (λ (x : Option Sign). or_else x (single_sign a)) (none b h.0 h.1) ∙ is

pub sign_ahead : (g : Sign) (rest : Text) → NoHalf rest → front_sign (sign_bytes g ++ rest) ≡ Some g
sign_ahead s.LeftParen rest h = alone 40 s.LeftParen rest refl (λ b d e. refl) h
sign_ahead s.RightParen rest h = alone 41 s.RightParen rest refl (λ b d e. refl) h
sign_ahead s.LeftBrace rest h = alone 123 s.LeftBrace rest refl (λ b d e. refl) h
sign_ahead s.RightBrace rest h = alone 125 s.RightBrace rest refl (λ b d e. refl) h
sign_ahead s.LeftBracket rest h = alone 91 s.LeftBracket rest refl (λ b d e. refl) h
sign_ahead s.RightBracket rest h = alone 93 s.RightBracket rest refl (λ b d e. refl) h
sign_ahead s.Semicolon rest h = alone 59 s.Semicolon rest refl (λ b d e. refl) h
sign_ahead s.Comma rest h = alone 44 s.Comma rest refl (λ b d e. refl) h
sign_ahead s.Dot rest h = alone 46 s.Dot rest refl (λ b d e. ap (λ (v : Bool). cond v (Some s.DotDot) None) d) h
sign_ahead s.DotDot rest h = refl
sign_ahead s.Assign rest h = alone 61 s.Assign rest refl (λ b d e. ap (λ (v : Bool). cond v (Some s.EqualEqual) None) e) h
sign_ahead s.EqualEqual rest h = refl
sign_ahead s.BangEqual rest h = refl
sign_ahead s.Less rest h = alone 60 s.Less rest refl (λ b d e. ap (λ (v : Bool). cond v (Some s.LessEqual) None) e) h
sign_ahead s.LessEqual rest h = refl
sign_ahead s.Greater rest h = alone 62 s.Greater rest refl (λ b d e. ap (λ (v : Bool). cond v (Some s.GreaterEqual) None) e) h
sign_ahead s.GreaterEqual rest h = refl
sign_ahead s.Plus rest h = alone 43 s.Plus rest refl (λ b d e. refl) h
sign_ahead s.Minus rest h = alone 45 s.Minus rest refl (λ b d e. refl) h
sign_ahead s.Star rest h = alone 42 s.Star rest refl (λ b d e. refl) h
sign_ahead s.Slash rest h = alone 47 s.Slash rest refl (λ b d e. refl) h
sign_ahead s.Percent rest h = alone 37 s.Percent rest refl (λ b d e. refl) h
sign_ahead s.Ampersand rest h = alone 38 s.Ampersand rest refl (λ b d e. refl) h
sign_ahead s.Bar rest h = alone 124 s.Bar rest refl (λ b d e. refl) h
sign_ahead s.Caret rest h = alone 94 s.Caret rest refl (λ b d e. refl) h
sign_ahead s.Bang rest h = alone 33 s.Bang rest refl (λ b d e. ap (λ (v : Bool). cond v (Some s.BangEqual) None) e) h
