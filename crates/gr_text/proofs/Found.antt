-- What the functions of the front find, as their callers use it.
use Rattle.std.proofs.Common.{◌≡◌, ◌≢◌, ℕ, ◌≤◌, ◌<◌, Bool, true, false, cond, [], ◌∷◌, length, take, sym, ap, subst, ◌∙◌, arith}
use Rattle.std.specs.Prelude.{◌==◌}
use Rattle.std.specs.List.{list_all, prefix_len}
use Rattle.std.specs.Str.Parse.{digits_value}
use Rattle.std.proofs.lemmas.List.Sums.{prefix_len-le-length}
use Rattle.gr_text.specs.declared.token.Keyword.{Keyword}
use Rattle.gr_text.specs.declared.token.TokenKind.TheVariants as kinds
use Rattle.gr_text.specs.Spelling.{keyword_bytes}
use Rattle.gr_syntax.specs.Names.{is_letter, is_digit, is_word}
use Rattle.gr_text.specs.Text.{Text, IsLongest, is_white, blank_len, not_newline}
use Rattle.gr_text.specs.FrontWords.{HasHead}
use Rattle.gr_text.proofs.Longest.{number_front, keyword_front, name_front}
use Rattle.gr_text.proofs.Runs.{all_pass}

pub digits_all : (text bytes : Text) (n : ℕ) → n ≡ prefix_len is_digit text → bytes ≡ take n text → list_all is_digit bytes ≡ true
digits_all text bytes n e f = ap (list_all is_digit) f ∙ ap (λ (k : ℕ). list_all is_digit (take k text)) e ∙ all_pass is_digit text

pub number_found : (text bytes : Text) (n v : ℕ) → HasHead (λ b. is_digit b ≡ true) text → n ≡ prefix_len is_digit text → bytes ≡ take n text → v ≡ digits_value 10 bytes → IsLongest (kinds.Number v) n text
number_found text bytes n v h e f g =
    let all : v ≡ digits_value 10 (take n text) = g ∙ ap (digits_value 10) f in
    subst (λ (w : ℕ). IsLongest (kinds.Number w) n text) (sym all) (subst (λ (k : ℕ). IsLongest (kinds.Number (digits_value 10 (take k text))) k text) (sym e) (number_front text h))

pub keyword_found : (text bytes : Text) (n : ℕ) (k : Keyword) → HasHead (λ b. is_letter b ≡ true) text → n ≡ prefix_len is_word text → bytes ≡ take n text → bytes ≡ keyword_bytes k → IsLongest (kinds.Keyword k) n text
keyword_found text bytes n k h e f g =
    subst (λ (m : ℕ). IsLongest (kinds.Keyword k) m text) (sym e) (keyword_front text k h (ap (λ (m : ℕ). take m text) (sym e) ∙ sym f ∙ g))

pub name_found : (text bytes : Text) (n : ℕ) → HasHead (λ b. is_letter b ≡ true) text → n ≡ prefix_len is_word text → bytes ≡ take n text → ((k : Keyword) → bytes ≢ keyword_bytes k) → IsLongest kinds.Name n text
name_found text bytes n h e f g =
    subst (λ (m : ℕ). IsLongest kinds.Name m text) (sym e) (name_front text h (λ k c. g k (f ∙ ap (λ (m : ℕ). take m text) e ∙ c)))

pub head_some : (P : ℕ → Type 0) (text : Text) → HasHead P text → 0 < length text
head_some P [] h = absurd h
head_some P (b ∷ rest) h = omega arith

pub blank_fits : (text : Text) → blank_len text ≤ length text
blank_fits [] = omega arith
blank_fits (b ∷ rest) = go (is_white b) (b == 35)
  where
    go : (v w : Bool) → cond v 1 (cond w (prefix_len not_newline (b ∷ rest)) 0) ≤ length (b ∷ rest)
    go true w = omega arith
    go false true = prefix_len-le-length not_newline (b ∷ rest)
    go false false = omega arith
