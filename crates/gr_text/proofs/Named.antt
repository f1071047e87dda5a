-- The tokens that are names are the names of the language.
use Rattle.std.proofs.Common.{◌≡◌, ◌≢◌, Bool, true, false, not, List, [], ◌∷◌, length, nat_le, map, refl, arith}
use Rattle.std.specs.Prelude.{◌&&◌}
use Rattle.std.specs.List.{list_all}
use Rattle.std.specs.Str.{bytes_eq}
use Rattle.std.proofs.lemmas.Bool.Decides.{nat_tests}
use Rattle.std.proofs.lemmas.Slice.Eq.{bytes_eq-Decides}
use Rattle.gr_syntax.specs.declared.limits.TheConstants.{MAX_NAME}
use Rattle.gr_syntax.specs.Names.{has, is_letter, is_name, is_spelled, is_word, keywords}
use Rattle.gr_text.specs.declared.token.Keyword.{Keyword}
use Rattle.gr_text.specs.declared.token.TokenKind.TheVariants as kind
use Rattle.gr_text.specs.Spelling.{keyword_bytes}
use Rattle.gr_text.specs.Text.{Text, IsToken, Fits}
use Rattle.gr_text.proofs.Runs.{and_first, and_second}
use Rattle.gr_text.proofs.Words.{all, holds}

-- What is none of these keywords isn't in the list of their texts.
none_of : (ks : List Keyword) (bytes : Text) → ((word : Keyword) → bytes ≢ keyword_bytes word) → has (map keyword_bytes ks) bytes ≡ false
none_of [] bytes differs = refl
none_of (k ∷ ks) bytes differs = by (none_of ks bytes differs) (bytes_eq bytes (keyword_bytes k)) refl
  where
    by : has (map keyword_bytes ks) bytes ≡ false → (t : Bool) → bytes_eq bytes (keyword_bytes k) ≡ t → has (map keyword_bytes (k ∷ ks)) bytes ≡ false
    by rest true e = absurd (differs k ((bytes_eq-Decides bytes (keyword_bytes k)).0 e))
    by rest false e = rw e rest

is_one : (k : Keyword) → has keywords (keyword_bytes k) ≡ true
is_one = holds (λ k. has keywords (keyword_bytes k)) refl

pub named_token : (bytes : Text) → IsToken kind.Name bytes → Fits kind.Name (length bytes) → is_name bytes ≡ true
named_token [] token fits = absurd token
named_token (b ∷ bytes) token fits =
    let other : has keywords (b ∷ bytes) ≡ false = none_of all (b ∷ bytes) token.2 in
    let short : nat_le (length (b ∷ bytes)) MAX_NAME ≡ true = grind (arith, nat_tests) in
    rw (token.0, token.1, short, other) refl

parts : (x y z : Bool) → x && y && not z ≡ true → (x ≡ true) × (y ≡ true) × (z ≡ false)
parts true true false is = (refl, refl, refl)
parts true true true is = absurd cc
parts true false z is = absurd cc
parts false y z is = absurd cc

pub token_named : (bytes : Text) → is_name bytes ≡ true → IsToken kind.Name bytes
token_named [] is = absurd cc
token_named (b ∷ bytes) is =
    let p = parts (is_spelled (b ∷ bytes)) (nat_le (length (b ∷ bytes)) MAX_NAME) (has keywords (b ∷ bytes)) is in
    (and_first (is_letter b) (list_all is_word bytes) p.0, and_second (is_letter b) (list_all is_word bytes) p.0, λ word e. apart word e p.2)
  where
    apart : (word : Keyword) → b ∷ bytes ≡ keyword_bytes word → has keywords (b ∷ bytes) ≡ false → ⊥
    apart word e none = cc (e, none, is_one word)

pub fits_named : (bytes : Text) → is_name bytes ≡ true → Fits kind.Name (length bytes)
fits_named bytes is =
    let p = parts (is_spelled bytes) (nat_le (length bytes) MAX_NAME) (has keywords bytes) is in
    let short : nat_le (length bytes) MAX_NAME ≡ true = p.1 in
    grind (arith, nat_tests)
