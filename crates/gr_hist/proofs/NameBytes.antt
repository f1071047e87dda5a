-- The bytes of names.
use Rattle.std.proofs.Common.{◌≡◌, ◌<◌, refl, sym, subst, ℕ, Bool, true, false, not, [], ◌∷◌, length, nat_le, arith, codes}
use Rattle.std.specs.Prelude.{◌&&◌, ◌||◌}
use Rattle.std.specs.List.{list_all}
use Rattle.std.specs.Str.{IsUtf8, bytes_eq}
use Rattle.std.proofs.lemmas.Bool.{and_parts}
use Rattle.std.proofs.lemmas.Bool.Decides.{nat_tests}
use Rattle.std.proofs.lemmas.List.Elements.{All-weaker}
use Rattle.std.proofs.lemmas.List.Sums.{AllPass-from_list_all}
use Rattle.std.proofs.lemmas.Slice.Eq.{bytes_eq-Decides}
use Rattle.std.proofs.lemmas.Str.{IsUtf8-from_ascii}
use Rattle.std.proofs.lemmas.Str.Ascii.{IsAscii-from_all}
use Rattle.gr_syntax.specs.declared.limits.TheConstants.{MAX_NAME}
use Rattle.gr_syntax.specs.Names.{has, is_letter, is_word, is_spelled, is_name, keywords}
use Rattle.gr_hist.specs.Names.{Bytes, is_object_name}
use Rattle.gr_hist.proofs.Cutting.{Over}

over_word : (byte : ℕ) → is_word byte ≡ true → 46 < byte
over_word byte is = grind (arith, nat_tests)

word_ascii : (byte : ℕ) → is_word byte ≡ true → byte < 128
word_ascii byte is = grind (arith, nat_tests)

letter_word : (byte : ℕ) → is_letter byte ≡ true → is_word byte ≡ true
letter_word byte is = rw is refl

-- What is spelled as a name has only letters, digits and `_`.
spelled_words : (bytes : Bytes) → is_spelled bytes ≡ true → list_all is_word bytes ≡ true
spelled_words [] is = refl
spelled_words (byte ∷ bytes) is =
    let parts = and_parts (is_letter byte) (list_all is_word bytes) is in
    rw (letter_word byte parts.0, parts.1) refl

name_words : (bytes : Bytes) → is_name bytes ≡ true → list_all is_word bytes ≡ true
name_words bytes is =
    let parts = and_parts (is_spelled bytes && nat_le (length bytes) MAX_NAME) (not (has keywords bytes)) is in
    spelled_words bytes (and_parts (is_spelled bytes) (nat_le (length bytes) MAX_NAME) parts.0).0

heap_words : list_all is_word (codes "heap") ≡ true
heap_words = refl

-- An object is called by letters, digits and `_`.
object_words : (bytes : Bytes) → is_object_name bytes ≡ true → list_all is_word bytes ≡ true
object_words bytes is = by (is_name bytes) refl is
  where
    by : (test : Bool) → is_name bytes ≡ test → test || bytes_eq bytes (codes "heap") ≡ true → list_all is_word bytes ≡ true
    by true name is = name_words bytes name
    by false name is = subst (λ (x : Bytes). list_all is_word x ≡ true) (sym ((bytes_eq-Decides bytes (codes "heap")).0 is)) heap_words

over_words : (bytes : Bytes) → list_all is_word bytes ≡ true → Over 46 bytes
over_words bytes is = All-weaker (λ byte. is_word byte ≡ true) (λ byte. 46 < byte) over_word bytes (AllPass-from_list_all is_word bytes is)

-- A name has no point, space or line feed.
pub over_name : (bytes : Bytes) → is_name bytes ≡ true → Over 46 bytes
over_name bytes is = over_words bytes (name_words bytes is)

pub over_object : (bytes : Bytes) → is_object_name bytes ≡ true → Over 46 bytes
over_object bytes is = over_words bytes (object_words bytes is)

utf8_words : (bytes : Bytes) → list_all is_word bytes ≡ true → IsUtf8 bytes
utf8_words bytes is =
    IsUtf8-from_ascii bytes (IsAscii-from_all bytes (All-weaker (λ byte. is_word byte ≡ true) (λ byte. byte < 128) word_ascii bytes (AllPass-from_list_all is_word bytes is)))

-- A name is in UTF-8.
pub utf8_name : (bytes : Bytes) → is_name bytes ≡ true → IsUtf8 bytes
utf8_name bytes is = utf8_words bytes (name_words bytes is)

pub utf8_object : (bytes : Bytes) → is_object_name bytes ≡ true → IsUtf8 bytes
utf8_object bytes is = utf8_words bytes (object_words bytes is)
