-- What it is that fields spell an entry.
use Rattle.std.proofs.Common.{◌≡◌, ◌∙◌, refl, sym, ap, subst, Bool, true, false, List, [], ◌∷◌, Some, not, nat_le, length, ℕ, zero, suc, slice_get, codes}
use Rattle.std.specs.Prelude.{◌&&◌, ◌||◌}
use Rattle.std.specs.List.{list_any}
use Rattle.std.specs.Str.{bytes_eq}
use Rattle.std.proofs.lemmas.Bool.{and_parts, not-true, or_parts}
use Rattle.std.proofs.lemmas.Option.{cond_some, same_Some}
use Rattle.gr_syntax.specs.declared.limits.TheConstants.{MAX_NAME}
use Rattle.gr_syntax.specs.Names.{has, is_name, is_spelled, keywords}
use Rattle.gr_hist.specs.declared.text.NamedEntry.{NamedEntry}
use Rattle.gr_hist.specs.Names.{Bytes, is_object_name}
use Rattle.gr_hist.specs.Grammar.{IsEntry}
use Rattle.gr_hist.specs.FieldWords.{name_of, object_name_of}
use Rattle.gr_hist.specs.Spelling.{fields_of}
use Rattle.gr_hist.proofs.Wording.{same_text}

-- The fields are those of the entry.
abbrev pub IsSpelled : List Bytes → NamedEntry → Type 0
IsSpelled fields e = IsEntry e × (fields ≡ fields_of e)

-- Names.

pub name_only : (bytes : Bytes) → is_name bytes ≡ true → name_of bytes ≡ Some bytes
name_only bytes is = rw is refl

pub name_found : (bytes name : Bytes) → name_of bytes ≡ Some name → (bytes ≡ name) × (is_name name ≡ true)
name_found bytes name h =
    let found = cond_some (is_name bytes) bytes name h in
    (found.1, sym (ap is_name found.1) ∙ found.0)

pub object_only : (bytes : Bytes) → is_object_name bytes ≡ true → object_name_of bytes ≡ Some bytes
object_only bytes is = rw is refl

pub object_found : (bytes name : Bytes) → object_name_of bytes ≡ Some name → (bytes ≡ name) × (is_object_name name ≡ true)
object_found bytes name h =
    let found = cond_some (is_object_name bytes) bytes name h in
    (found.1, sym (ap is_object_name found.1) ∙ found.0)

-- Where none passes the test, the one at a place doesn't.
pub any_false : (test : Bytes → Bool) (words : List Bytes) (place : ℕ) (word : Bytes) → list_any test words ≡ false → slice_get words place ≡ Some word → test word ≡ false
any_false test [] place word none at = cc
any_false test (first ∷ words) zero word none at = ap test (sym (same_Some first word at)) ∙ (or_parts (test first) (list_any test words) none).0
any_false test (first ∷ words) (suc place) word none at = any_false test words place word (or_parts (test first) (list_any test words) none).1 at

-- A name is none of the keywords.
pub no_keyword : (bytes : Bytes) (place : ℕ) (word : Bytes) → is_name bytes ≡ true → slice_get keywords place ≡ Some word → bytes_eq bytes word ≡ false
no_keyword bytes place word is at =
    any_false (bytes_eq bytes) keywords place word (not-true (has keywords bytes) (and_parts (is_spelled bytes && nat_le (length bytes) MAX_NAME) (not (has keywords bytes)) is).1) at

-- What names an object is no keyword but `heap`.
pub no_object : (bytes : Bytes) (place : ℕ) (word : Bytes) → is_object_name bytes ≡ true → slice_get keywords place ≡ Some word → bytes_eq (codes "heap") word ≡ false → bytes_eq bytes word ≡ false
no_object bytes place word is at other = by (is_name bytes) refl is
  where
    by : (test : Bool) → is_name bytes ≡ test → test || bytes_eq bytes (codes "heap") ≡ true → bytes_eq bytes word ≡ false
    by true name is = no_keyword bytes place word name at
    by false name is = subst (λ (x : Bytes). bytes_eq x word ≡ false) (sym (same_text bytes (codes "heap") is)) other
