-- The words of a core by their places.
use Rattle.std.proofs.Common.{◌≡◌, ◌≢◌, ℕ, ◌<◌, List, length, set, replicate, true, false, Some, None, is_some, nat_lt, if◌then◌else◌, arith, refl, sym, ap, ◌∙◌, inl, inr, slice_get, slice_index_or, slice_set}
use mathlib.Core.Path.{fun_ext}
use Rattle.std.proofs.lemmas.Bool.Decides.{nat_tests}
use Rattle.std.proofs.lemmas.Bool.{cases_lt}
use Rattle.std.proofs.lemmas.List.{get_or-set_same, get_or-set_other, get_or-replicate, length-replicate, length-set}
use Rattle.std.proofs.lemmas.Option.{slice_get_past, slice_get-get_or}
use Rattle.gr_view.specs.Places.{put}
use Rattle.gr_view.proofs.Puts.{put_by}
use Rattle.gr_addr.specs.Segments.{words_of}

same_word : (words : List ℕ) (place word : ℕ) → place < length words → slice_get (set words place word) place ≡ Some word
same_word words place word inside =
    slice_get-get_or (set words place word) place 0 (omega (arith, length-set words place word)) ∙ ap Some (get_or-set_same words place word 0 inside)

other_word : (words : List ℕ) (place word other : ℕ) → other ≢ place → slice_get (set words place word) other ≡ slice_get words other
other_word words place word other apart = elim (cases_lt other (length words)) [
  | inl l ↦ slice_get-get_or (set words place word) other 0 (omega (arith, length-set words place word))
      ∙ ap Some (get_or-set_other words place other word 0 apart) ∙ sym (slice_get-get_or words other 0 l)
  | inr l ↦ slice_get_past (set words place word) other (omega (arith, length-set words place word)) ∙ sym (slice_get_past words other l)
]

pub words_put : (words : List ℕ) (place word : ℕ) → place < length words
    → words_of (slice_set words place word) ≡ put (words_of words) place (Some word)
unfolding words_of
words_put words place word inside = put_by (slice_get words) (slice_get (set words place word)) place (Some word) (same_word words place word inside) (other_word words place word)

pub words_at : (words : List ℕ) (place : ℕ) → place < length words → words_of words place ≡ Some (slice_index_or words place 0)
unfolding words_of
words_at words place inside = slice_get-get_or words place 0 inside

held : (words : List ℕ) (place : ℕ) → is_some (slice_get words place) ≡ true → place < length words
held words place there = elim (cases_lt place (length words)) [
  | inl l ↦ l
  | inr l ↦ let none : false ≡ true = ap is_some (sym (slice_get_past words place l)) ∙ there in absurd (cc)
]

pub words_inside : (words : List ℕ) (place : ℕ) → is_some (words_of words place) ≡ true → place < length words
unfolding words_of
words_inside words place there = held words place there

pub words_held : (words : List ℕ) (place : ℕ) → is_some (words_of words place) ≡ is_some (slice_get words place)
unfolding words_of
words_held words place = refl

zero_at : (count place : ℕ) → slice_get {X = ℕ} (replicate count 0) place ≡ if nat_lt place count then Some 0 else None
zero_at count place = elim (cases_lt place count) [
  | inl l ↦ slice_get-get_or (replicate count 0) place 0 (omega (arith, length-replicate {A = ℕ} count 0)) ∙ ap Some (get_or-replicate {A = ℕ} count place 0 0 l)
      ∙ grind (arith, nat_tests)
  | inr l ↦ slice_get_past (replicate count 0) place (omega (arith, length-replicate {A = ℕ} count 0)) ∙ grind (arith, nat_tests)
]

pub words_zero : (count : ℕ) → words_of (replicate count 0) ≡ (λ place. if nat_lt place count then Some 0 else None)
unfolding words_of
words_zero count = fun_ext (zero_at count)

pub ruleset at_words = (words_put, words_at, words_inside, words_held, words_zero)
