-- One piece of all words is a cut.
use Rattle.std.proofs.Common.{◌≡◌, ◌≢◌, ℕ, ◌+◌, ◌<◌, ◌≤◌, List, length, slice_index, replicate, sym, ap, ◌∙◌, subst, arith, ⊎_elim, length-set}
use Rattle.std.specs.Prelude.{slice_set}
use Rattle.std.proofs.lemmas.Bool.{cases_eq, cases_lt}
use Rattle.std.proofs.lemmas.List.{get_or-replicate, get_or-set_same, get_or-set_other, get_or_past, length-replicate}
use Rattle.gr_syntax.specs.declared.limits.TheConstants.{MAX_WORDS}
use Rattle.gr_alloc.specs.CutView.{IsCut, AreEnds}

-- The list has a number at one place and 0 at the others.
record Only (xs : List ℕ) (count at number : ℕ) : Type 0 where
  len : length xs ≡ count
  here : slice_index xs at ≡ number
  others : (k : ℕ) → k ≢ at → slice_index xs k ≡ 0

zero_at : (count k : ℕ) → slice_index (replicate count 0) k ≡ 0
zero_at count k =
    ⊎_elim
    (λ inside. get_or-replicate count k 0 0 inside)
    (λ past. get_or_past (replicate count 0) k 0 (omega (arith, length-replicate {A = ℕ} count 0)))
    (cases_lt k count)

only_one : (xs : List ℕ) (count at number : ℕ) → xs ≡ slice_set (replicate count 0) at number → at < count → Only xs count at number
only_one xs count at number is inside =
    subst (λ ys. Only ys count at number) (sym is) (record {
      len = length-set (replicate count 0) at number ∙ length-replicate {A = ℕ} count 0;
      here = get_or-set_same (replicate count 0) at number 0 (omega (arith, length-replicate {A = ℕ} count 0));
      others = λ k other. get_or-set_other (replicate count 0) at k number 0 other ∙ zero_at count k;
    })

no_words : (xs : List ℕ) → length xs ≡ 0 → (k : ℕ) → slice_index xs k ≡ 0
no_words xs none k = get_or_past xs k 0 (omega arith)

only_first : (xs : List ℕ) (n : ℕ) → xs ≡ slice_set (replicate n 0) 0 n → Only xs n 0 n
only_first xs n is =
    ⊎_elim
    (λ none.
    let len : length xs ≡ n = ap length is ∙ length-set (replicate n 0) 0 n ∙ length-replicate {A = ℕ} n 0 in
    record { len = len; here = no_words xs (len ∙ none) 0 ∙ sym none; others = λ k other. no_words xs (len ∙ none) k })
    (λ some. only_one xs n 0 n is (omega (arith, λ (e : n ≡ 0). some e)))
    (cases_eq n 0)

first_where : (xs : List ℕ) (n at : ℕ) → Only xs n 0 n → 0 < slice_index xs at → at ≡ 0
first_where xs n at only some =
    ⊎_elim (λ same. same) (λ other. absurd (omega (arith, only.others at other))) (cases_eq at 0)

pub one_cut : (xs : List ℕ) (n : ℕ) → n ≤ MAX_WORDS → xs ≡ slice_set (replicate n 0) 0 n → IsCut xs
one_cut xs n few is =
    let only = only_first xs n is in
    record {
      few = omega (arith, only.len);
      begins = λ some. omega (arith, only.len, only.here);
      within = λ at some. let first = first_where xs n at only some in let size = ap (slice_index xs) first in omega (arith, only.len, only.here);
      alone = λ at k before over. only.others k (λ e. absurd (omega arith));
      goes_on = λ at some more. let first = first_where xs n at only some in let size = ap (slice_index xs) first in absurd (omega (arith, only.len, only.here));
    }

pub one_end : (xs es : List ℕ) (n : ℕ) → xs ≡ slice_set (replicate n 0) 0 n → es ≡ slice_set (replicate (n + 1) 0) n n → AreEnds xs es
one_end xs es n is ends_is =
    let only = only_first xs n is in
    let last = only_one es (n + 1) n n ends_is (omega arith) in
    record {
      whole = omega (arith, only.len, last.len);
      ended = λ at some.
          let first = first_where xs n at only some in
          let size : slice_index xs at ≡ n = ap (slice_index xs) first ∙ only.here in
          let end : at + slice_index xs at ≡ n = omega arith in
          ap (slice_index es) end ∙ last.here ∙ sym size;
      begun = λ at size some ends.
          ⊎_elim
          (λ same.
          let whole : size ≡ n = sym ends ∙ ap (slice_index es) same ∙ last.here in
          let first : at ≡ 0 = omega arith in
          ap (slice_index xs) first ∙ only.here ∙ sym whole)
          (λ other. absurd (omega (arith, last.others (at + size) other)))
          (cases_eq (at + size) n);
      after = λ end.
          ⊎_elim
          (λ same. let size = ap (slice_index es) same in omega (arith, last.here))
          (λ other. omega (arith, last.others end other))
          (cases_eq end n);
    }
