-- The cores of slices, one after another.
use Rattle.std.proofs.Common.{◌≡◌, ℕ, ◌<◌, List, [], ◌∷◌, ◌++◌, length, get_or, ap, sym, ◌∙◌, append_assoc, arith, Result, Ok, IfOk, ◌⊎◌, inl, inr}
use Rattle.std.proofs.lemmas.List.{get_or_push, get_or_append_left, length_push}
use Rattle.gr_core.specs.declared.cores.Core.{Core}
use Rattle.gr_slice.specs.Slices.{Sliced}
use Rattle.gr_round.specs.Rounds.{AllSliced}
use Rattle.gr_round.specs.RoundWords.{AreOk}

pub ok_more : {E : Type 0} (slices : List (Result Core E)) (cores : List Core) (slice : Result Core E) (core : Core)
    → AreOk slices cores → slice ≡ Ok core → AreOk (slices ++ slice ∷ []) (cores ++ core ∷ [])
ok_more slices cores slice core are is = record {
  len = omega (arith, length_push slices slice, length_push cores core, are.len);
  each = λ k d e l.
      let t : (k < length slices) ⊎ (length slices ≡ k) = grind (arith, length_push slices slice) in
      elim t [
        | inl lt ↦ rw (get_or_append_left slices (slice ∷ []) e k lt, get_or_append_left cores (core ∷ []) d k (omega (arith, are.len))) (are.each k d e lt)
        | inr eq ↦ rw (get_or_push slices slice e k eq, get_or_push cores core d k (are.len ∙ eq)) is
      ];
}

pub all_sliced : {E : Type 0} (count : ℕ) (before after : List Core) (slices : List (Result Core E)) → length slices ≡ length before
    → ((core : ℕ) (default : Core) (other : Result Core E) → core < length before → IfOk (get_or slices core other) (λ after. Sliced count (get_or before core default) after))
    → AreOk slices after → AllSliced count before after
all_sliced count before after slices len each are = record {
  len = are.len ∙ len;
  each = λ k d h.
      let q : get_or slices k (Ok d) ≡ Ok (get_or after k d) = are.each k d (Ok d) (omega (arith, h, len)) in
      rw q at (each k d (Ok d) h);
}

pub one_more : {A : Type 0} (xs rest more all : List A) (x : A) → rest ≡ x ∷ more → xs ++ rest ≡ all → (xs ++ x ∷ []) ++ more ≡ all
one_more xs rest more all x h k = append_assoc xs (x ∷ []) more ∙ (ap (λ r. xs ++ r) (sym h) ∙ k)
