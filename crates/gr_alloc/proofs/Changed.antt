-- What becomes of the holes and the live blocks where a piece of a cut changes.
use Rattle.std.proofs.Common.{◌≡◌, ◌≢◌, ℕ, List, None, sym, ap, ◌∙◌, ⊎_elim}
use Rattle.std.proofs.lemmas.Bool.{cases_eq}
use Rattle.gr_alloc.specs.HoleView.{Changes, live_at}

-- a block is gone in three steps: nothing else changes in the first, the block at `from` is another one after the second and gone after the third
pub gone_in_three : (s0 h0 s1 h1 s2 h2 s3 h3 : List ℕ) (at from : ℕ)
    → ((k : ℕ) → k ≢ at → live_at s1 h1 k ≡ live_at s0 h0 k)
    → (from ≢ at → live_at s2 h2 at ≡ None)
    → (from ≢ at → live_at s1 h1 from ≡ None)
    → ((k : ℕ) → k ≢ at → k ≢ from → live_at s2 h2 k ≡ live_at s1 h1 k)
    → Changes s2 h2 s3 h3 from None
    → Changes s0 h0 s3 h3 at None
gone_in_three s0 h0 s1 h1 s2 h2 s3 h3 at from first gone hole second third = record {
  here = ⊎_elim
      (λ same. ap (live_at s3 h3) same ∙ third.here)
      (λ apart. third.others at apart ∙ gone (λ e. apart (sym e)))
      (cases_eq at from);
  others = λ k other. ⊎_elim
      (λ same.
      let apart : from ≢ at = λ e. other (same ∙ e) in
      ap (live_at s3 h3) same ∙ third.here ∙ sym (hole apart) ∙ first from apart ∙ ap (live_at s0 h0) (sym same))
      (λ apart. third.others k apart ∙ second k other apart ∙ first k other)
      (cases_eq k from);
}
