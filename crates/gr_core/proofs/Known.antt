-- The numbers of known packets, core by core.
use Rattle.std.proofs.Common.{◌≡◌, ◌+◌, ◌<◌, ℕ, ap, ◌∙◌, sym, inl, inr, arith}
use Rattle.std.proofs.lemmas.Bool.{cases_eq}
use Rattle.gr_view.specs.Places.{put}
use Rattle.gr_view.proofs.Puts.{put_at, put_other}

-- One number more is right.
pub known_more : (right before after : ℕ → ℕ) (core : ℕ) → after ≡ put before core (right core) → ((k : ℕ) → k < core → before k ≡ right k)
    → (k : ℕ) → k < core + 1 → after k ≡ right k
known_more right before after core is h k below = ap (λ (f : ℕ → ℕ). f k) is ∙ elim (cases_eq k core) [
  | inl e ↦ put_at before core (right core) k e ∙ ap right (sym e)
  | inr n ↦ put_other before core (right core) k n ∙ h k (omega (arith, below, n))
]
