-- Zeros one by one.
use Rattle.std.proofs.Common.{◌≡◌, ℕ, zero, suc, ◌-◌, ◌<◌, ◌∷◌, ap, arith}
use Rattle.std.specs.Prelude.{replicate}

pub zeros_step : (n : ℕ) → 0 < n → replicate {A = ℕ} n 0 ≡ 0 ∷ replicate {A = ℕ} (n - 1) 0
zeros_step zero lt = absurd (omega arith)
zeros_step (suc n) lt = ap (λ k. 0 ∷ replicate {A = ℕ} k 0) (omega arith)
