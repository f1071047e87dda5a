-- Runs of bytes that pass a test.
use Rattle.std.proofs.Common.{◌≡◌, ℕ, zero, suc, ◌+◌, ◌≤◌, ◌<◌, Bool, true, false, cond, [], ◌∷◌, length, get_or, take, refl, ap, ◌∙◌, arith, one-add}
use Rattle.std.specs.Prelude.{◌&&◌}
use Rattle.std.specs.List.{list_all, prefix_len}
use Rattle.gr_text.specs.Text.{Text}

pub and_first : (v w : Bool) → (v && w) ≡ true → v ≡ true
and_first true w h = refl
and_first false w h = absurd cc

pub and_second : (v w : Bool) → (v && w) ≡ true → w ≡ true
and_second true w h = h
and_second false w h = absurd cc

pub and_both : (v w : Bool) → v ≡ true → w ≡ true → (v && w) ≡ true
and_both true w h k = k
and_both false w h k = absurd cc

pub all_at : (p : ℕ → Bool) (bytes : Text) (i : ℕ) → list_all p bytes ≡ true → i < length bytes → p (get_or bytes i 0) ≡ true
all_at p [] i h less = absurd (omega arith)
all_at p (b ∷ bytes) zero h less = and_first (p b) (list_all p bytes) h
all_at p (b ∷ bytes) (suc i) h less = all_at p bytes i (and_second (p b) (list_all p bytes) h) (omega arith)

pass_more : (p : ℕ → Bool) (b : ℕ) (z : Text) → list_all p (take (prefix_len p z) z) ≡ true → (v : Bool) → p b ≡ v → list_all p (take (cond v (suc (prefix_len p z)) 0) (b ∷ z)) ≡ true
pass_more p b z ih false h = refl
pass_more p b z ih true h = and_both (p b) (list_all p (take (prefix_len p z) z)) h ih

pub all_pass : (p : ℕ → Bool) (z : Text) → list_all p (take (prefix_len p z) z) ≡ true
all_pass p [] = refl
all_pass p (b ∷ z) = rw one-add (pass_more p b z (all_pass p z) (p b) refl)

-- The run at the front goes on from a first byte that passes.
pub run_more : (p : ℕ → Bool) (b : ℕ) (z : Text) → p b ≡ true → prefix_len p (b ∷ z) ≡ suc (prefix_len p z)
run_more p b z h = ap (λ (v : Bool). cond v (1 + prefix_len p z) 0) h ∙ one-add (prefix_len p z)

-- A front whose bytes all pass is no longer than the run.
pub most : (p : ℕ → Bool) (z : Text) (more : ℕ) → more ≤ length z → list_all p (take more z) ≡ true → more ≤ prefix_len p z
most p z zero within h = omega arith
most p [] (suc more) within h = absurd (omega arith)
most p (b ∷ z) (suc more) within h =
    let rest : more ≤ prefix_len p z = most p z more (omega arith) (and_second (p b) (list_all p (take more z)) h) in
    omega (arith, run_more p b z (and_first (p b) (list_all p (take more z)) h), rest)
