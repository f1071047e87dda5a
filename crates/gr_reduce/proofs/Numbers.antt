-- The reducer at each place has the number of the place.
use Rattle.std.proofs.Common.{◌≡◌, ℕ, zero, suc, ◌<◌, List, get_or, map, arith, refl, sym, ap, ◌∙◌}
use Rattle.std.proofs.Math.ListN.{get_or-map}
use Rattle.gr_reduce.specs.Reducing.{numbers}

number_at : (place default : ℕ) → place < 8 → get_or numbers place default ≡ place
number_at zero default inside = refl
number_at (suc zero) default inside = refl
number_at (suc (suc zero)) default inside = refl
number_at (suc (suc (suc zero))) default inside = refl
number_at (suc (suc (suc (suc zero)))) default inside = refl
number_at (suc (suc (suc (suc (suc zero))))) default inside = refl
number_at (suc (suc (suc (suc (suc (suc zero)))))) default inside = refl
number_at (suc (suc (suc (suc (suc (suc (suc zero))))))) default inside = refl
number_at (suc (suc (suc (suc (suc (suc (suc (suc place)))))))) default inside = absurd (omega arith)

pub numbered : {X : Type 0} (number : X → ℕ) (list : List X) (place : ℕ) (default : X) → map number list ≡ numbers → place < 8
    → number (get_or list place default) ≡ place
numbered number list place default ordered inside =
    sym (get_or-map number list place default) ∙ ap (λ (found : List ℕ). get_or found place (number default)) ordered ∙ number_at place (number default) inside
