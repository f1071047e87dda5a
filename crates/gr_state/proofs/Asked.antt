-- Cores none of which is asked.
use Rattle.std.proofs.Common.{◌≡◌, ℕ, zero, suc, Bool, false, List, [], ◌∷◌, ◌++◌, slice_index_or, ap, ◌∙◌, refl}
use mathlib.Core.Path.{fun_ext}
use Rattle.gr_view.specs.Places.{at_place}

pub none_yet : at_place false [] ≡ (λ core. false)
unfolding at_place
none_yet = fun_ext (λ core. refl)

one_more : (asked : List Bool) (core : ℕ) → slice_index_or (asked ++ false ∷ []) core false ≡ slice_index_or asked core false
one_more [] zero = refl
one_more [] (suc core) = refl
one_more (first ∷ rest) zero = refl
one_more (first ∷ rest) (suc core) = one_more rest core

pub none_more : (asked : List Bool) → at_place false asked ≡ (λ core. false) → at_place false (asked ++ false ∷ []) ≡ (λ core. false)
unfolding at_place
none_more asked none = fun_ext (λ core. one_more asked core ∙ ap (λ (all : ℕ → Bool). all core) none)

-- Nobody is asked, as the cores are counted.
pub ruleset nobody = (none_yet, none_more)
