-- Lists of no messages.
use Rattle.std.proofs.Common.{◌≡◌, ℕ, zero, suc, List, [], ◌∷◌, ◌++◌, get_or, ap, ◌∙◌, sym, refl}
use mathlib.Core.Path.{fun_ext}
use Rattle.gr_view.specs.Places.{at_place}
use Rattle.gr_view.proofs.Puts.{place_is}

past_none : {X : Type 0} (k : ℕ) → get_or {A = List X} [] k [] ≡ []
past_none k = refl

none_more : {X : Type 0} (xs : List (List X)) → ((k : ℕ) → get_or xs k [] ≡ []) → (k : ℕ) → get_or (xs ++ [] ∷ []) k [] ≡ []
none_more [] h zero = refl
none_more [] h (suc k) = refl
none_more (x ∷ xs) h zero = h zero
none_more (x ∷ xs) h (suc k) = none_more xs (λ j. h (suc j)) k

pub no_lists : {X : Type 0} → ◌≡◌ {A = ℕ → List X} (at_place [] []) (λ k. [])
no_lists {X = X} = fun_ext (λ k. place_is {X = List X} [] [] k ∙ past_none k)

pub more_lists : {X : Type 0} (xs : List (List X)) → ◌≡◌ {A = ℕ → List X} (at_place [] xs) (λ k. []) → ◌≡◌ {A = ℕ → List X} (at_place [] (xs ++ [] ∷ [])) (λ k. [])
more_lists xs e = fun_ext (λ k. place_is [] (xs ++ [] ∷ []) k ∙ none_more xs (λ j. sym (place_is [] xs j) ∙ ap (λ f. f j) e) k)
