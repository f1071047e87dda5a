-- Folds over more entries.
use Rattle.std.proofs.Common.{◌≡◌, ℕ, List, [], ◌∷◌, ◌++◌, Option, Some, None, refl}
use Rattle.std.specs.Option.{option_and_then}
use Rattle.gr_merge.specs.Machines.{Machine}
use Rattle.gr_merge.specs.LocalRuns.{Came, comes_at, fold_local}
use Rattle.gr_merge.specs.GlobalRuns.{World, goes_at, fold_global}

-- What goes on from each goes on from what there is.
onward : {X : Type 0} (whole more first : X → Option X) → ((x : X) → whole x ≡ option_and_then more (first x)) → (o : Option X)
    → option_and_then whole o ≡ option_and_then more (option_and_then first o)
onward whole more first h None = refl
onward whole more first h (Some x) = h x

module _ {S E P M : Type 0} (machine : Machine S E P M) where
  pub local_goes_on : (core : ℕ) (came : Came S P M) (entries more : List E)
      → fold_local machine core came (entries ++ more) ≡ option_and_then (λ next. fold_local machine core next more) (fold_local machine core came entries)
  local_goes_on core came [] more = refl
  local_goes_on core came (entry ∷ entries) more =
      onward (λ next. fold_local machine core next (entries ++ more)) (λ next. fold_local machine core next more) (λ next. fold_local machine core next entries)
      (λ next. local_goes_on core next entries more) (comes_at machine (machine.kind entry) core came entry)

  pub global_goes_on : (world : World S P M) (steps more : List (ℕ × E))
      → fold_global machine world (steps ++ more) ≡ option_and_then (λ next. fold_global machine next more) (fold_global machine world steps)
  global_goes_on world [] more = refl
  global_goes_on world (step ∷ steps) more =
      onward (λ next. fold_global machine next (steps ++ more)) (λ next. fold_global machine next more) (λ next. fold_global machine next steps)
      (λ next. global_goes_on next steps more) (goes_at machine (machine.kind step.1) step.0 world step.1)
