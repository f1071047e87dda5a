-- A history one entry at a time, from its end.
use Rattle.std.proofs.Common.{◌≡◌, ℕ, List, [], ◌∷◌, ◌++◌, Option, Some, None, refl}
use Rattle.std.specs.Option.{option_and_then}
use Rattle.gr_syntax.specs.declared.syntax.Program.{Program}
use Rattle.gr_lang.specs.declared.action.Entry.{Entry}
use Rattle.gr_lang.specs.States.{State}
use Rattle.gr_lang.specs.Steps.{step}
use Rattle.gr_lang.specs.Histories.{after}

some_of : (o : Option State) → option_and_then (λ T. Some T) o ≡ o
some_of None = refl
some_of (Some T) = refl

pub after_append : (p : Program) (N L : ℕ) (S : State) (xs : List Entry) (x : Entry) → after p N L S (xs ++ x ∷ []) ≡ option_and_then (λ T. step p N L T x) (after p N L S xs)
after_append p N L S [] x = some_of (step p N L S x)
after_append p N L S (y ∷ ys) x =
    elim (step p N L S y) as (λ o. option_and_then (λ T. after p N L T (ys ++ x ∷ [])) o ≡ option_and_then (λ T. step p N L T x) (option_and_then (λ T. after p N L T ys) o)) [
      | None ↦ refl
      | Some T ↦ after_append p N L T ys x
    ]
