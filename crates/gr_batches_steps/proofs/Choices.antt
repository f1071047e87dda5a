-- Outcomes of choices.
use Rattle.std.proofs.Common.{◌≡◌, Bool, true, false, if◌then◌else◌, refl, Option, Some, None}
use Rattle.gr_machine.specs.Outcomes.{Outcome}

module _ (P : Outcome → Type 0) where
  pub either : (b : Bool) (x y : Outcome) → P x → P y → P (if b then x else y)
  either true x y p q = p
  either false x y p q = q

  -- What is made has a fact, if anything is.
  abbrev pub Made : Option Outcome → Type 0
  Made None = Unit
  Made (Some x) = P x

  pub when : (b : Bool) (x : Outcome) → (b ≡ true → P x) → Made (if b then Some x else None)
  when true x p = p refl
  when false x p = tt

  pub when_made : (b : Bool) (o : Option Outcome) → Made o → Made (if b then o else None)
  when_made true o p = p
  when_made false o p = tt
