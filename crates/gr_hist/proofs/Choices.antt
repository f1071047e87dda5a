-- What it says of the parts of a choice that it has a value.
use Rattle.std.proofs.Common.{◌≡◌, ap, refl, Bool, true, false, Option, Some, None, unwrap_or, cond, option_map, option_and_then}
use Rattle.std.proofs.lemmas.Option.{option_and_then_some}

module _ {X Y : Type 0} where
  pub map_some : (f : X → Y) (found : Option X) (y : Y) → option_map f found ≡ Some y → (x : X) × (found ≡ Some x) × (f x ≡ y)
  map_some f None y h = cc
  map_some f (Some x) y h = (x, refl, ap (λ (o : Option Y). unwrap_or o y) h)

  pub then_some : (f : X → Option Y) (found : Option X) (y : Y) → option_and_then f found ≡ Some y → (x : X) × (found ≡ Some x) × (f x ≡ Some y)
  then_some f found y h = option_and_then_some f found y h (λ x is more. (x, is, more))

module _ {Y : Type 0} where
  pub if_some : (test : Bool) (o : Option Y) (y : Y) → cond test o None ≡ Some y → (test ≡ true) × (o ≡ Some y)
  if_some true o y h = (refl, h)
  if_some false o y h = cc

  pub if_none : (test : Bool) (o : Option Y) (y : Y) → cond test None o ≡ Some y → (test ≡ false) × (o ≡ Some y)
  if_none true o y h = cc
  if_none false o y h = (refl, h)

  -- One of two values, each with what its test says.
  pub either : {P : Type 0} (test : Bool) (one other : Option Y) (y : Y) → cond test one other ≡ Some y
      → (test ≡ true → one ≡ Some y → P) → (test ≡ false → other ≡ Some y → P) → P
  either true one other y h f g = f refl h
  either false one other y h f g = g refl h
