-- What is written one after the other.
use Rattle.std.proofs.Common.{◌≡◌, ℕ, List, ◌++◌, append_assoc, sym, ap, ◌∙◌}
use Rattle.std.specs.Prelude.{OnOk, Result, Ok, Err}
use Rattle.std.proofs.lemmas.Grind.{flat_map-append}
use Rattle.gr_format.specs.declared.field.Field.{Field}
use Rattle.gr_format.specs.Writing.{spelled, written}

pub spelled-append : (xs ys : List Field) → spelled (xs ++ ys) ≡ spelled xs ++ spelled ys
spelled-append xs ys = flat_map-append written xs ys

-- What is written behind what was written.
pub then_put : {X E : Type 0} (old mid new : List ℕ) (xs ys : List Field) (r : Result X E) → mid ≡ old ++ spelled xs → OnOk r (new ≡ mid ++ spelled ys)
    → OnOk r (new ≡ old ++ spelled (xs ++ ys))
then_put old mid new xs ys (Ok x) e h =
    let behind : List ℕ → List ℕ = λ bytes. bytes ++ spelled ys in
    let front : List ℕ → List ℕ = λ bytes. old ++ bytes in
    h ∙ ap behind e ∙ append_assoc old (spelled xs) (spelled ys) ∙ ap front (sym (spelled-append xs ys))
then_put old mid new xs ys (Err error) e h = tt

pub ruleset spellings = (spelled-append)
