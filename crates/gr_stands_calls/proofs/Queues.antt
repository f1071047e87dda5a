-- What a core takes from its queues of units: what is left weighs less by that, and what is true of all units is true of it and of those left.
use Rattle.std.proofs.Common.{◌≡◌, ℕ, ◌+◌, ◌-◌, List, [], ◌∷◌, length, take, sym, ◌∙◌, ap, subst, refl, arith, Option, Some, None}
use Rattle.std.specs.List.{last_or}
use Rattle.gr_msg.specs.declared.message.Unit.{Unit as WorkUnit}
use Rattle.gr_work.specs.Queues.{Queues, next_unit, after_next}
use Rattle.gr_net.specs.Sums.{weigh, Each}

none_some : {X : Type 0} (x : X) → None ≡ Some x → ⊥
none_some x e = cc

-- The last of a list, and those before it.
last_weigh : (h : WorkUnit → ℕ) (first u : WorkUnit) (us : List WorkUnit) → last_or (Some first) us ≡ Some u → weigh h (take (length us) (first ∷ us)) + h u ≡ weigh h (first ∷ us)
last_weigh h first u [] e = omega (arith, ap (λ (o : Option WorkUnit). of_unit o) e)
  where
    of_unit : Option WorkUnit → ℕ
    of_unit None = 0
    of_unit (Some x) = h x
last_weigh h first u (next ∷ us) e = omega (arith, last_weigh h next u us e)

last_fits : (P : WorkUnit → Type 0) (first u : WorkUnit) (us : List WorkUnit) → last_or (Some first) us ≡ Some u → Each P (first ∷ us) → P u × Each P (take (length us) (first ∷ us))
last_fits P first u [] e f = (subst P (same first u e) f.0, tt)
  where
    same : (x y : WorkUnit) → Some x ≡ Some y → x ≡ y
    same x y e = cc
last_fits P first u (next ∷ us) e f = let r = last_fits P next u us e f.1 in (r.0, (f.0, r.1))

shorter : {X : Type 0} (x : X) (xs : List X) → length (x ∷ xs) - 1 ≡ length xs
shorter x xs = omega arith

pub taken_weigh : (h : WorkUnit → ℕ) (private public : List WorkUnit) (u : WorkUnit) → next_unit private public ≡ Some u
    → weigh h (after_next private public).private + weigh h (after_next private public).public + h u ≡ weigh h private + weigh h public
taken_weigh h [] [] u e = absurd (none_some u e)
taken_weigh h [] (first ∷ rest) u e = omega (arith, last_weigh h first u rest e, ap (λ (n : ℕ). weigh h (take n (first ∷ rest))) (shorter first rest))
taken_weigh h (first ∷ rest) public u e = omega (arith, ap of_unit e)
  where
    of_unit : Option WorkUnit → ℕ
    of_unit None = 0
    of_unit (Some x) = h x

pub record TakenFit (P : WorkUnit → Type 0) (private public : List WorkUnit) (u : WorkUnit) : Type 0 where
  pub first : P u
  pub private_left : Each P (after_next private public).private
  pub public_left : Each P (after_next private public).public

pub taken_fit : (P : WorkUnit → Type 0) (private public : List WorkUnit) (u : WorkUnit) → next_unit private public ≡ Some u → Each P private → Each P public → TakenFit P private public u
taken_fit P [] [] u e f g = absurd (none_some u e)
taken_fit P [] (first ∷ rest) u e f g =
    let r = last_fits P first u rest e g in
    record { first = r.0; private_left = tt; public_left = subst (λ (n : ℕ). Each P (take n (first ∷ rest))) (sym (shorter first rest)) r.1 }
taken_fit P (first ∷ rest) public u e f g = record { first = subst P (same first u e) f.0; private_left = f.1; public_left = g }
  where
    same : (x y : WorkUnit) → Some x ≡ Some y → x ≡ y
    same x y e = cc
