-- The unit that a core takes up next, and the units that are left.
use Rattle.std.proofs.Common.{◌≡◌, ℕ, suc, ◌+◌, ◌-◌, List, [], ◌∷◌, length, take, sym, ◌∙◌, ap, subst, refl, arith, Option, Some, None}
use Rattle.std.specs.List.{last_or}
use Rattle.gr_msg.specs.declared.message.Unit.{Unit as WorkUnit}
use Rattle.gr_net.specs.Sums.{weigh, Each}
use Rattle.gr_work.specs.Queues.{Queues, next_unit, after_next}

-- ---- the unit that is taken up, and the others

last_apart : {X : Type 0} (P : X → Type 0) (h : X → ℕ) (xs : List X) (u : X) → last_or None xs ≡ Some u → Each P xs
    → (P u × Each P (take (length xs - 1) xs)) × (weigh h xs ≡ h u + weigh h (take (length xs - 1) xs))
last_apart P h [] u e f = absurd (cc)
last_apart P h (x ∷ []) u e f =
    let same : x ≡ u = cc in
    ((subst P same f.0, tt), omega (arith, ap h same))
last_apart P h (x ∷ y ∷ xs) u e f =
    let r = last_apart P h (y ∷ xs) u e f.1 in
    ((r.0.0, rest (f.0, r.0.1)), omega (arith, r.1, rest_weigh))
  where
    two : (n : ℕ) → suc (suc n) - 1 ≡ suc n
    two n = omega arith

    one : (n : ℕ) → suc n - 1 ≡ n
    one n = omega arith

    shape : take (length (x ∷ y ∷ xs) - 1) (x ∷ y ∷ xs) ≡ x ∷ take (length (y ∷ xs) - 1) (y ∷ xs)
    shape = ap (λ (i : ℕ). take i (x ∷ y ∷ xs)) (two (length xs)) ∙ ap (λ (i : ℕ). x ∷ take i (y ∷ xs)) (sym (one (length xs)))

    rest : P x × Each P (take (length (y ∷ xs) - 1) (y ∷ xs)) → Each P (take (length (x ∷ y ∷ xs) - 1) (x ∷ y ∷ xs))
    rest p = subst (Each P) (sym shape) p

    rest_weigh : weigh h (take (length (x ∷ y ∷ xs) - 1) (x ∷ y ∷ xs)) ≡ h x + weigh h (take (length (y ∷ xs) - 1) (y ∷ xs))
    rest_weigh = ap (weigh h) shape

-- Of the two queues.
pub record TakenApart (P : WorkUnit → Type 0) (before : Queues) (u : WorkUnit) : Type 0 where
  pub one : P u
  pub private : Each P (after_next before.private before.public).private
  pub public : Each P (after_next before.private before.public).public
  pub weighs : (h : WorkUnit → ℕ) → weigh h before.private + weigh h before.public ≡ h u + (weigh h (after_next before.private before.public).private + weigh h (after_next before.private before.public).public)

pub taken_apart : (P : WorkUnit → Type 0) (private public : List WorkUnit) (u : WorkUnit) → next_unit private public ≡ Some u → Each P private → Each P public → TakenApart P (record { private = private; public = public }) u
taken_apart P [] public u e f g = record {
  one = (last_apart P (λ x. 0) public u e g).0.0;
  private = tt;
  public = (last_apart P (λ x. 0) public u e g).0.1;
  weighs = λ h. omega (arith, (last_apart P h public u e g).1);
}
taken_apart P (x ∷ private) public u e f g =
    let same : x ≡ u = cc in
    record { one = subst P same f.0; private = f.1; public = g; weighs = λ h. omega (arith, ap h same) }
