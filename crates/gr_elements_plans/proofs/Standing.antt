-- Words that stand one after another, counted by position.
use Rattle.std.proofs.Common.{◌≡◌, ◌≢◌, ◌⊎◌, ℕ, zero, suc, ◌+◌, ◌<◌, ◌≤◌, ◌==◌, if◌then◌else◌, List, [], ◌∷◌, length, sym, ◌∙◌, ap, refl, arith, inl, inr, Option, Some, None}
use Rattle.std.specs.Option.{option_len}
use Rattle.std.proofs.lemmas.Bool.{cases_eq}
use Rattle.std.proofs.lemmas.Bool.Decides.{nat_tests}
use Rattle.gr_vector.specs.Laws.{Stand}
use Rattle.gr_elements_plans.specs.Positions.{standing}

module _ (at : ℕ) (x : ℕ) (xs : List ℕ) (p : ℕ) where
  pub standing_at : p ≡ at → standing at (x ∷ xs) p ≡ Some x
  standing_at e = grind (arith, nat_tests)

  pub standing_on : p ≢ at → standing at (x ∷ xs) p ≡ standing (at + 1) xs p
  standing_on e = grind (arith, nat_tests)

pub if_at : (p at : ℕ) → (((if p == at then 1 else 0) ≡ suc zero) × (p ≡ at)) ⊎ (((if p == at then 1 else 0) ≡ zero) × (p ≢ at))
if_at p at = elim (cases_eq p at) [ inl q ↦ inl (is p at q, q) | inr ne ↦ inr (isnt p at ne, ne) ]
  where
    is : (p at : ℕ) → p ≡ at → (if p == at then 1 else 0) ≡ suc zero
    is p at q = grind (arith, nat_tests)

    isnt : (p at : ℕ) → p ≢ at → (if p == at then 1 else 0) ≡ zero
    isnt p at q = grind (arith, nat_tests)

pub swap_at : (p at : ℕ) → (if at == p then 1 else 0) ≡ (if p == at then suc zero else zero)
swap_at p at = grind (arith, nat_tests)

-- 1 for each of so many positions from one on.
abbrev pub spans : ℕ → ℕ → ℕ → ℕ
spans at zero p = 0
spans at (suc n) p = (if p == at then 1 else 0) + spans (at + 1) n p

pub spans_below : (at n p : ℕ) → p < at → spans at n p ≡ 0
spans_below at zero p l = refl
spans_below at (suc n) p l = elim (if_at p at) [
  | inl q ↦ absurd (omega (arith, q.1, l))
  | inr q ↦ omega (arith, q.0, spans_below (at + 1) n p (omega (arith, l)))
]

pub spans_past : (at n p : ℕ) → at + n ≤ p → spans at n p ≡ 0
spans_past at zero p l = refl
spans_past at (suc n) p l = elim (if_at p at) [
  | inl q ↦ absurd (omega (arith, q.1, l))
  | inr q ↦ omega (arith, q.0, spans_past (at + 1) n p (omega (arith, l)))
]

pub spans_last : (at n p : ℕ) → spans at (suc n) p ≡ spans at n p + (if p == at + n then 1 else 0)
spans_last at zero p = omega (arith, ap (λ (j : ℕ). if p == j then suc zero else zero) (same at))
  where
    same : (at : ℕ) → at + 0 ≡ at
    same at = omega arith
spans_last at (suc n) p = omega (arith, spans_last (at + 1) n p, ap (λ (j : ℕ). if p == j then suc zero else zero) (same at n))
  where
    same : (at n : ℕ) → at + suc n ≡ at + 1 + n
    same at n = omega arith

pub standing_spans : (at : ℕ) (xs : List ℕ) (p : ℕ) → option_len (standing at xs p) ≡ spans at (length xs) p
standing_spans at [] p = refl
standing_spans at (x ∷ xs) p = elim (if_at p at) [
  | inl q ↦ omega (arith, ap option_len (standing_at at x xs p q.1), q.0, spans_below (at + 1) (length xs) p (omega (arith, q.1)))
  | inr q ↦ omega (arith, ap option_len (standing_on at x xs p q.1), q.0, standing_spans (at + 1) xs p)
]

pub no_some : {X : Type 0} (x : X) → None ≡ Some x → ⊥
no_some x e = cc

pub len_none : {X : Type 0} (o : Option X) → option_len o ≡ 0 → o ≡ None
len_none None e = refl
len_none (Some x) e = absurd (omega (arith, e))

pub len_some : {X : Type 0} (o : Option X) → 0 < option_len o → (x : X) × (o ≡ Some x)
len_some None e = absurd (omega (arith, e))
len_some (Some x) e = (x, refl)

pub len_le : {X : Type 0} (o : Option X) → option_len o ≤ 1
len_le None = omega arith
len_le (Some x) = omega arith

pub standing_past : (at : ℕ) (xs : List ℕ) (p : ℕ) → at + length xs ≤ p → standing at xs p ≡ None
standing_past at xs p l = len_none (standing at xs p) (omega (arith, standing_spans at xs p, spans_past at (length xs) p l))

-- What is at a position stands before the end.
pub standing_before : (at : ℕ) (xs : List ℕ) (p x : ℕ) → standing at xs p ≡ Some x → p < at + length xs
standing_before at xs p x e = go (cases_at (at + length xs) p)
  where
    cases_at : (a b : ℕ) → (a ≤ b) ⊎ (b < a)
    cases_at a b = grind arith

    go : (at + length xs ≤ p) ⊎ (p < at + length xs) → p < at + length xs
    go (inl l) = absurd (no_some x (sym (standing_past at xs p l) ∙ e))
    go (inr l) = l

pub stands_so : (at : ℕ) (xs : List ℕ) (held : ℕ → Option ℕ) → ((p : ℕ) → at ≤ p → held p ≡ standing at xs p) → Stand held at xs
stands_so at [] held f = tt
stands_so at (x ∷ xs) held f = (
  f at (omega arith) ∙ standing_at at x xs at refl,
  stands_so (at + 1) xs held (λ p l. f p (omega (arith, l)) ∙ standing_on at x xs p (λ q. omega (arith, q, l))),
)

pub stand_tells : (at : ℕ) (xs : List ℕ) (held : ℕ → Option ℕ) → Stand held at xs → (p x : ℕ) → standing at xs p ≡ Some x → held p ≡ Some x
stand_tells at [] held s p x e = absurd (no_some x e)
stand_tells at (y ∷ xs) held s p x e = elim (cases_eq p at) [
  | inl q ↦ ap held q ∙ s.0 ∙ sym (standing_at at y xs p q) ∙ e
  | inr q ↦ stand_tells (at + 1) xs held s.1 p x (sym (standing_on at y xs p q) ∙ e)
]
