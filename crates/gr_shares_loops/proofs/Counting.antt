-- Numbers of a set that lie in a range: no more than the range has, and all of it where they are as many.
use Rattle.std.proofs.Common.{◌≡◌, ◌≢◌, ◌⊎◌, ℕ, zero, suc, ◌+◌, ◌-◌, ◌<◌, ◌≤◌, ◌==◌, ◌&&◌, ◌||◌, cond, not, if◌then◌else◌, Bool, true, false, nat_le, nat_lt, inl, inr, sym, ◌∙◌, ap, subst, refl, arith}
use Rattle.std.specs.FinSet as set
use Rattle.std.specs.FinSet.{len-insert, len-remove, len-empty, contains-insert, contains-remove, contains-empty, same_set}
use Rattle.std.specs.FinMap.{nat_cmp-IsAntisymmetric}
use Rattle.std.specs.Ordering.{nat_cmp}
use Rattle.std.specs.Cmp.{unsigned_tied}
use Rattle.std.proofs.lemmas.Cmp.{nat_cmp_total}
use Rattle.std.proofs.lemmas.Bool.Decides.{nat_tests}
use Rattle.gr_lang.specs.States.{Range}
use Rattle.gr_shares.specs.Loops.{within, left_in, BegunInside}
use Rattle.gr_shares.proofs.Weights.{within_inside, within_bit}

abbrev pub Numbers : Type 0
Numbers = set.FinSet nat_cmp

same_number : (q k : ℕ) → (q == k) ≡ true → q ≡ k
same_number q k e = grind (arith, nat_tests)

pub with_one : (s : Numbers) (k q : ℕ) → set.contains (set.insert s k) q ≡ (q == k || set.contains s q)
with_one s k q = contains-insert nat_cmp_total s k q ∙ ap (λ (b : Bool). b || set.contains s q) (unsigned_tied q k)

pub without_one : (s : Numbers) (k q : ℕ) → set.contains (set.remove s k) q ≡ (not (q == k) && set.contains s q)
without_one s k q = contains-remove nat_cmp_total s k q ∙ ap (λ (b : Bool). not b && set.contains s q) (unsigned_tied q k)

none_true : (b : Bool) → (b ≡ true → ⊥) → b ≡ false
none_true true f = absurd (f refl)
none_true false f = refl

both_true : (a b : Bool) → (not a && b) ≡ true → (a ≡ false) × (b ≡ true)
both_true true b e = absurd (cc)
both_true false b e = (refl, e)

pub either_true : (a b : Bool) → (a || b) ≡ true → (a ≡ true) ⊎ (b ≡ true)
either_true true b e = inl refl
either_true false b e = inr e

unequal : (q k : ℕ) → (q == k) ≡ false → q ≢ k
unequal q k e = grind (arith, nat_tests)

-- No more than there are numbers in the range.
pub few : (n lo : ℕ) (s : Numbers) → ((k : ℕ) → set.contains s k ≡ true → (lo ≤ k) × (k < lo + n)) → set.len s ≤ n
few zero lo s inside =
    let none : s ≡ set.empty = same_set nat_cmp_total nat_cmp-IsAntisymmetric s set.empty
    (λ q. none_true (set.contains s q) (λ h. absurd (omega (arith, (inside q h).0, (inside q h).1))) ∙ sym (contains-empty nat_cmp q)) in
    omega (arith, ap set.len none, len-empty nat_cmp)
few (suc n) lo s inside =
    let t = set.remove s (lo + n) in
    let rest : set.len t ≤ n = few n lo t (λ k h.
    let both = both_true (k == lo + n) (set.contains s k) (sym (without_one s (lo + n) k) ∙ h) in
    ((inside k both.1).0, below k (inside k both.1).1 (unequal k (lo + n) both.0))) in
    by (set.contains s (lo + n)) (len-remove nat_cmp_total s (lo + n)) rest
  where
    below : (k : ℕ) → k < lo + suc n → k ≢ lo + n → k < lo + n
    below k l ne = omega arith

    by : (b : Bool) → set.len (set.remove s (lo + n)) ≡ cond b (set.len s - 1) (set.len s) → set.len (set.remove s (lo + n)) ≤ n → set.len s ≤ suc n
    by true e l = omega arith
    by false e l = omega arith

-- At least as many as the range has, where all of it is there.
pub many : (n lo : ℕ) (s : Numbers) → ((k : ℕ) → lo ≤ k → k < lo + n → set.contains s k ≡ true) → n ≤ set.len s
many zero lo s all = omega arith
many (suc n) lo s all =
    let t = set.remove s (lo + n) in
    let rest : n ≤ set.len t = many n lo t (λ k p q. without_one s (lo + n) k ∙ kept (k == lo + n) (set.contains s k) (different k q) (all k p (omega (arith, q)))) in
    let there : set.contains s (lo + n) ≡ true = all (lo + n) (omega arith) (omega arith) in
    let less : set.len t ≡ set.len s - 1 = len-remove nat_cmp_total s (lo + n) ∙ ap (λ (b : Bool). cond b (set.len s - 1) (set.len s)) there in
    some (set.len s) rest less (holds_one there)
  where
    different : (k : ℕ) → k < lo + n → (k == lo + n) ≡ false
    different k q = grind (arith, nat_tests, q)

    kept : (a b : Bool) → a ≡ false → b ≡ true → (not a && b) ≡ true
    kept a b e f = rw (e, f) refl

    holds_one : set.contains s (lo + n) ≡ true → set.len s ≢ 0
    holds_one e z = true_false (sym e ∙ ap (λ (x : Numbers). set.contains x (lo + n)) (set.empty_of_len s z) ∙ contains-empty nat_cmp (lo + n))
      where
        true_false : true ≡ false → ⊥
        true_false e = cc

    some : (l : ℕ) → n ≤ set.len (set.remove s (lo + n)) → set.len (set.remove s (lo + n)) ≡ l - 1 → l ≢ 0 → suc n ≤ l
    some l p e ne = omega (arith, p, e)

-- ---- ranges

module _ (r : Range) (inside : BegunInside r) where
  bounds : (k : ℕ) → within r.lo r.hi k ≡ 1 → (r.lo ≤ k) × (k < r.lo + (r.hi - r.lo))
  bounds k e = let p = within_inside r.lo r.hi k e in (low r.lo k p.0, high r.lo k r.hi p.1 (low r.lo k p.0))
    where
      low : (a k : ℕ) → nat_le a k ≡ true → a ≤ k
      low a k e = grind (arith, nat_tests, e)

      less : (k b : ℕ) → nat_lt k b ≡ true → k < b
      less k b e = grind (arith, nat_tests, e)

      high : (a k b : ℕ) → nat_lt k b ≡ true → a ≤ k → k < a + (b - a)
      high a k b e l = omega (arith, less k b e, l)

  -- As many have begun as the range has: none is left.
  pub all_begun : r.hi - r.lo ≤ set.len r.begun → (index : ℕ) → left_in r index ≡ 0
  all_begun full index = by (set.contains r.begun index) refl
    where
      more : set.contains r.begun index ≡ false → set.len (set.insert r.begun index) ≡ set.len r.begun + 1
      more e = len-insert nat_cmp_total r.begun index ∙ ap (λ (b : Bool). cond b (set.len r.begun) (set.len r.begun + 1)) e

      all_in : within r.lo r.hi index ≡ 1 → (k : ℕ) → set.contains (set.insert r.begun index) k ≡ true → (r.lo ≤ k) × (k < r.lo + (r.hi - r.lo))
      all_in e k h = elim (either_true (k == index) (set.contains r.begun k) (sym (with_one r.begun index k) ∙ h)) [
        | inl q ↦ bounds k (subst (λ (i : ℕ). within r.lo r.hi i ≡ 1) (sym (same_number k index q)) e)
        | inr q ↦ bounds k (inside k q)
      ]

      none : (n : ℕ) → within r.lo r.hi index ≡ n → n ≤ 1 → set.contains r.begun index ≡ false → n ≡ 0
      none zero e l f = refl
      none (suc zero) e l f = absurd (omega (arith, few (r.hi - r.lo) r.lo (set.insert r.begun index) (all_in e), more f, full))
      none (suc (suc n)) e l f = absurd (omega arith)

      by : (b : Bool) → set.contains r.begun index ≡ b → (if b then zero else within r.lo r.hi index) ≡ zero
      by true e = refl
      by false e = none (within r.lo r.hi index) refl (within_bit r.lo r.hi index) e
