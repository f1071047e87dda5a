-- What a node of a tree of peaks says of the leaves below it, and the way from the root to the first leaf that is great enough.
use Rattle.std.proofs.Common.{◌≡◌, ℕ, zero, suc, ◌+◌, ◌-◌, ◌*◌, ◌/◌, ◌^◌, ◌<◌, ◌≤◌, List, slice_index, refl, sym, ap, ◌∙◌, subst, arith, ⊎_elim, ◌⊎◌}
use Rattle.std.proofs.Math.Nat.{pow-suc, one-le-pow}
use Rattle.std.proofs.Math.Pow.{pow_mono}
use Rattle.std.proofs.lemmas.Bool.{cases_lt}
use Rattle.gr_alloc.specs.PeakView.{IsTree, IsPeak}

-- the node so many levels above this one
abbrev pub above : ℕ → ℕ → ℕ
above zero node = node
above (suc levels) node = above levels node / 2

pub pow_double : (n : ℕ) → 2 ^ suc n ≡ 2 * 2 ^ n
pow_double n = omega (arith, pow-suc 2 n)

pow_next : (n : ℕ) → 2 ^ (n + 1) ≡ 2 * 2 ^ n
pow_next n = let e : n + 1 ≡ suc n = omega arith in ap (λ k. 2 ^ k) e ∙ pow_double n

doubled : (a p q : ℕ) → q ≡ 2 * p → a * q ≡ 2 * a * p
doubled a p q h = grind arith

low_half : (tree : List ℕ) (k m : ℕ) → IsPeak tree k → k ≡ m / 2 → slice_index tree m ≤ slice_index tree k
low_half tree k m peak half =
    ⊎_elim
    (λ even. let e : m ≡ 2 * k = omega arith in subst (λ x. slice_index tree x ≤ slice_index tree k) (sym e) (omega (arith, peak)))
    (λ odd. let e : m ≡ 2 * k + 1 = omega arith in subst (λ x. slice_index tree x ≤ slice_index tree k) (sym e) (omega (arith, peak)))
    (cases_lt m (2 * k + 1))

pub above_inside : (j k n : ℕ) → k < n → above j k < n
above_inside zero k n h = h
above_inside (suc j) k n h = omega (arith, above_inside j k n h)

-- a node isn't above its peaks
pub below_peak : (tree : List ℕ) (levels j k : ℕ) → IsTree tree levels → k < 2 ^ suc levels → 0 < above j k → slice_index tree k ≤ slice_index tree (above j k)
below_peak tree levels zero k is inside positive = omega arith
below_peak tree levels (suc j) k is inside positive =
    let low : above j k < 2 ^ suc levels = above_inside j k (2 ^ suc levels) inside in
    let peak = is.peaks (above (suc j) k) positive (omega (arith, pow_double levels)) in
    let rest = below_peak tree levels j k is inside (omega arith) in
    let here = low_half tree (above (suc j) k) (above j k) peak refl in
    omega arith

pub above_from : (j a k : ℕ) → a * 2 ^ j ≤ k → a ≤ above j k
above_from zero a k h = omega arith
above_from (suc j) a k h = omega (arith, above_from j (2 * a) k (omega (arith, doubled a (2 ^ j) (2 ^ suc j) (pow_double j), h)))

pub above_before : (j a k : ℕ) → k < a * 2 ^ j → above j k < a
above_before zero a k h = omega arith
above_before (suc j) a k h = omega (arith, above_before j (2 * a) k (omega (arith, doubled a (2 ^ j) (2 ^ suc j) (pow_double j), h)))

-- after i levels the way is at this node: it is great enough, and no leaf before those below it is
pub record IsOnWay (tree : List ℕ) (levels need i node : ℕ) : Type 0 where
  pub low : 2 ^ i ≤ node
  pub high : node < 2 ^ suc i
  pub found : need ≤ slice_index tree node
  pub first : (k : ℕ) → 2 ^ levels ≤ k → k < 2 ^ suc levels → above (levels - i) k < node → slice_index tree k < need

pub at_root : (tree : List ℕ) (levels need : ℕ) → need ≤ slice_index tree 1 → IsOnWay tree levels need 0 1
at_root tree levels need h = record {
  low = omega arith;
  high = omega arith;
  found = h;
  first = λ k low high before.
      let e : levels - 0 ≡ levels = omega arith in
      let none = subst (λ j. above j k < 1) e before in
      absurd (omega (arith, above_from levels 1 k (omega arith)));
}

pow_le : (i levels : ℕ) → i < levels → 2 ^ suc i ≤ 2 ^ levels
pow_le i levels h = pow_mono h

pow_positive : (i : ℕ) → 0 < 2 ^ i
pow_positive i = one-le-pow i 2 (omega arith)

pub inside_tree : (i levels node : ℕ) → i < levels → node < 2 ^ suc i → 2 * node + 1 < 2 ^ suc levels
inside_tree i levels node h g = omega (arith, pow_le i levels h, pow_double levels)

-- a leaf below a node before the two of this node is below a node before this one
before_pair : (j k node : ℕ) → above j k < 2 * node → above (suc j) k < node
before_pair j k node h = omega arith

one_level : (i levels : ℕ) → i < levels → levels - i ≡ suc (levels - (i + 1))
one_level i levels h = omega arith

before_two : (tree : List ℕ) (levels need i node : ℕ) → i < levels → IsOnWay tree levels need i node → (k : ℕ) → 2 ^ levels ≤ k → k < 2 ^ suc levels → above (levels - (i + 1)) k < 2 * node → slice_index tree k < need
before_two tree levels need i node deeper way k low high before =
    way.first k low high (subst (λ j. above j k < node) (sym (one_level i levels deeper)) (before_pair (levels - (i + 1)) k node before))

pub to_left : (tree : List ℕ) (levels need i node next : ℕ) → i < levels → IsOnWay tree levels need i node → next ≡ node * 2 → need ≤ slice_index tree next → IsOnWay tree levels need (i + 1) next
to_left tree levels need i node next deeper way e h = record {
  low = omega (arith, pow_next i, way.low);
  high = omega (arith, pow_double (i + 1), pow_next i, pow_double i, way.high);
  found = h;
  first = λ k low high before. before_two tree levels need i node deeper way k low high (omega (arith, before));
}

left_or_before : (a node next : ℕ) → next ≡ node * 2 + 1 → a < next → (a < 2 * node) ⊎ (a ≡ node * 2)
left_or_before a node next e h = grind arith

pub to_right : (tree : List ℕ) (levels need i node left next : ℕ) → IsTree tree levels → i < levels → IsOnWay tree levels need i node → left ≡ node * 2 → slice_index tree left < need → next ≡ left + 1 → IsOnWay tree levels need (i + 1) next
to_right tree levels need i node left next is deeper way e h f =
    let positive : 0 < node = omega (arith, way.low, pow_positive i) in
    let peak : IsPeak tree node = is.peaks node positive (omega (arith, way.high, pow_le i levels deeper)) in
    let l : slice_index tree left ≡ slice_index tree (2 * node) = ap (slice_index tree) (omega arith) in
    let r : slice_index tree next ≡ slice_index tree (2 * node + 1) = ap (slice_index tree) (omega arith) in
    record {
      low = omega (arith, pow_next i, way.low);
      high = omega (arith, pow_double (i + 1), pow_next i, pow_double i, way.high);
      found = omega (arith, peak, way.found);
      first = λ k low high before.
          ⊎_elim
          (λ less. before_two tree levels need i node deeper way k low high less)
          (λ same.
          let under = below_peak tree levels (levels - (i + 1)) k is high (omega (arith, same, positive)) in
          let at = ap (slice_index tree) (same ∙ sym e) in
          omega (arith, under, at))
          (left_or_before (above (levels - (i + 1)) k) node next (omega arith) before);
    }

pub at_leaf : (tree : List ℕ) (levels need i node : ℕ) → i ≡ levels → IsOnWay tree levels need i node → (k : ℕ) → 2 ^ levels ≤ k → k < node → slice_index tree k < need
at_leaf tree levels need i node e way k low before =
    let none : levels - i ≡ 0 = omega arith in
    let high : 2 ^ suc i ≡ 2 ^ suc levels = ap (λ n. 2 ^ suc n) e in
    way.first k low (omega (arith, way.high)) (subst (λ j. above j k < node) (sym none) before)
