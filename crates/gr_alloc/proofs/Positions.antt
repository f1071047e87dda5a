-- The first place of a list, as a tree of peaks finds it.
use Rattle.std.proofs.Common.{◌≡◌, ℕ, suc, ◌+◌, ◌-◌, ◌^◌, ◌<◌, ◌≤◌, Bool, true, false, nat_le, nat_lt, cond, List, length, drop, slice_index, Some, None, ap, ◌∙◌, arith, length-drop}
use Rattle.std.specs.Prelude.{position}
use Rattle.std.specs.List.{position_or_len}
use Rattle.std.proofs.lemmas.List.{get_or-drop}
use Rattle.std.proofs.lemmas.List.Sums.{position_or_len_is}
use Rattle.std.proofs.lemmas.Bool.{lt-ltb, le-ltb, le-leb, lt-leb}
use Rattle.gr_alloc.specs.PeakView.{IsTree}
use Rattle.gr_alloc.proofs.Climbs.{above, below_peak, above_from, above_before, pow_double}

pub position_is : (p : ℕ → Bool) (xs : List ℕ) (i : ℕ) → i < length xs → p (slice_index xs i) ≡ true → ((k : ℕ) → k < i → p (slice_index xs k) ≡ false) → position p xs ≡ Some i
position_is p xs i inside here before =
    let e : position_or_len p xs ≡ i = position_or_len_is p xs i 0 (omega arith) before (λ h. here) in
    ap (λ n. cond (nat_lt n (length xs)) (Some n) None) e ∙ ap (λ b. cond b (Some i) None) (lt-ltb i (length xs) inside)

pub position_none : (p : ℕ → Bool) (xs : List ℕ) → ((k : ℕ) → k < length xs → p (slice_index xs k) ≡ false) → position p xs ≡ None
position_none p xs each =
    let e : position_or_len p xs ≡ length xs = position_or_len_is p xs (length xs) 0 (omega arith) each (λ h. absurd (omega (arith, h))) in
    ap (λ n. cond (nat_lt n (length xs)) (Some n) None) e ∙ ap (λ b. cond b (Some (length xs)) None) (le-ltb (length xs) (length xs) (omega arith))

leaves : (tree : List ℕ) (levels : ℕ) → IsTree tree levels → length (drop (2 ^ levels) tree) ≡ 2 ^ levels
leaves tree levels is = omega (arith, length-drop (2 ^ levels) tree, is.whole, pow_double levels)

leaf_at : (tree : List ℕ) (first i : ℕ) → slice_index (drop first tree) i ≡ slice_index tree (first + i)
leaf_at tree first i = get_or-drop first tree i 0

pub found_at : (tree : List ℕ) (levels need leaf : ℕ) → IsTree tree levels → 2 ^ levels ≤ leaf → leaf < length tree → need ≤ slice_index tree leaf → ((k : ℕ) → 2 ^ levels ≤ k → k < leaf → slice_index tree k < need) → position (λ x. nat_le need x) (drop (2 ^ levels) tree) ≡ Some (leaf - 2 ^ levels)
found_at tree levels need leaf is low inside enough first =
    let half = 2 ^ levels in
    let place : half + (leaf - half) ≡ leaf = omega arith in
    let here : slice_index (drop half tree) (leaf - half) ≡ slice_index tree leaf = leaf_at tree half (leaf - half) ∙ ap (slice_index tree) place in
    position_is (λ x. nat_le need x) (drop half tree) (leaf - half)
    (omega (arith, leaves tree levels is, is.whole, pow_double levels))
    (le-leb need _ (omega (arith, here)))
    (λ k before. lt-leb need _ (omega (arith, leaf_at tree half k, first (half + k) (omega arith) (omega (arith, before)))))

pub none_at : (tree : List ℕ) (levels need : ℕ) → IsTree tree levels → slice_index tree 1 < need → position (λ x. nat_le need x) (drop (2 ^ levels) tree) ≡ None
none_at tree levels need is low =
    let half = 2 ^ levels in
    position_none (λ x. nat_le need x) (drop half tree) (λ k inside.
    let leaf = half + k in
    let high : leaf < 2 ^ suc levels = omega (arith, leaves tree levels is, pow_double levels, inside) in
    let from = above_from levels 1 leaf (omega arith) in
    let before = above_before levels 2 leaf (omega (arith, pow_double levels)) in
    let root : above levels leaf ≡ 1 = omega arith in
    let under = below_peak tree levels levels leaf is high (omega arith) in
    let top = ap (slice_index tree) root in
    lt-leb need _ (omega (arith, leaf_at tree half k)))
