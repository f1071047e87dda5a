-- Whether n words are free at a start, told from what the live blocks answer at each address.
use Rattle.std.proofs.Common.{◌≡◌, ℕ, ◌+◌, ◌<◌, List, [], ◌∷◌, Bool, true, false, ◌&&◌, ◌||◌, nat_le, Some, refl, sym, ap, ◌∙◌, arith, cond}
use Rattle.std.proofs.lemmas.Bool.{and_from, and_parts, and_right, eqb-true, ne_eqb}
use Rattle.std.proofs.lemmas.Bool.Decides.{nat_tests}
use lib.Dec.{T}
use Rattle.std.specs.List.{list_all}
use Rattle.std.specs.Ordering.{nat_cmp, eq_by_cmp, is_eq, is_lt}
use Rattle.std.specs.Cmp.{nat_cmp_total, unsigned_tied, tied_itself}
use Rattle.std.specs.FinMap as map
use Rattle.std.specs.FinMap.Entries.{below_all}
use Rattle.gr_lang.specs.Objects.{is_free}

-- whether n words from `at` on stay off a block
abbrev pub clear : ℕ → ℕ → ℕ × ℕ → Bool
clear at n block = nat_le (at + n) block.0 || nat_le (block.0 + block.1) at

abbrev found_in : List (ℕ × ℕ) → ℕ → ℕ → Type 0
found_in es k w = map.find nat_cmp k es ≡ Some w

pub same_key : (k x : ℕ) → eq_by_cmp nat_cmp k x ≡ true → k ≡ x
same_key k x t = eqb-true k x (sym (unsigned_tied k x) ∙ t)

not_clear : (at n k w : ℕ) → k < at + n → at < k + w → clear at n (k, w) ≡ false
not_clear at n k w h g = grind (arith, nat_tests)

taken_in : (es : List (ℕ × ℕ)) (at n k w : ℕ) → found_in es k w → k < at + n → at < k + w → list_all (clear at n) es ≡ false
taken_in [] at n k w is h g = cc
taken_in (e ∷ es) at n k w is h g =
    elim (eq_by_cmp nat_cmp k e.0) as (λ b. eq_by_cmp nat_cmp k e.0 ≡ b → cond b (Some e.1) (map.find nat_cmp k es) ≡ Some w → (clear at n e && list_all (clear at n) es) ≡ false) [
      | true ↦ λ t s.
          let key : k ≡ e.0 = same_key k e.0 t in
          let words : e.1 ≡ w = cc in
          ap (λ b. b && list_all (clear at n) es) (not_clear at n e.0 e.1 (omega arith) (omega arith))
      | false ↦ λ t s. and_right (clear at n e) (list_all (clear at n) es) (taken_in es at n k w s h g)
    ] refl is

pub taken_by : (live : map.FinMap nat_cmp ℕ) (at n k w : ℕ) → map.get live k ≡ Some w → k < at + n → at < k + w → is_free live at n ≡ false
taken_by live at n k w is h g = taken_in (map.entries live) at n k w (sym (map.get-entries live k) ∙ is) h g

holds : (b : Bool) → T b → b ≡ true
holds true h = refl
holds false h = absurd h

less_is : (x y : ℕ) → is_lt (nat_cmp x y) ≡ true → x < y
less_is x y h = grind (arith, nat_tests)

-- a key that is found among keys above x is above x
found_above : (x : ℕ) (es : List (ℕ × ℕ)) (k w : ℕ) → below_all nat_cmp x es ≡ true → found_in es k w → x < k
found_above x [] k w below is = cc
found_above x (e ∷ es) k w below is =
    let parts = and_parts (is_lt (nat_cmp x e.0)) (below_all nat_cmp x es) below in
    elim (eq_by_cmp nat_cmp k e.0) as (λ b. eq_by_cmp nat_cmp k e.0 ≡ b → cond b (Some e.1) (map.find nat_cmp k es) ≡ Some w → x < k) [
      | true ↦ λ t s.
          let key : k ≡ e.0 = same_key k e.0 t in
          let less : x < e.0 = less_is x e.0 parts.0 in
          omega arith
      | false ↦ λ t s. found_above x es k w parts.1 s
    ] refl is

apart_keys : (x k : ℕ) → x < k → eq_by_cmp nat_cmp k x ≡ false
apart_keys x k h = unsigned_tied k x ∙ ne_eqb k x (λ is. absurd (omega arith))

free_in : (es : List (ℕ × ℕ)) (at n : ℕ) → map.is_sorted nat_cmp es ≡ true → ((k w : ℕ) → found_in es k w → clear at n (k, w) ≡ true) → list_all (clear at n) es ≡ true
free_in [] at n sorted each = refl
free_in (e ∷ es) at n sorted each =
    let parts = and_parts (below_all nat_cmp e.0 es) (map.is_sorted nat_cmp es) sorted in
    let here : clear at n e ≡ true = each e.0 e.1 (ap (λ r. cond (is_eq r) (Some e.1) (map.find nat_cmp e.0 es)) (tied_itself nat_cmp_total e.0)) in
    let behind : list_all (clear at n) es ≡ true = free_in es at n parts.1 (λ k w is. each k w (ap (λ b. cond b (Some e.1) (map.find nat_cmp k es)) (apart_keys e.0 k (found_above e.0 es k w parts.0 is)) ∙ is)) in
    and_from (clear at n e) (list_all (clear at n) es) here behind

-- n words are free where each live block stays off them
pub free_by : (live : map.FinMap nat_cmp ℕ) (at n : ℕ) → ((k w : ℕ) → map.get live k ≡ Some w → clear at n (k, w) ≡ true) → is_free live at n ≡ true
free_by live at n each = free_in (map.entries live) at n (holds _ (map.entries_sorted live)) (λ k w is. each k w (map.get-entries live k ∙ is))
