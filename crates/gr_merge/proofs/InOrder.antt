-- The merge of lists: each core's in its order, and clocks that don't fall.
use Rattle.std.proofs.Common.{◌≡◌, ℕ, zero, suc, ◌+◌, ◌<◌, ◌≤◌, ◌==◌, true, false, if◌then◌else◌, map, List, [], ◌∷◌, slice_index_or, ◌∙◌, add-zero, zero-add, refl, sym, subst, ap, inl, inr, arith, eq-eqb, ne_eqb}
use Rattle.std.proofs.lemmas.List.Elements.{All-nil, All-cons}
use Rattle.std.proofs.lemmas.Bool.{cases_eq}
use Rattle.std.proofs.lemmas.Bool.Decides.{nat_tests}
use Rattle.std.specs.Prelude.{⊤, All, length}
use Rattle.std.specs.List.Sorted.{IsNonDecreasingBy, IsSortedBy}
use Rattle.gr_merge.specs.Merges.{goes_first, merge_two, merge_from, merge, at_core}
use Rattle.gr_merge.proofs.Rising.{either, Each, each_of, Rises, below_less, rises_from, rises_to}

-- What a core has of a list.

pub core_own : {X : Type 0} (k : ℕ) (y : ℕ × X) (ys : List (ℕ × X)) → k ≡ y.0 → at_core k (y ∷ ys) ≡ y.1 ∷ at_core k ys
core_own k y ys e = ap (λ b. if b then y.1 ∷ at_core k ys else at_core k ys) (eq-eqb k y.0 e)

pub core_other : {X : Type 0} (k : ℕ) (y : ℕ × X) (ys : List (ℕ × X)) → (k ≡ y.0 → ⊥) → at_core k (y ∷ ys) ≡ at_core k ys
core_other k y ys n = ap (λ b. if b then y.1 ∷ at_core k ys else at_core k ys) (ne_eqb k y.0 n)

-- Its lists are as before where the tails' are.
core_more : {X : Type 0} (k : ℕ) (y : ℕ × X) (xs ys : List (ℕ × X)) → at_core k xs ≡ at_core k ys → at_core k (y ∷ xs) ≡ at_core k (y ∷ ys)
core_more k y xs ys h = ap (λ zs. if k == y.0 then y.1 ∷ zs else zs) h

core_none : {X : Type 0} (k : ℕ) (y : ℕ × X) (ys : List (ℕ × X)) → at_core k (y ∷ ys) ≡ [] → (k ≡ y.0 → ⊥) × (at_core k ys ≡ [])
core_none k y ys h = elim (cases_eq k y.0) [
  | inl e ↦ let q : y.1 ∷ at_core k ys ≡ [] = sym (core_own k y ys e) ∙ h in absurd (cc)
  | inr n ↦ (n, sym (core_other k y ys n) ∙ h)
]

pub each_own : {X : Type 0} (P : ℕ × X → Type 0) (Q : X → Type 0) (n : ℕ) → ((x : X) → Q x → P (n, x)) → (xs : List X) → Each Q xs → Each P (map (λ x. (n, x)) xs)
each_own P Q n f [] h = tt
each_own P Q n f (x ∷ xs) h = (f x h.0, each_own P Q n f xs h.1)

module _ {X : Type 0} (clock : X → ℕ) where
  abbrev pub time : ℕ × X → ℕ
  time y = clock y.1

  pub not_first : (x y : ℕ × X) → goes_first clock y x ≡ false → time x ≤ time y
  not_first x y h = grind (arith, nat_tests)

  pub is_first : (x y : ℕ × X) → goes_first clock y x ≡ true → time y ≤ time x
  is_first x y h = grind (arith, nat_tests)

  -- What holds of each of two lists holds of each of their merge.
  each_merge_two-cons : (P : ℕ × X → Type 0) (x : ℕ × X) (xs : List (ℕ × X)) → Each P (x ∷ xs)
      → ((ys : List (ℕ × X)) → Each P ys → Each P (merge_two clock xs ys))
      → (ys : List (ℕ × X)) → Each P ys → Each P (merge_two clock (x ∷ xs) ys)
  each_merge_two-cons P x xs h ih [] k = h
  each_merge_two-cons P x xs h ih (y ∷ ys) k =
      either (Each P) (goes_first clock y x) (y ∷ merge_two clock (x ∷ xs) ys) (x ∷ merge_two clock xs (y ∷ ys))
      (λ _. (k.0, each_merge_two-cons P x xs h ih ys k.1)) (λ _. (h.0, ih (y ∷ ys) k))

  pub each_merge_two : (P : ℕ × X → Type 0) (xs ys : List (ℕ × X)) → Each P xs → Each P ys → Each P (merge_two clock xs ys)
  each_merge_two P [] ys h k = k
  each_merge_two P (x ∷ xs) ys h k = each_merge_two-cons P x xs h (λ zs u. each_merge_two P xs zs h.1 u) ys k

  two_rise-cons : (x : ℕ × X) (xs : List (ℕ × X)) → Rises time (x ∷ xs)
      → ((ys : List (ℕ × X)) → Rises time ys → Rises time (merge_two clock xs ys))
      → (ys : List (ℕ × X)) → Rises time ys → Rises time (merge_two clock (x ∷ xs) ys)
  two_rise-cons x xs h ih [] k = h
  two_rise-cons x xs h ih (y ∷ ys) k =
      either (Rises time) (goes_first clock y x) (y ∷ merge_two clock (x ∷ xs) ys) (x ∷ merge_two clock xs (y ∷ ys))
      (λ f. let le = is_first x y f in
      (each_merge_two (λ z. time y ≤ time z) (x ∷ xs) ys (le, below_less time (time y) (time x) xs le h.0) k.0, two_rise-cons x xs h ih ys k.1))
      (λ f. let le = not_first x y f in
      (each_merge_two (λ z. time x ≤ time z) xs (y ∷ ys) h.0 (le, below_less time (time x) (time y) ys le k.0), ih (y ∷ ys) k))

  pub two_rise : (xs ys : List (ℕ × X)) → Rises time xs → Rises time ys → Rises time (merge_two clock xs ys)
  two_rise [] ys h k = k
  two_rise (x ∷ xs) ys h k = two_rise-cons x xs h (λ zs u. two_rise xs zs h.1 u) ys k

  -- A core has what it has in one of the two lists alone.
  first_alone-cons : (k : ℕ) (x : ℕ × X) (xs : List (ℕ × X))
      → ((ys : List (ℕ × X)) → at_core k ys ≡ [] → at_core k (merge_two clock xs ys) ≡ at_core k xs)
      → (ys : List (ℕ × X)) → at_core k ys ≡ [] → at_core k (merge_two clock (x ∷ xs) ys) ≡ at_core k (x ∷ xs)
  first_alone-cons k x xs ih [] h = refl
  first_alone-cons k x xs ih (y ∷ ys) h =
      either (λ l. at_core k l ≡ at_core k (x ∷ xs)) (goes_first clock y x) (y ∷ merge_two clock (x ∷ xs) ys) (x ∷ merge_two clock xs (y ∷ ys))
      (λ _. let n = core_none k y ys h in core_other k y (merge_two clock (x ∷ xs) ys) n.0 ∙ first_alone-cons k x xs ih ys n.1)
      (λ _. core_more k x (merge_two clock xs (y ∷ ys)) xs (ih (y ∷ ys) h))

  first_alone : (k : ℕ) (xs ys : List (ℕ × X)) → at_core k ys ≡ [] → at_core k (merge_two clock xs ys) ≡ at_core k xs
  first_alone k [] ys h = h
  first_alone k (x ∷ xs) ys h = first_alone-cons k x xs (λ zs u. first_alone k xs zs u) ys h

  second_alone-cons : (k : ℕ) (x : ℕ × X) (xs : List (ℕ × X)) → at_core k (x ∷ xs) ≡ []
      → ((ys : List (ℕ × X)) → at_core k (merge_two clock xs ys) ≡ at_core k ys)
      → (ys : List (ℕ × X)) → at_core k (merge_two clock (x ∷ xs) ys) ≡ at_core k ys
  second_alone-cons k x xs h ih [] = h
  second_alone-cons k x xs h ih (y ∷ ys) =
      either (λ l. at_core k l ≡ at_core k (y ∷ ys)) (goes_first clock y x) (y ∷ merge_two clock (x ∷ xs) ys) (x ∷ merge_two clock xs (y ∷ ys))
      (λ _. core_more k y (merge_two clock (x ∷ xs) ys) ys (second_alone-cons k x xs h ih ys))
      (λ _. core_other k x (merge_two clock xs (y ∷ ys)) (core_none k x xs h).0 ∙ ih (y ∷ ys))

  second_alone : (k : ℕ) (xs ys : List (ℕ × X)) → at_core k xs ≡ [] → at_core k (merge_two clock xs ys) ≡ at_core k ys
  second_alone k [] ys h = refl
  second_alone k (x ∷ xs) ys h = second_alone-cons k x xs h (λ zs. second_alone k xs zs (core_none k x xs h).1) ys

  core_list : (n : ℕ) (xs : List X) → at_core n (map (λ x. (n, x)) xs) ≡ xs
  core_list n [] = refl
  core_list n (x ∷ xs) = core_own n (n, x) (map (λ x. (n, x)) xs) refl ∙ ap (λ ys. x ∷ ys) (core_list n xs)

  others_list : (n k : ℕ) (xs : List X) → (k ≡ n → ⊥) → at_core k (map (λ x. (n, x)) xs) ≡ []
  others_list n k [] h = refl
  others_list n k (x ∷ xs) h = core_other k (n, x) (map (λ x. (n, x)) xs) h ∙ others_list n k xs h

  earlier_none : (n k : ℕ) (lists : List (List X)) → k < n → at_core k (merge_from clock n lists) ≡ []
  earlier_none n k [] h = refl
  earlier_none n k (list ∷ lists) h =
      first_or_second (others_list n k list (λ e. absurd (omega (arith, h, e)))) (earlier_none (n + 1) k lists (omega (arith, h)))
    where
      first_or_second : at_core k (map (λ x. (n, x)) list) ≡ [] → at_core k (merge_from clock (n + 1) lists) ≡ [] → at_core k (merge_from clock n (list ∷ lists)) ≡ []
      first_or_second a b = second_alone k (map (λ x. (n, x)) list) (merge_from clock (n + 1) lists) a ∙ b

  from_core : (n k : ℕ) (lists : List (List X)) → at_core (n + k) (merge_from clock n lists) ≡ slice_index_or lists k []
  from_core n k [] = refl
  from_core n zero (list ∷ lists) =
      ap (λ j. at_core j (merge_from clock n (list ∷ lists))) (add-zero n)
      ∙ first_alone n (map (λ x. (n, x)) list) (merge_from clock (n + 1) lists) (earlier_none (n + 1) n lists (omega arith)) ∙ core_list n list
  from_core n (suc k) (list ∷ lists) =
      second_alone (n + suc k) (map (λ x. (n, x)) list) (merge_from clock (n + 1) lists) (others_list n (n + suc k) list (λ e. absurd (omega (arith, e))))
      ∙ (let e : n + suc k ≡ n + 1 + k = omega arith in ap (λ j. at_core j (merge_from clock (n + 1) lists)) e) ∙ from_core (n + 1) k lists

  pub merge_core : (lists : List (List X)) (k : ℕ) → at_core k (merge clock lists) ≡ slice_index_or lists k []
  merge_core lists k = ap (λ j. at_core j (merge clock lists)) (sym (zero-add k)) ∙ from_core 0 k lists

  pub own_rise : (n : ℕ) (xs : List X) → Rises clock xs → Rises time (map (λ x. (n, x)) xs)
  own_rise n [] h = tt
  own_rise n (x ∷ xs) h = (each_own (λ y. clock x ≤ time y) (λ y. clock x ≤ clock y) n (λ y l. l) xs h.0, own_rise n xs h.1)

  pub from_rises : (n : ℕ) (lists : List (List X)) → ((k : ℕ) → Rises clock (slice_index_or lists k [])) → Rises time (merge_from clock n lists)
  from_rises n [] h = tt
  from_rises n (list ∷ lists) h =
      two_rise (map (λ x. (n, x)) list) (merge_from clock (n + 1) lists) (own_rise n list (h 0)) (from_rises (n + 1) lists (λ k. h (suc k)))

  pub merge_rises : (lists : List (List X)) → ((k : ℕ) → IsNonDecreasingBy clock (slice_index_or lists k [])) → IsNonDecreasingBy time (merge clock lists)
  merge_rises lists h = rises_to time (merge clock lists) (from_rises 0 lists (λ k. rises_from clock (slice_index_or lists k []) (h k)))

  -- By clock, then by core.

  abbrev NotBefore : ℕ × X → List (ℕ × X) → Type 0
  NotBefore x = Each (λ y. goes_first clock y x ≡ false)

  abbrev Sorted : List (ℕ × X) → Type 0
  Sorted [] = ⊤
  Sorted (x ∷ xs) = NotBefore x xs × Sorted xs

  not_both : (x y : ℕ × X) → goes_first clock y x ≡ true → goes_first clock x y ≡ false
  not_both x y h = grind (arith, nat_tests)

  not_before_next : (x y z : ℕ × X) → goes_first clock y x ≡ false → goes_first clock z y ≡ false → goes_first clock z x ≡ false
  not_before_next x y z h k = grind (arith, nat_tests)

  later_own : (n : ℕ) (x y : X) → clock x ≤ clock y → goes_first clock (n, y) (n, x) ≡ false
  later_own n x y h = grind (arith, nat_tests)

  not_before_either : (x y : ℕ × X) (ys : List (ℕ × X)) → goes_first clock y x ≡ false → NotBefore y ys → NotBefore x ys
  not_before_either x y ys h = each_of (λ z. goes_first clock z y ≡ false) (λ z. goes_first clock z x ≡ false) (λ z k. not_before_next x y z h k) ys

  two_sorted-cons : (x : ℕ × X) (xs : List (ℕ × X)) → Sorted (x ∷ xs)
      → ((ys : List (ℕ × X)) → Sorted ys → Sorted (merge_two clock xs ys))
      → (ys : List (ℕ × X)) → Sorted ys → Sorted (merge_two clock (x ∷ xs) ys)
  two_sorted-cons x xs h ih [] k = h
  two_sorted-cons x xs h ih (y ∷ ys) k =
      either Sorted (goes_first clock y x) (y ∷ merge_two clock (x ∷ xs) ys) (x ∷ merge_two clock xs (y ∷ ys))
      (λ f. let n = not_both x y f in
      (each_merge_two (λ z. goes_first clock z y ≡ false) (x ∷ xs) ys (n, not_before_either y x xs n h.0) k.0, two_sorted-cons x xs h ih ys k.1))
      (λ f. (each_merge_two (λ z. goes_first clock z x ≡ false) xs (y ∷ ys) h.0 (f, not_before_either x y ys f k.0), ih (y ∷ ys) k))

  two_sorted : (xs ys : List (ℕ × X)) → Sorted xs → Sorted ys → Sorted (merge_two clock xs ys)
  two_sorted [] ys h k = k
  two_sorted (x ∷ xs) ys h k = two_sorted-cons x xs h (λ zs u. two_sorted xs zs h.1 u) ys k

  own_sorted : (n : ℕ) (xs : List X) → Rises clock xs → Sorted (map (λ x. (n, x)) xs)
  own_sorted n [] h = tt
  own_sorted n (x ∷ xs) h = (each_own (λ y. goes_first clock y (n, x) ≡ false) (λ y. clock x ≤ clock y) n (λ y l. later_own n x y l) xs h.0, own_sorted n xs h.1)

  from_sorted : (n : ℕ) (lists : List (List X)) → ((k : ℕ) → Rises clock (slice_index_or lists k [])) → Sorted (merge_from clock n lists)
  from_sorted n [] h = tt
  from_sorted n (list ∷ lists) h =
      two_sorted (map (λ x. (n, x)) list) (merge_from clock (n + 1) lists) (own_sorted n list (h 0)) (from_sorted (n + 1) lists (λ k. h (suc k)))

  adjacent : (xs : List (ℕ × X)) → Sorted xs → (k : ℕ) (d : ℕ × X) → suc k < length xs → goes_first clock (slice_index_or xs (suc k) d) (slice_index_or xs k d) ≡ false
  adjacent [] h k d l = absurd (omega (arith, l))
  adjacent (x ∷ []) h k d l = absurd (omega (arith, l))
  adjacent (x ∷ y ∷ xs) h zero d l = h.0.0
  adjacent (x ∷ y ∷ xs) h (suc k) d l = adjacent (y ∷ xs) h.1 k d (omega (arith, l))

  next_is : (k : ℕ) → suc k ≡ k + 1
  next_is k = omega arith

  pub merge_sorted : (lists : List (List X)) → ((k : ℕ) → IsNonDecreasingBy clock (slice_index_or lists k [])) → IsSortedBy (goes_first clock) (merge clock lists)
  merge_sorted lists h k d above within =
      subst (λ j. goes_first clock (slice_index_or (merge clock lists) j d) (slice_index_or (merge clock lists) k d) ≡ false) (next_is k)
      (adjacent (merge clock lists) (from_sorted 0 lists (λ j. rises_from clock (slice_index_or lists j []) (h j))) k d (omega (arith, within)))

  -- The cores that there are.

  own_below : (n m : ℕ) (xs : List X) → n < m → Each (λ (y : ℕ × X). y.0 < m) (map (λ x. (n, x)) xs)
  own_below n m [] h = tt
  own_below n m (x ∷ xs) h = (h, own_below n m xs h)

  from_below : (n m : ℕ) (lists : List (List X)) → n + length lists ≤ m → Each (λ (y : ℕ × X). y.0 < m) (merge_from clock n lists)
  from_below n m [] h = tt
  from_below n m (list ∷ lists) h =
      each_merge_two (λ y. y.0 < m) (map (λ x. (n, x)) list) (merge_from clock (n + 1) lists)
      (own_below n m list (omega (arith, h))) (from_below (n + 1) m lists (omega (arith, h)))

  all_each : (P : ℕ × X → Type 0) (ys : List (ℕ × X)) → Each P ys → All P ys
  all_each P [] h = All-nil P
  all_each P (y ∷ ys) h = All-cons P y ys h.0 (all_each P ys h.1)

  pub merge_below : (lists : List (List X)) → All (λ step. step.0 < length lists) (merge clock lists)
  merge_below lists = all_each (λ y. y.0 < length lists) (merge clock lists) (from_below 0 (length lists) lists (omega arith))
