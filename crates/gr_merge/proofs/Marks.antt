-- The marks of a merge are the merge of the marks.
use Rattle.std.proofs.Common.{◌≡◌, ℕ, suc, ◌+◌, ◌<◌, ◌≤◌, Bool, true, false, if◌then◌else◌, map, List, [], ◌∷◌, ◌++◌, slice_index_or, refl, sym, ap, ap₂, ◌∙◌, arith, le_refl}
use Rattle.std.proofs.lemmas.List.{map-append}
use Rattle.std.proofs.lemmas.Bool.Decides.{nat_tests}
use Rattle.gr_merge.specs.Machines.{Marked, entries_in, marks_in}
use Rattle.gr_merge.specs.GlobalRuns.{of_core, steps_in, all_marks}
use Rattle.gr_merge.specs.Merges.{goes_first, merge_two, merge_from}
use Rattle.gr_merge.proofs.Rising.{either, Each, each_of, NotBelow, Rises}
use Rattle.gr_merge.proofs.InOrder.{not_first, each_merge_two, each_own, own_rise, from_rises}

each_append : {X : Type 0} (P : X → Type 0) (xs ys : List X) → Each P xs → Each P ys → Each P (xs ++ ys)
each_append P [] ys h k = k
each_append P (x ∷ xs) ys h k = (h.0, each_append P xs ys h.1 k)

if_map : {X Y : Type 0} (f : X → Y) (b : Bool) (x y : X) (u v : Y) → f x ≡ u → f y ≡ v → f (if b then x else y) ≡ (if b then u else v)
if_map f true x y u v h k = h
if_map f false x y u v h k = k

module _ {X : Type 0} (clock : X → ℕ) where
  merge_nothing : (xs : List (ℕ × X)) → merge_two clock xs [] ≡ xs
  merge_nothing [] = refl
  merge_nothing (x ∷ xs) = refl

  earlier_first : (y x : ℕ × X) → clock y.1 < clock x.1 → goes_first clock y x ≡ true
  earlier_first y x h = grind (arith, nat_tests)

  later_second : (y x : ℕ × X) → clock x.1 ≤ clock y.1 → x.0 < y.0 → goes_first clock y x ≡ false
  later_second y x h k = grind (arith, nat_tests)

  earlier_by_clock : (y x : ℕ × X) → goes_first clock y x ≡ true → x.0 < y.0 → clock y.1 < clock x.1
  earlier_by_clock y x h k = grind (arith, nat_tests)

  -- What is earlier than all of the first list comes first.
  right_first : (core : ℕ) (marks : List X) (xs rest : List (ℕ × X)) (c : ℕ) → Each (λ m. clock m < c) marks → NotBelow (λ x. clock x.1) c xs
      → merge_two clock xs (of_core core marks ++ rest) ≡ of_core core marks ++ merge_two clock xs rest
  right_first core marks [] rest c h k = refl
  right_first core [] (x ∷ xs) rest c h k = refl
  right_first core (m ∷ marks) (x ∷ xs) rest c h k =
      let le : c ≤ clock x.1 = k.0 in let lt : clock m < c = h.0 in
      ap (λ b. if b then (core, m) ∷ merge_two clock (x ∷ xs) (of_core core marks ++ rest) else x ∷ merge_two clock xs ((core, m) ∷ (of_core core marks ++ rest)))
      (earlier_first (core, m) x (omega (arith, le, lt)))
      ∙ ap (λ ys. (core, m) ∷ ys) (right_first core marks (x ∷ xs) rest c h.1 k)

  -- What is no later than all of the second list, whose cores are greater, comes first.
  left_first : (core : ℕ) (marks : List X) (xs rest : List (ℕ × X)) (c : ℕ) → Each (λ m. clock m ≤ c) marks → Each (λ y. (c ≤ clock y.1) × (core < y.0)) rest
      → merge_two clock (of_core core marks ++ xs) rest ≡ of_core core marks ++ merge_two clock xs rest
  left_first core [] xs rest c h k = refl
  left_first core (m ∷ marks) xs [] c h k = ap (λ ys. (core, m) ∷ (of_core core marks ++ ys)) (sym (merge_nothing xs))
  left_first core (m ∷ marks) xs (y ∷ rest) c h k =
      let le : c ≤ clock y.1 = k.0.0 in let lt : clock m ≤ c = h.0 in
      ap (λ b. if b then y ∷ merge_two clock ((core, m) ∷ (of_core core marks ++ xs)) rest else (core, m) ∷ merge_two clock (of_core core marks ++ xs) (y ∷ rest))
      (later_second y (core, m) (omega (arith, le, lt)) k.0.1)
      ∙ ap (λ ys. (core, m) ∷ ys) (left_first core marks xs (y ∷ rest) c h.1 k)

module _ {E M : Type 0} (clock : E → ℕ) (noted : M → ℕ) where
  abbrev entry_clock : Marked E M → ℕ
  entry_clock entry = clock entry.0

  abbrev step_clock : ℕ × Marked E M → ℕ
  step_clock step = entry_clock step.1

  -- The marks of an entry have its clock.
  abbrev pub Timed : Marked E M → Type 0
  Timed entry = Each (λ mark. noted mark ≡ clock entry.0) entry.1

  each_mark : (Q : ℕ × Marked E M → Type 0) (P : ℕ × M → Type 0) → ((y : ℕ × Marked E M) → Q y → Each P (of_core y.0 y.1.1))
      → (ys : List (ℕ × Marked E M)) → Each Q ys → Each P (all_marks ys)
  each_mark Q P f [] h = tt
  each_mark Q P f (y ∷ ys) h = each_append P (of_core y.0 y.1.1) (all_marks ys) (f y h.0) (each_mark Q P f ys h.1)

  abbrev Later : ℕ → ℕ × Marked E M → Type 0
  Later n y = (n < y.0) × Timed y.1

  abbrev Late : ℕ → ℕ × Marked E M → Type 0
  Late c y = (c ≤ step_clock y) × Timed y.1

  late_each : (c : ℕ) (ys : List (ℕ × Marked E M)) → NotBelow step_clock c ys → Each (λ (y : ℕ × Marked E M). Timed y.1) ys → Each (Late c) ys
  late_each c [] h k = tt
  late_each c (y ∷ ys) h k = ((h.0, k.0), late_each c ys h.1 k.1)

  late_marks : (c : ℕ) (ys : List (ℕ × Marked E M)) → Each (Late c) ys → NotBelow (λ y. noted y.1) c (all_marks ys)
  late_marks c = each_mark (Late c) (λ y. c ≤ noted y.1) (λ y h. each_own (λ y. c ≤ noted y.1) (λ mark. noted mark ≡ step_clock y) y.0
      (λ mark e. let le : c ≤ step_clock y = h.0 in omega (arith, le, e)) y.1.1 h.1)

  abbrev Last : ℕ → ℕ → ℕ × Marked E M → Type 0
  Last c n y = (c ≤ step_clock y) × Later n y

  last_each : (c n : ℕ) (ys : List (ℕ × Marked E M)) → NotBelow step_clock c ys → Each (Later n) ys → Each (Last c n) ys
  last_each c n [] h k = tt
  last_each c n (y ∷ ys) h k = ((h.0, k.0), last_each c n ys h.1 k.1)

  last_marks : (c n : ℕ) (ys : List (ℕ × Marked E M)) → Each (Last c n) ys → Each (λ y. (c ≤ noted y.1) × (n < y.0)) (all_marks ys)
  last_marks c n = each_mark (Last c n) (λ y. (c ≤ noted y.1) × (n < y.0)) (λ y h. each_own (λ y. (c ≤ noted y.1) × (n < y.0)) (λ mark. noted mark ≡ step_clock y) y.0
      (λ mark e. let le : c ≤ step_clock y = h.0 in (omega (arith, le, e), h.1.0)) y.1.1 h.1.1)

  marks_two-cons : (n : ℕ) (x : Marked E M) (xs : List (ℕ × Marked E M)) → Rises step_clock ((n, x) ∷ xs) → Each (λ (y : ℕ × Marked E M). Timed y.1) ((n, x) ∷ xs)
      → ((ys : List (ℕ × Marked E M)) → Rises step_clock ys → Each (Later n) ys
      → all_marks (merge_two entry_clock xs ys) ≡ merge_two noted (all_marks xs) (all_marks ys))
      → (ys : List (ℕ × Marked E M)) → Rises step_clock ys → Each (Later n) ys
      → all_marks (merge_two entry_clock ((n, x) ∷ xs) ys) ≡ merge_two noted (all_marks ((n, x) ∷ xs)) (all_marks ys)
  marks_two-cons n x xs h t ih [] r l = sym (merge_nothing noted (all_marks ((n, x) ∷ xs)))
  marks_two-cons n x xs h t ih (y ∷ ys) r l =
      either (λ zs. all_marks zs ≡ merge_two noted (all_marks ((n, x) ∷ xs)) (all_marks (y ∷ ys))) (goes_first entry_clock y (n, x))
      (y ∷ merge_two entry_clock ((n, x) ∷ xs) ys) ((n, x) ∷ merge_two entry_clock xs (y ∷ ys))
      (λ f.
      let lt = earlier_by_clock entry_clock y (n, x) f l.0.0 in
      ap (λ zs. of_core y.0 y.1.1 ++ zs) (marks_two-cons n x xs h t ih ys r.1 l.1)
      ∙ sym (right_first noted y.0 y.1.1 (all_marks ((n, x) ∷ xs)) (all_marks ys) (entry_clock x)
      (each_of (λ mark. noted mark ≡ step_clock y) (λ mark. noted mark < entry_clock x) (λ mark e. omega (arith, e, lt)) y.1.1 l.0.1)
      (late_marks (entry_clock x) ((n, x) ∷ xs) (late_each (entry_clock x) ((n, x) ∷ xs) (le_refl (entry_clock x), h.0) t))))
      (λ f.
      let le = not_first entry_clock (n, x) y f in
      ap (λ zs. of_core n x.1 ++ zs) (ih (y ∷ ys) r l)
      ∙ sym (left_first noted n x.1 (all_marks xs) (all_marks (y ∷ ys)) (entry_clock x)
      (each_of (λ mark. noted mark ≡ entry_clock x) (λ mark. noted mark ≤ entry_clock x) (λ mark e. omega (arith, e)) x.1 t.0)
      (last_marks (entry_clock x) n (y ∷ ys) (last_each (entry_clock x) n (y ∷ ys)
      (le, each_of (λ z. step_clock y ≤ step_clock z) (λ z. entry_clock x ≤ step_clock z) (λ z q. omega (arith, le, q)) ys r.0) l))))

  marks_two : (n : ℕ) (xs : List (Marked E M)) (ys : List (ℕ × Marked E M)) → Rises step_clock (map (λ x. (n, x)) xs) → Each (λ (y : ℕ × Marked E M). Timed y.1) (map (λ x. (n, x)) xs)
      → Rises step_clock ys → Each (Later n) ys
      → all_marks (merge_two entry_clock (map (λ x. (n, x)) xs) ys) ≡ merge_two noted (all_marks (map (λ x. (n, x)) xs)) (all_marks ys)
  marks_two n [] ys h t r l = refl
  marks_two n (x ∷ xs) ys h t r l =
      marks_two-cons n x (map (λ x. (n, x)) xs) h t (λ zs u v. marks_two n xs zs h.1 t.1 u v) ys r l

  own_marks : (n : ℕ) (xs : List (Marked E M)) → all_marks (map (λ x. (n, x)) xs) ≡ of_core n (marks_in xs)
  own_marks n [] = refl
  own_marks n (x ∷ xs) = ap (λ ys. of_core n x.1 ++ ys) (own_marks n xs) ∙ sym (map-append (λ mark. (n, mark)) x.1 (marks_in xs))

  later_from : (n m : ℕ) (lists : List (List (Marked E M))) → n < m → ((k : ℕ) → Each Timed (slice_index_or lists k [])) → Each (Later n) (merge_from entry_clock m lists)
  later_from n m [] h t = tt
  later_from n m (list ∷ lists) h t =
      each_merge_two entry_clock (Later n) (map (λ x. (m, x)) list) (merge_from entry_clock (m + 1) lists)
      (each_own (Later n) Timed m (λ x q. (h, q)) list (t 0)) (later_from n (m + 1) lists (omega (arith, h)) (λ k. t (suc k)))

  pub marks_from : (n : ℕ) (lists : List (List (Marked E M))) → ((k : ℕ) → Rises entry_clock (slice_index_or lists k [])) → ((k : ℕ) → Each Timed (slice_index_or lists k []))
      → all_marks (merge_from entry_clock n lists) ≡ merge_from noted n (map marks_in lists)
  marks_from n [] h t = refl
  marks_from n (list ∷ lists) h t =
      marks_two n list (merge_from entry_clock (n + 1) lists) (own_rise entry_clock n list (h 0)) (each_own (λ (y : ℕ × Marked E M). Timed y.1) Timed n (λ x q. q) list (t 0))
      (from_rises entry_clock (n + 1) lists (λ k. h (suc k))) (later_from n (n + 1) lists (omega arith) (λ k. t (suc k)))
      ∙ ap₂ (merge_two noted) (own_marks n list) (marks_from (n + 1) lists (λ k. h (suc k)) (λ k. t (suc k)))

  -- The steps of a merge are the merge of the entries.

  steps_two-cons : (x : ℕ × Marked E M) (xs : List (ℕ × Marked E M))
      → ((ys : List (ℕ × Marked E M)) → steps_in (merge_two entry_clock xs ys) ≡ merge_two clock (steps_in xs) (steps_in ys))
      → (ys : List (ℕ × Marked E M)) → steps_in (merge_two entry_clock (x ∷ xs) ys) ≡ merge_two clock (steps_in (x ∷ xs)) (steps_in ys)
  steps_two-cons x xs ih [] = refl
  steps_two-cons x xs ih (y ∷ ys) =
      if_map steps_in (goes_first entry_clock y x) (y ∷ merge_two entry_clock (x ∷ xs) ys) (x ∷ merge_two entry_clock xs (y ∷ ys))
      ((y.0, y.1.0) ∷ merge_two clock (steps_in (x ∷ xs)) (steps_in ys)) ((x.0, x.1.0) ∷ merge_two clock (steps_in xs) (steps_in (y ∷ ys)))
      (ap (λ zs. (y.0, y.1.0) ∷ zs) (steps_two-cons x xs ih ys)) (ap (λ zs. (x.0, x.1.0) ∷ zs) (ih (y ∷ ys)))

  steps_two : (xs ys : List (ℕ × Marked E M)) → steps_in (merge_two entry_clock xs ys) ≡ merge_two clock (steps_in xs) (steps_in ys)
  steps_two [] ys = refl
  steps_two (x ∷ xs) ys = steps_two-cons x xs (λ zs. steps_two xs zs) ys

  own_steps : (n : ℕ) (xs : List (Marked E M)) → steps_in (map (λ x. (n, x)) xs) ≡ map (λ x. (n, x)) (entries_in xs)
  own_steps n [] = refl
  own_steps n (x ∷ xs) = ap (λ ys. (n, x.0) ∷ ys) (own_steps n xs)

  pub steps_from : (n : ℕ) (lists : List (List (Marked E M))) → steps_in (merge_from entry_clock n lists) ≡ merge_from clock n (map entries_in lists)
  steps_from n [] = refl
  steps_from n (list ∷ lists) =
      steps_two (map (λ x. (n, x)) list) (merge_from entry_clock (n + 1) lists) ∙ ap₂ (merge_two clock) (own_steps n list) (steps_from (n + 1) lists)
