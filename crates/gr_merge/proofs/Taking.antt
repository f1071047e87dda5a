-- What the code takes next is the next of the merge.
use Rattle.std.proofs.Common.{◌≡◌, ℕ, suc, ◌+◌, true, false, if◌then◌else◌, map, List, [], ◌∷◌, ◌++◌, length, Option, Some, None, IfSome, refl, sym, ap, ◌∙◌, arith, add-zero, zero-add}
use Rattle.std.proofs.lemmas.List.{map-append, length-map, append_assoc}
use Rattle.std.specs.Option.{option_to_list}
use Rattle.gr_merge.specs.Merges.{merge_two, merge_from, merge}
use Rattle.gr_merge.specs.MergeWords.{merge_own, second_is_next, merge_before}

module _ {X : Type 0} (clock : X → ℕ) (core : ℕ) where
  second_first : (xs : List X) (y : ℕ × X) (ys : List (ℕ × X)) → second_is_next clock core xs (y ∷ ys) ≡ true
      → merge_own clock core xs (y ∷ ys) ≡ y ∷ merge_own clock core xs ys
  unfolding merge_own
  second_first [] y ys h = refl
  second_first (x ∷ xs) y ys h =
      ap (λ b. if b then y ∷ merge_own clock core (x ∷ xs) ys else (core, x) ∷ merge_own clock core xs (y ∷ ys)) h

  pub take_second : (xs : List X) (ys rest : List (ℕ × X)) (taken : Option (ℕ × X)) → second_is_next clock core xs ys ≡ true → ys ≡ option_to_list taken ++ rest
      → IfSome taken (λ next. merge_own clock core xs ys ≡ next ∷ merge_own clock core xs rest)
  take_second xs ys rest None h e = tt
  take_second xs ys rest (Some y) h e =
      ap (merge_own clock core xs) e ∙ second_first xs y rest (ap (second_is_next clock core xs) (sym e) ∙ h)

  first_first : (x : X) (xs : List X) (ys : List (ℕ × X)) → second_is_next clock core (x ∷ xs) ys ≡ false
      → merge_own clock core (x ∷ xs) ys ≡ (core, x) ∷ merge_own clock core xs ys
  unfolding merge_own
  first_first x xs [] h = ap (λ zs. (core, x) ∷ zs) (sym (nothing (map (λ x. (core, x)) xs)))
    where
      nothing : (zs : List (ℕ × X)) → merge_two clock zs [] ≡ zs
      nothing [] = refl
      nothing (z ∷ zs) = refl
  first_first x xs (y ∷ ys) h =
      ap (λ b. if b then y ∷ merge_own clock core (x ∷ xs) ys else (core, x) ∷ merge_own clock core xs (y ∷ ys)) h

  pub take_first : (xs : List X) (x : X) (rest : List X) (ys : List (ℕ × X)) → second_is_next clock core xs ys ≡ false → xs ≡ x ∷ rest
      → merge_own clock core xs ys ≡ (core, x) ∷ merge_own clock core rest ys
  take_first xs x rest ys h e =
      ap (λ zs. merge_own clock core zs ys) e ∙ first_first x rest ys (ap (λ zs. second_is_next clock core zs ys) (sym e) ∙ h)

  pub take_nothing : (xs : List X) (ys : List (ℕ × X)) → second_is_next clock core xs ys ≡ false → length xs ≡ 0 → merge_own clock core xs ys ≡ []
  unfolding merge_own
  take_nothing [] [] h l = refl
  take_nothing [] (y ∷ ys) h l = absurd (cc)
  take_nothing (x ∷ xs) ys h l = absurd (omega (arith, l))

  pub own_nothing : merge_own clock core [] [] ≡ []
  unfolding merge_own
  own_nothing = refl

  -- One more was taken.
  pub taken_more : (merged : List (ℕ × X)) (xs rest : List X) (ys others : List (ℕ × X)) (next : ℕ × X) (all : List (ℕ × X))
      → merged ++ merge_own clock core xs ys ≡ all → merge_own clock core xs ys ≡ next ∷ merge_own clock core rest others
      → merged ++ next ∷ [] ++ merge_own clock core rest others ≡ all
  taken_more merged xs rest ys others next all h e =
      append_assoc merged (next ∷ []) (merge_own clock core rest others) ∙ ap (λ zs. merged ++ zs) (sym e) ∙ h

module _ {X : Type 0} (clock : X → ℕ) where
  before_nothing : (n : ℕ) (lists : List (List X)) → merge_before clock n lists [] ≡ merge_from clock n lists
  unfolding merge_own
  before_nothing n [] = refl
  before_nothing n (list ∷ lists) = ap (merge_two clock (map (λ x. (n, x)) list)) (before_nothing (n + 1) lists)

  pub before_merge : (lists : List (List X)) → merge_before clock 0 lists [] ≡ merge clock lists
  before_merge = before_nothing 0

  last_before : (n : ℕ) (lists : List (List X)) (list : List X) (merged : List (ℕ × X))
      → merge_before clock n (lists ++ list ∷ []) merged ≡ merge_before clock n lists (merge_own clock (n + length lists) list merged)
  last_before n [] list merged = ap (λ k. merge_own clock k list merged) (sym (add-zero n))
  last_before n (first ∷ lists) list merged =
      ap (merge_own clock n first)
      (last_before (n + 1) lists list merged ∙ (let e : n + 1 + length lists ≡ n + suc (length lists) = omega arith in ap (λ k. merge_before clock (n + 1) lists (merge_own clock k list merged)) e))

  -- The last list was merged with those after it.
  pub before_popped : (lists : List (List X)) (list : List X) (merged : List (ℕ × X))
      → merge_before clock 0 (lists ++ list ∷ []) merged ≡ merge_before clock 0 lists (merge_own clock (length lists) list merged)
  before_popped lists list merged = last_before 0 lists list merged ∙ ap (λ k. merge_before clock 0 lists (merge_own clock k list merged)) (zero-add (length lists))

  -- A list was popped, and merged with those after it.
  pub popped : {V : Type 0} (items : V → List X) (before after : List V) (list : V) (merged next all : List (ℕ × X)) (n : ℕ)
      → merge_before clock 0 (map items before) merged ≡ all → before ≡ after ++ list ∷ [] → n ≡ length after → next ≡ merge_own clock n (items list) merged
      → merge_before clock 0 (map items after) next ≡ all
  popped items before after list merged next all n h e l m =
      let lists : map items before ≡ map items after ++ items list ∷ [] = ap (map items) e ∙ map-append items after (list ∷ []) in
      let number : n ≡ length (map items after) = l ∙ sym (length-map after items) in
      ap (merge_before clock 0 (map items after)) (m ∙ ap (λ k. merge_own clock k (items list) merged) number)
      ∙ sym (before_popped (map items after) (items list) merged)
      ∙ ap (λ lists. merge_before clock 0 lists merged) (sym lists) ∙ h

  -- No list is left.
  pub all_popped : {V : Type 0} (items : V → List X) (left lists : List V) (merged : List (ℕ × X)) → merge_before clock 0 (map items left) merged ≡ merge_before clock 0 (map items lists) []
      → length left ≡ 0 → merged ≡ merge clock (map items lists)
  all_popped items [] lists merged h l = h ∙ before_merge (map items lists)
  all_popped items (x ∷ left) lists merged h l = absurd (omega (arith, l))
