-- How the code merges.
use Rattle.std.specs.Prelude.{ℕ, ◌+◌, Bool, true, false, List, [], ◌∷◌, map}
use Rattle.gr_merge.specs.Merges.{goes_first, merge_two}

-- The merge of a core's list and another.
unfoldable pub merge_own : {X : Type 0} → (X → ℕ) → ℕ → List X → List (ℕ × X) → List (ℕ × X)
merge_own clock core list others = merge_two clock (map (λ x. (core, x)) list) others

abbrev pub second_is_next : {X : Type 0} → (X → ℕ) → ℕ → List X → List (ℕ × X) → Bool
second_is_next clock core list [] = false
second_is_next clock core [] (other ∷ others) = true
second_is_next clock core (one ∷ list) (other ∷ others) = goes_first clock other (core, one)

-- The lists of the cores from this number on, before a merged list of those after them.
abbrev pub merge_before : {X : Type 0} → (X → ℕ) → ℕ → List (List X) → List (ℕ × X) → List (ℕ × X)
merge_before clock core [] merged = merged
merge_before clock core (list ∷ lists) merged = merge_own clock core list (merge_before clock (core + 1) lists merged)
