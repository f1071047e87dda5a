-- The merge of the cores' lists by clock, then by core.
use Rattle.std.specs.Prelude.{ℕ, ◌+◌, ◌==◌, nat_lt, Bool, ◌||◌, ◌&&◌, if◌then◌else◌, List, [], ◌∷◌, map}

-- Whether one stands before another: by clock, then by core.
abbrev pub goes_first : {X : Type 0} → (X → ℕ) → ℕ × X → ℕ × X → Bool
goes_first clock one other = nat_lt (clock one.1) (clock other.1) || ((clock one.1 == clock other.1) && nat_lt one.0 other.0)

-- Two lists in this order as one.
abbrev pub merge_two : {X : Type 0} → (X → ℕ) → List (ℕ × X) → List (ℕ × X) → List (ℕ × X)
merge_two clock [] others = others
merge_two clock (one ∷ ones) others = elim others [
  | [] ↦ one ∷ ones
  | other ∷ (rest → merged) ↦ if goes_first clock other one then other ∷ merged else one ∷ merge_two clock ones (other ∷ rest)
]

-- The lists of the cores from this number on as one.
abbrev pub merge_from : {X : Type 0} → (X → ℕ) → ℕ → List (List X) → List (ℕ × X)
merge_from clock core [] = []
merge_from clock core (list ∷ lists) = merge_two clock (map (λ x. (core, x)) list) (merge_from clock (core + 1) lists)

-- The lists of all cores, from core 0 on, as one: each with its core.
abbrev pub merge : {X : Type 0} → (X → ℕ) → List (List X) → List (ℕ × X)
merge clock lists = merge_from clock 0 lists

-- What a merged list has of one core, in its order.
abbrev pub at_core : {X : Type 0} → ℕ → List (ℕ × X) → List X
at_core core [] = []
at_core core (step ∷ steps) = if core == step.0 then step.1 ∷ at_core core steps else at_core core steps
