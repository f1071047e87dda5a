-- Sums over numbers and over lists, and facts of each item of a list.
use Rattle.std.specs.Prelude.{ℕ, zero, suc, ◌+◌, List, [], ◌∷◌}

-- The sum of a function over the numbers below one.
abbrev pub total : ℕ → (ℕ → ℕ) → ℕ
total zero weight = 0
total (suc count) weight = total count weight + weight count

-- The sum of the weights of some items.
abbrev pub weigh : {X : Type 0} → (X → ℕ) → List X → ℕ
weigh weight [] = 0
weigh weight (x ∷ xs) = weight x + weigh weight xs

-- A fact of each item.
abbrev pub Each : {X : Type 0} → (X → Type 0) → List X → Type 0
Each Fact [] = Unit
Each Fact (x ∷ xs) = Fact x × Each Fact xs
