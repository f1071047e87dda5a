-- What makes a function one of the reducers, and in which order the eight stand.
use Rattle.std.specs.Prelude.{◌≡◌, ℕ, ◌<◌, ◌^◌, List, [], ◌∷◌}
use Rattle.gr_lang.specs.Effects.{reduced}

-- A function, given by when it may be called and what it may answer, may be called on each two words, and its answer is what the reducer of this
-- number makes of them.
abbrev pub Reduces : (ℕ → ℕ → Type 0) → (ℕ → ℕ → ℕ → Type 0) → ℕ → Type 0
Reduces may_call may_answer number = (one other : ℕ) → one < 2 ^ 64 → other < 2 ^ 64
    → may_call one other × ((answer : ℕ) → may_answer one other answer → answer ≡ reduced number one other)

-- The numbers of the reducers.
abbrev pub numbers : List ℕ
numbers = 0 ∷ 1 ∷ 2 ∷ 3 ∷ 4 ∷ 5 ∷ 6 ∷ 7 ∷ []
