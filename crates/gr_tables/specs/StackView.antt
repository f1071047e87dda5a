-- What a stack of words stands for: the words with the newest first.
use Rattle.std.specs.Prelude.{ℕ, List, [], ◌∷◌, fold}

-- A word on top of the others.
abbrev pub above : List ℕ → ℕ → List ℕ
above below word = word ∷ below

abbrev pub newest_first : List ℕ → List ℕ
newest_first = fold above []
