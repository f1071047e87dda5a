-- A stack of words as a list with the newest first: its top, and what is left without it.
use Rattle.std.specs.Prelude.{ℕ, List, [], ◌∷◌, Option, Some, None}

abbrev pub top_of : List ℕ → Option ℕ
top_of [] = None
top_of (word ∷ words) = Some word

abbrev pub under_top : List ℕ → List ℕ
under_top [] = []
under_top (word ∷ words) = words
