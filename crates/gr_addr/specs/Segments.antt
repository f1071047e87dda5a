-- The words of a core by their places.
use Rattle.std.specs.Prelude.{ℕ, List, Option, slice_get}

-- The word at each place, and none outside.
unfoldable pub words_of : List ℕ → ℕ → Option ℕ
words_of words place = slice_get words place
