-- The words of a task's locals: each name of the task, in the order of the text, with its word.
use Rattle.std.specs.Prelude.{ℕ, List, [], ◌∷◌, if◌then◌else◌}
use Rattle.std.specs.Str.{bytes_eq}

abbrev pub Locals : Type 0
Locals = List (List ℕ × ℕ)

-- The word of that name.
abbrev pub word_of : Locals → List ℕ → ℕ
word_of [] name = 0
word_of (local ∷ more) name = if bytes_eq local.0 name then local.1 else word_of more name

-- The locals after that name has taken this word.
abbrev pub set_word : Locals → List ℕ → ℕ → Locals
set_word [] name word = []
set_word (local ∷ more) name word = if bytes_eq local.0 name then (local.0, word) ∷ more else local ∷ set_word more name word
