-- The words with which the arrays of a program open, by their inputs.
use Rattle.std.specs.Prelude.{ℕ, List, [], ◌∷◌, ◌++◌, map, if◌then◌else◌}
use Rattle.std.specs.Str.{bytes_eq}
use Rattle.gr_syntax.specs.declared.syntax.Item.{Item}
use Rattle.gr_syntax.specs.declared.syntax.Item.TheVariants as item
use Rattle.gr_lang.specs.Openings.{padded}
use Rattle.gr_code.specs.declared.opening.Input.{Input}
use Rattle.gr_code.specs.declared.opening.ArrayWords.{ArrayWords}

-- An array's name with the numbers for it.
abbrev pub input_pair : Input → List ℕ × List ℕ
input_pair input = (input.of.now, map (λ n. n.value) input.values.now)

-- The inputs among these items.
abbrev pub inputs_of : List Item → List (List ℕ × List ℕ)
inputs_of [] = []
inputs_of (item.Input of values ∷ more) = (of.text, map (λ n. n.value) values) ∷ inputs_of more
inputs_of (_ ∷ more) = inputs_of more

-- The numbers of the first input for that name.
abbrev pub numbers_for : List (List ℕ × List ℕ) → List ℕ → List ℕ
numbers_for [] name = []
numbers_for (input ∷ more) name = if bytes_eq input.0 name then input.1 else numbers_for more name

-- The words of an array.
abbrev pub words_of : ArrayWords → List ℕ
words_of array = padded array.count (map (λ n. n.value) array.first.now)

-- The words of some arrays, one behind the other.
abbrev pub all_words : List ArrayWords → List ℕ
all_words [] = []
all_words (array ∷ more) = words_of array ++ all_words more
