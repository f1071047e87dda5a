-- How many words the arrays of a program take.
use Rattle.std.specs.Prelude.{ℕ, ◌+◌, List, [], ◌∷◌}
use Rattle.gr_syntax.specs.declared.syntax.Item.{Item}
use Rattle.gr_syntax.specs.declared.syntax.Item.TheVariants as item

-- The words of the arrays among these items.
abbrev pub arrays_in : List Item → ℕ
arrays_in [] = 0
arrays_in (item.Array name words ∷ more) = words.value + arrays_in more
arrays_in (_ ∷ more) = arrays_in more
