use Rattle.std.proofs.Common.{◌≡◌, ◌++◌, drop}
use Rattle.gr_lang.specs.Openings.{array_words}
use Rattle.gr_code.specs.OpeningWords.{all_words}
use Rattle.gr_code.proofs.opening.arrays_in.Given as goal

abbrev pub invariant-loop-item : goal.invariant-loop-item
invariant-loop-item l = all_words l.arrays.items ++ array_words l.items (drop l.item-index l.items) ≡ array_words l.items l.items
