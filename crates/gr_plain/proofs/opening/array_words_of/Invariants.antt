use Rattle.std.proofs.Common.{◌≡◌, ◌++◌, drop}
use Rattle.gr_lang.specs.Openings.{array_words}
use Rattle.gr_plain.proofs.opening.array_words_of.Given as goal

abbrev pub invariant-loop-item : goal.invariant-loop-item
invariant-loop-item l = l.words.items ++ array_words l.items (drop l.item-index l.items) ≡ array_words l.items l.items
