use Rattle.std.proofs.Common.{◌≡◌, ◌+◌, drop, length}
use Rattle.gr_code.specs.OpeningWords.{all_words}
use Rattle.gr_code.proofs.opening.words_in.Given as goal

abbrev pub invariant-loop-array : goal.invariant-loop-array
invariant-loop-array l = l.count + length (all_words (drop l.array-index l.arrays)) ≡ length (all_words l.arrays)
