use Rattle.std.proofs.Common.{◌≡◌, drop, slice_index}
use Rattle.gr_code.specs.OpeningWords.{all_words}
use Rattle.gr_code.proofs.opening.word_in.Given as goal

abbrev pub invariant-loop-array : goal.invariant-loop-array
invariant-loop-array l = slice_index (all_words (drop l.array-index l.arrays)) l.left ≡ slice_index (all_words l.arrays) l.at
