use Rattle.std.proofs.Common.{◌≡◌, drop, map}
use Rattle.gr_code.specs.OpeningWords.{input_pair, numbers_for}
use Rattle.gr_code.proofs.opening.numbers_in.Given as goal

abbrev pub invariant-loop-input : goal.invariant-loop-input
invariant-loop-input l = numbers_for (map input_pair (drop l.input-index l.inputs)) l.name ≡ numbers_for (map input_pair l.inputs) l.name
