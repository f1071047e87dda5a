use Rattle.std.proofs.Common.{◌≡◌, ◌++◌, drop, map}
use Rattle.gr_code.specs.OpeningWords.{input_pair, inputs_of}
use Rattle.gr_code.proofs.opening.inputs_in.Given as goal

abbrev pub invariant-loop-item : goal.invariant-loop-item
invariant-loop-item l = map input_pair l.inputs.items ++ inputs_of (drop l.item-index l.items) ≡ inputs_of l.items
