use Rattle.std.proofs.Common.{◌≡◌, ◌++◌}
use Rattle.gr_vector.proofs.part.pairs_of.Given as goal

abbrev pub invariant-loop-position : goal.invariant-loop-position
invariant-loop-position l = l.pairs.items ++ l.position-iterator ≡ l.words.entries
