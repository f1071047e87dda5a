use Rattle.gr_slice.specs.TryWords.{Turned}
use Rattle.gr_slice.proofs.slices.slice.Given as goal

abbrev pub invariant-turns : goal.invariant-turns
invariant-turns g l = Turned l.turn l.fn.core l.core
