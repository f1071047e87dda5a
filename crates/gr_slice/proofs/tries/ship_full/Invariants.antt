use Rattle.gr_slice.specs.Slices.{Stayed}
use Rattle.gr_slice.proofs.tries.ship_full.Given as goal

abbrev pub invariant-dests : goal.invariant-dests
invariant-dests g l = Stayed l.fn.core l.core
