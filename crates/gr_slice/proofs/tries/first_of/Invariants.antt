use Rattle.gr_slice.specs.Slices.{Stayed}
use Rattle.gr_slice.specs.TryWords.{CanMakeNoneBelow}
use Rattle.gr_slice.proofs.tries.first_of.Given as goal

abbrev pub invariant-numbers : goal.invariant-numbers
invariant-numbers g l = record {
  stayed : Stayed l.fn.core l.core;
  none : CanMakeNoneBelow l.fn.kind l.fn.core l.number;
}
