use Rattle.gr_alloc.proofs.Whole.{one_cut, one_end}
use Rattle.gr_alloc.proofs.cuts.Cuts.new.Goals as goal

pub invariant_of-result : goal.invariant_of-result
invariant_of-result c = record {
  cut = one_cut _ c.args.words c.requires c.in_ok-sizes.ensures;
  ends = one_end _ _ c.args.words c.in_ok-sizes.ensures c.in_ok-ends.ensures;
}

pub returns-clause-cut : goal.returns-clause-cut
returns-clause-cut c = one_cut _ c.args.words c.requires c.in_ok-sizes.ensures
