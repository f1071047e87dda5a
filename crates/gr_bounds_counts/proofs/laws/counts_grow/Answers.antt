use Rattle.gr_bounds_counts.proofs.Counts as counts
use Rattle.gr_bounds_counts.proofs.laws.counts_grow.Goals as goal

pub returns : goal.returns
returns c = counts.counts_grow
