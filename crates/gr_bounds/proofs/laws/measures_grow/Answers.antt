use Rattle.gr_bounds.proofs.Measures as measures
use Rattle.gr_bounds.proofs.laws.measures_grow.Goals as goal

pub returns : goal.returns
returns c = measures.measures_grow
