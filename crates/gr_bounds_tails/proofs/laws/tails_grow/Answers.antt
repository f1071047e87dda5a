use Rattle.gr_bounds_tails.proofs.Tails as tails
use Rattle.gr_bounds_tails.proofs.Grants as grants
use Rattle.gr_bounds_tails.proofs.laws.tails_grow.Goals as goal

pub returns-clause-tails : goal.returns-clause-tails
returns-clause-tails c = tails.tails_grow

pub returns-clause-grants : goal.returns-clause-grants
returns-clause-grants c = grants.grants_fit
