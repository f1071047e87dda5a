use Rattle.gr_bounds_numbers.proofs.Ones as ones
use Rattle.gr_bounds_numbers.proofs.laws.numbers_grow.Goals as goal

pub returns-clause-scopes : goal.returns-clause-scopes
returns-clause-scopes c = ones.scopes_grow

pub returns-clause-ends : goal.returns-clause-ends
returns-clause-ends c = ones.ends_grow

pub returns-clause-active : goal.returns-clause-active
returns-clause-active c = ones.active_grow
