use Rattle.gr_scopes_stays.proofs.Made.{traps_keep_scopes, far_spawns_keep_scopes, empty_loops_keep_scopes}
use Rattle.gr_scopes_stays.proofs.laws.traps_keep_scopes.Goals as goal

pub returns-clause-traps : goal.returns-clause-traps
returns-clause-traps c = traps_keep_scopes

pub returns-clause-far : goal.returns-clause-far
returns-clause-far c = far_spawns_keep_scopes

pub returns-clause-empty : goal.returns-clause-empty
returns-clause-empty c = empty_loops_keep_scopes
