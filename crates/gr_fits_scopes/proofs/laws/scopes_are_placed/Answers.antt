use Rattle.gr_fits_scopes.proofs.Placed as placed
use Rattle.gr_fits_scopes.proofs.laws.scopes_are_placed.Goals as goal

pub returns-clause-rise : goal.returns-clause-rise
returns-clause-rise c = placed.opened_rise

pub returns-clause-holders : goal.returns-clause-holders
returns-clause-holders c = placed.holders_rise

pub returns-clause-there : goal.returns-clause-there
returns-clause-there c = placed.innermost_there

pub returns-clause-stand : goal.returns-clause-stand
returns-clause-stand c = placed.tasks_stand

pub returns-clause-finishes : goal.returns-clause-finishes
returns-clause-finishes c = placed.outer_finishes
