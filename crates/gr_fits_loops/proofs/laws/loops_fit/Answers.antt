use Rattle.gr_fits_loops.proofs.Ranges as ranges
use Rattle.gr_fits_loops.proofs.Open as open_scopes
use Rattle.gr_fits_loops.proofs.laws.loops_fit.Goals as goal

pub returns-clause-ranges : goal.returns-clause-ranges
returns-clause-ranges c = ranges.ranges_fit

pub returns-clause-apart : goal.returns-clause-apart
returns-clause-apart c = open_scopes.innermost_apart

pub returns-clause-nothing : goal.returns-clause-nothing
returns-clause-nothing c = open_scopes.nothing_left
