use Rattle.gr_bounds_stands.proofs.Standing as standing
use Rattle.gr_bounds_stands.proofs.Loops as loops
use Rattle.gr_bounds_stands.proofs.laws.bounds_stand.Goals as goal

pub returns-clause-opening : goal.returns-clause-opening
returns-clause-opening c = standing.openings_have

pub returns-clause-steps : goal.returns-clause-steps
returns-clause-steps c = standing.steps_keep

pub returns-clause-loops : goal.returns-clause-loops
returns-clause-loops c = loops.loops_told
