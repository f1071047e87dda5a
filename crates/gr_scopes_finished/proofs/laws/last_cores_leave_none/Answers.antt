use Rattle.gr_scopes_finished.proofs.Last.{last_leaves_leave_none, last_arrivals_leave_none}
use Rattle.gr_scopes_finished.proofs.laws.last_cores_leave_none.Goals as goal

pub returns-clause-leaves : goal.returns-clause-leaves
returns-clause-leaves c = last_leaves_leave_none

pub returns-clause-arrivals : goal.returns-clause-arrivals
returns-clause-arrivals c = last_arrivals_leave_none
