use Rattle.gr_scopes_leaves.proofs.Left.{leaves_find_masters, last_leaves_release, leaves_keep_scopes, waiters_pass, runs_end}
use Rattle.gr_scopes_leaves.proofs.laws.cores_leave.Goals as goal

pub returns-clause-finds : goal.returns-clause-finds
returns-clause-finds c = leaves_find_masters

pub returns-clause-releases : goal.returns-clause-releases
returns-clause-releases c = last_leaves_release

pub returns-clause-others : goal.returns-clause-others
returns-clause-others c = leaves_keep_scopes

pub returns-clause-passes : goal.returns-clause-passes
returns-clause-passes c = waiters_pass

pub returns-clause-ends : goal.returns-clause-ends
returns-clause-ends c = runs_end
