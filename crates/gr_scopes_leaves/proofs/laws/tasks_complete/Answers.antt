use Rattle.gr_scopes_leaves.proofs.Completed.{completes_keep_scopes}
use Rattle.gr_scopes_leaves.proofs.Ended.{ends_keep_scopes}
use Rattle.gr_scopes_leaves.proofs.laws.tasks_complete.Goals as goal

pub returns-clause-ends : goal.returns-clause-ends
returns-clause-ends c = ends_keep_scopes

pub returns-clause-told : goal.returns-clause-told
returns-clause-told c = completes_keep_scopes
