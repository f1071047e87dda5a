use Rattle.gr_scopes_leaves.proofs.Arrived.{arrivals_keep_scopes}
use Rattle.gr_scopes_leaves.proofs.laws.tasks_arrive.Goals as goal

pub returns : goal.returns
returns c = arrivals_keep_scopes
