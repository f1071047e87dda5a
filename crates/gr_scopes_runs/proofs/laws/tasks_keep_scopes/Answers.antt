use Rattle.gr_scopes_runs.proofs.Tasks.{tasks_keep_scopes}
use Rattle.gr_scopes_runs.proofs.laws.tasks_keep_scopes.Goals as goal

pub returns : goal.returns
returns c = tasks_keep_scopes
