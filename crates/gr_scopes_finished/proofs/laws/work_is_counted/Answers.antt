use Rattle.gr_scopes_finished.proofs.Tasks.{tasks_are_counted, scopes_are_finished}
use Rattle.gr_scopes_finished.proofs.laws.work_is_counted.Goals as goal

pub returns-clause-tasks : goal.returns-clause-tasks
returns-clause-tasks c = tasks_are_counted

pub returns-clause-work : goal.returns-clause-work
returns-clause-work c = scopes_are_finished
