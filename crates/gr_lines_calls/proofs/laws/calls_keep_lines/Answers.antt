use Rattle.gr_lines_calls.proofs.Serves.{tasks_keep, closes_keep}
use Rattle.gr_lines_calls.proofs.laws.calls_keep_lines.Goals as goal

pub returns-clause-tasks : goal.returns-clause-tasks
returns-clause-tasks c = tasks_keep

pub returns-clause-closes : goal.returns-clause-closes
returns-clause-closes c = closes_keep
