use Rattle.gr_elements_apart.proofs.Runs.{tasks_leave, units_leave}
use Rattle.gr_elements_apart.proofs.laws.runs_leave_words.Goals as goal

pub returns-clause-tasks : goal.returns-clause-tasks
returns-clause-tasks c = tasks_leave

pub returns-clause-units : goal.returns-clause-units
returns-clause-units c = units_leave
