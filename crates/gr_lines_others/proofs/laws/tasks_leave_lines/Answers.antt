use Rattle.gr_lines_others.proofs.Tasks as tasks
use Rattle.gr_lines_others.proofs.laws.tasks_leave_lines.Goals as goal

pub returns-clause-tasks : goal.returns-clause-tasks
returns-clause-tasks c = tasks.tasks_leave

pub returns-clause-units : goal.returns-clause-units
returns-clause-units c = tasks.units_leave
