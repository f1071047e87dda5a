use Rattle.gr_stands_runs.proofs.Tasks as tasks
use Rattle.gr_stands_runs.proofs.laws.tasks_run.Goals as goal

pub returns : goal.returns
returns c = tasks.tasks_run
