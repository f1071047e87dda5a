use Rattle.gr_bounds_tasks.proofs.Tasks as tasks
use Rattle.gr_bounds_tasks.proofs.Batches as batches
use Rattle.gr_bounds_tasks.proofs.laws.tasks_grow.Goals as goal

pub returns-clause-tasks : goal.returns-clause-tasks
returns-clause-tasks c = tasks.tasks_grow

pub returns-clause-batches : goal.returns-clause-batches
returns-clause-batches c = batches.batches_grow
