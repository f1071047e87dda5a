use Rattle.gr_machine.proofs.RunRows as rows
use Rattle.gr_machine.proofs.run_rows.runs_on_one_core.Goals as goal

pub returns-clause-counter : goal.returns-clause-counter
returns-clause-counter c = rows.counter_run

pub returns-clause-counter_ends : goal.returns-clause-counter_ends
returns-clause-counter_ends c = rows.counter_ends

pub returns-clause-batch : goal.returns-clause-batch
returns-clause-batch c = rows.batch_run

pub returns-clause-batch_ends : goal.returns-clause-batch_ends
returns-clause-batch_ends c = rows.batch_ends

pub returns-clause-trapped : goal.returns-clause-trapped
returns-clause-trapped c = rows.trapped_run

pub returns-clause-trapped_ends : goal.returns-clause-trapped_ends
returns-clause-trapped_ends c = rows.trapped_ends

pub returns-clause-nested : goal.returns-clause-nested
returns-clause-nested c = rows.nested_run

pub returns-clause-nested_ends : goal.returns-clause-nested_ends
returns-clause-nested_ends c = rows.nested_ends
