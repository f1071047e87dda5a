use Rattle.gr_stands_series.proofs.Lists.{waits_are_changed, tasks_are_resumed}
use Rattle.gr_stands_series.proofs.laws.lists_are_kept.Goals as goal

pub returns-clause-waits : goal.returns-clause-waits
returns-clause-waits c = waits_are_changed

pub returns-clause-goes : goal.returns-clause-goes
returns-clause-goes c = tasks_are_resumed
