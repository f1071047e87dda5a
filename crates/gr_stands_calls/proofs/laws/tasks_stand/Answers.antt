use Rattle.gr_stands_calls.proofs.Ended.{tasks_end, tasks_are_trapped}
use Rattle.gr_stands_calls.proofs.Rests.{waits_are_kept}
use Rattle.gr_stands_calls.proofs.laws.tasks_stand.Goals as goal

pub returns-clause-ended : goal.returns-clause-ended
returns-clause-ended c = tasks_end

pub returns-clause-trapped : goal.returns-clause-trapped
returns-clause-trapped c = tasks_are_trapped

pub returns-clause-waits : goal.returns-clause-waits
returns-clause-waits c = waits_are_kept
