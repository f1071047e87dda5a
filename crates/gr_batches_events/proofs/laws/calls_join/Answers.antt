use Rattle.gr_batches_events.proofs.Joins as joins
use Rattle.gr_batches_events.proofs.laws.calls_join.Goals as goal

pub returns : goal.returns
returns c = joins.calls_join
