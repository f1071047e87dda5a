use Rattle.gr_agg.proofs.Weights.{good_added, weigh_added}
use Rattle.gr_agg.proofs.laws.messages_are_added.Goals as goal

pub returns-clause-sums : goal.returns-clause-sums
returns-clause-sums c = weigh_added

pub returns-clause-each : goal.returns-clause-each
returns-clause-each c = good_added
