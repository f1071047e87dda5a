use Rattle.gr_stands_outcomes.proofs.Inner.{inner_events_are_outcomes, outcomes_come_apart}
use Rattle.gr_stands_outcomes.proofs.laws.events_are_outcomes.Goals as goal

pub returns-clause-inner : goal.returns-clause-inner
returns-clause-inner c = inner_events_are_outcomes

pub returns-clause-apart : goal.returns-clause-apart
returns-clause-apart c = outcomes_come_apart
