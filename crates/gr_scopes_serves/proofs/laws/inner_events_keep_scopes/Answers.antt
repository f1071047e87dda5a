use Rattle.gr_scopes_serves.proofs.Inner.{turn_ends_lead, gifts_lead, closes_lead, steals_lead}
use Rattle.gr_scopes_serves.proofs.laws.inner_events_keep_scopes.Goals as goal

pub returns-clause-ends : goal.returns-clause-ends
returns-clause-ends c = turn_ends_lead

pub returns-clause-gifts : goal.returns-clause-gifts
returns-clause-gifts c = gifts_lead

pub returns-clause-closes : goal.returns-clause-closes
returns-clause-closes c = closes_lead

pub returns-clause-steals : goal.returns-clause-steals
returns-clause-steals c = steals_lead
