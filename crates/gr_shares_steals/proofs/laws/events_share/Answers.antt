use Rattle.gr_shares_steals.proofs.Gifts.{gifts_end_events, events_without_gifts}
use Rattle.gr_shares_steals.proofs.laws.events_share.Goals as goal

pub returns-clause-gifts : goal.returns-clause-gifts
returns-clause-gifts c = gifts_end_events

pub returns-clause-none : goal.returns-clause-none
returns-clause-none c = events_without_gifts
