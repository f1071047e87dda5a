use Rattle.gr_shares_events.proofs.Runs.{runs_keep_work}
use Rattle.gr_shares_events.proofs.Serves.{serves_keep_work, ends_keep_work, closes_keep_work, gives_keep_work, steals_keep_work}
use Rattle.gr_shares_events.proofs.laws.events_keep_work.Goals as goal

pub returns-clause-runs : goal.returns-clause-runs
returns-clause-runs c = runs_keep_work

pub returns-clause-serves : goal.returns-clause-serves
returns-clause-serves c = serves_keep_work

pub returns-clause-ends : goal.returns-clause-ends
returns-clause-ends c = ends_keep_work

pub returns-clause-closes : goal.returns-clause-closes
returns-clause-closes c = closes_keep_work

pub returns-clause-gives : goal.returns-clause-gives
returns-clause-gives c = gives_keep_work

pub returns-clause-steals : goal.returns-clause-steals
returns-clause-steals c = steals_keep_work
