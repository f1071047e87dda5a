use Rattle.gr_stands_steps.proofs.Waiters.{runs_keep_waiters, messages_keep_waiters, serves_keep_waiters, closes_keep_waiters}
use Rattle.gr_stands_steps.proofs.laws.waiters_are_cores.Goals as goal

pub returns-clause-runs : goal.returns-clause-runs
returns-clause-runs c = runs_keep_waiters

pub returns-clause-serves : goal.returns-clause-serves
returns-clause-serves c = serves_keep_waiters

pub returns-clause-closes : goal.returns-clause-closes
returns-clause-closes c = closes_keep_waiters

pub returns-clause-messages : goal.returns-clause-messages
returns-clause-messages c = messages_keep_waiters
