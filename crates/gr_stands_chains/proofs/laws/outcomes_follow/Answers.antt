use Rattle.gr_stands_chains.proofs.Follows.{outcomes_follow_on, quiet_outcomes_act, entries_act}
use Rattle.gr_stands_chains.proofs.Same.{same_tasks_stand}
use Rattle.gr_stands_chains.proofs.laws.outcomes_follow.Goals as goal

pub returns-clause-follows : goal.returns-clause-follows
returns-clause-follows c = outcomes_follow_on

pub returns-clause-quiet : goal.returns-clause-quiet
returns-clause-quiet c = quiet_outcomes_act

pub returns-clause-entry : goal.returns-clause-entry
returns-clause-entry c = entries_act

pub returns-clause-same : goal.returns-clause-same
returns-clause-same c = same_tasks_stand
