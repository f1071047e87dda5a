use Rattle.gr_stands_steps.proofs.Marks.{gifts_follow}
use Rattle.gr_stands_steps.proofs.Runs.{runs_act}
use Rattle.gr_stands_steps.proofs.Serves.{messages_act, serves_act}
use Rattle.gr_stands_steps.proofs.Steps.{closes_act}
use Rattle.gr_stands_steps.proofs.laws.outcomes_act.Goals as goal

pub returns-clause-runs : goal.returns-clause-runs
returns-clause-runs c = runs_act

pub returns-clause-serves : goal.returns-clause-serves
returns-clause-serves c = serves_act

pub returns-clause-closes : goal.returns-clause-closes
returns-clause-closes c = closes_act

pub returns-clause-gifts : goal.returns-clause-gifts
returns-clause-gifts c = gifts_follow

pub returns-clause-messages : goal.returns-clause-messages
returns-clause-messages c = messages_act
