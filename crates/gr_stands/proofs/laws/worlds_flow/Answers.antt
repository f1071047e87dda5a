use Rattle.gr_stands.proofs.Worlds.{outcomes_put_bodies, outcomes_flow, census_law}
use Rattle.gr_stands.proofs.laws.worlds_flow.Goals as goal

pub returns-clause-bodies : goal.returns-clause-bodies
returns-clause-bodies c = outcomes_put_bodies

pub returns-clause-messages : goal.returns-clause-messages
returns-clause-messages c = outcomes_flow

pub returns-clause-tasks : goal.returns-clause-tasks
returns-clause-tasks c = census_law
