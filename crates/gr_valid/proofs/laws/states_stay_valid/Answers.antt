use Rattle.gr_valid.proofs.States.{opens_valid, steps_valid}
use Rattle.gr_valid.proofs.laws.states_stay_valid.Goals as goal

pub returns-clause-opens : goal.returns-clause-opens
returns-clause-opens c = opens_valid

pub returns-clause-steps : goal.returns-clause-steps
returns-clause-steps c = steps_valid
