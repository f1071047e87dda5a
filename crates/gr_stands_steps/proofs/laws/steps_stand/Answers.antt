use Rattle.gr_stands_steps.proofs.Steps as steps
use Rattle.gr_stands_steps.proofs.laws.steps_stand.Goals as goal

pub returns-clause-stand : goal.returns-clause-stand
returns-clause-stand c = steps.steps_stand

pub returns-clause-here : goal.returns-clause-here
returns-clause-here c = steps.steps_are_of_cores
