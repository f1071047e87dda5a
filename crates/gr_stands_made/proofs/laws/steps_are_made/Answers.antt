use Rattle.gr_stands_made.proofs.Steps as proofs
use Rattle.gr_stands_made.proofs.laws.steps_are_made.Goals as goal

pub returns : goal.returns
returns c = proofs.steps_are_made
