use Rattle.gr_elements_steps.proofs.Told.{ends_told}
use Rattle.gr_elements_steps.proofs.laws.turns_are_told.Goals as goal

pub returns : goal.returns
returns c = ends_told
