use Rattle.gr_valid.proofs.States.{histories_valid}
use Rattle.gr_valid.proofs.laws.histories_are_valid.Goals as goal

pub returns : goal.returns
returns c = histories_valid
