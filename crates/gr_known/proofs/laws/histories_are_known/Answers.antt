use Rattle.gr_known.proofs.Steps.{histories_known}
use Rattle.gr_known.proofs.laws.histories_are_known.Goals as goal

pub returns : goal.returns
returns c = histories_known
