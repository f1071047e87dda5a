use Rattle.gr_elements_rests.proofs.Rests.{rests_found}
use Rattle.gr_elements_rests.proofs.laws.vectors_rest.Goals as goal

pub returns : goal.returns
returns c = rests_found
