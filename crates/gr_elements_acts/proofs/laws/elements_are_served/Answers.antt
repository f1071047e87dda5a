use Rattle.gr_elements_acts.proofs.Served.{elements_served}
use Rattle.gr_elements_acts.proofs.laws.elements_are_served.Goals as goal

pub returns : goal.returns
returns c = elements_served
