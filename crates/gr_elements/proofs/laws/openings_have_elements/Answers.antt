use Rattle.gr_elements.proofs.Opening as opening
use Rattle.gr_elements.proofs.laws.openings_have_elements.Goals as goal

pub returns-clause-elements : goal.returns-clause-elements
returns-clause-elements c = opening.openings_have_elements

pub returns-clause-own : goal.returns-clause-own
returns-clause-own c = opening.openings_have_own
