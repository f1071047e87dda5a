use Rattle.gr_stands_enrols.proofs.Enrols as enrols
use Rattle.gr_stands_enrols.proofs.laws.enrolments_are_served.Goals as goal

pub returns : goal.returns
returns c = enrols.enrolments_are_served
