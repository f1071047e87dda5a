use Rattle.gr_stands_opening.proofs.Opening as opening
use Rattle.gr_stands_opening.proofs.laws.openings_stand.Goals as goal

pub returns : goal.returns
returns c = opening.openings_stand
