use Rattle.gr_scopes.proofs.Opening as opening
use Rattle.gr_scopes.proofs.laws.openings_have_scopes.Goals as goal

pub returns : goal.returns
returns c = opening.openings_have_scopes
