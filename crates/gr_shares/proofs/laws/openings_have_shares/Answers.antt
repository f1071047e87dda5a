use Rattle.gr_shares.proofs.Opening as opening
use Rattle.gr_shares.proofs.laws.openings_have_shares.Goals as goal

pub returns : goal.returns
returns c = opening.openings_have_shares
