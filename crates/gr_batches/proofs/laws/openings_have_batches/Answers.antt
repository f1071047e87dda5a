use Rattle.gr_batches.proofs.Opening as opening
use Rattle.gr_batches.proofs.laws.openings_have_batches.Goals as goal

pub returns : goal.returns
returns c = opening.openings_have_batches
