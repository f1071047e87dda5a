use Rattle.gr_batches_steps.proofs.Steps as proofs
use Rattle.gr_batches_steps.proofs.laws.pieces_keep_batches.Goals as goal

pub returns : goal.returns
returns c = proofs.pieces_keep_batches
