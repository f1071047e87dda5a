use Rattle.gr_batches_closes.proofs.Goes as goes
use Rattle.gr_batches_closes.proofs.laws.closes_keep_batches.Goals as goal

pub returns : goal.returns
returns c = goes.closes_keep_batches
