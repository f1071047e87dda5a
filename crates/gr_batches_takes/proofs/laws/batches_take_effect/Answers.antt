use Rattle.gr_batches_takes.proofs.Takes as takes
use Rattle.gr_batches_takes.proofs.laws.batches_take_effect.Goals as goal

pub returns : goal.returns
returns c = takes.batches_take_effect
