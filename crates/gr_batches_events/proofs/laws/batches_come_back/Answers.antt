use Rattle.gr_batches_events.proofs.Comes as comes
use Rattle.gr_batches_events.proofs.laws.batches_come_back.Goals as goal

pub returns : goal.returns
returns c = comes.batch_replies_keep_batches
