use Rattle.gr_stands_closes.proofs.Replies as replies
use Rattle.gr_stands_closes.proofs.laws.batches_come_back.Goals as goal

pub returns : goal.returns
returns c = replies.batches_come_back
