use Rattle.gr_batches_leaves.proofs.Leaves as proofs
use Rattle.gr_batches_leaves.proofs.laws.entries_leave_batches.Goals as goal

pub returns : goal.returns
returns c = proofs.entries_leave_batches
