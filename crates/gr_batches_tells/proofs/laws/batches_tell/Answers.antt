use Rattle.gr_batches_tells.proofs.Tells as proofs
use Rattle.gr_batches_tells.proofs.laws.batches_tell.Goals as goal

pub returns-clause-replies : goal.returns-clause-replies
returns-clause-replies c = proofs.replies_tell

pub returns-clause-apart : goal.returns-clause-apart
returns-clause-apart c = proofs.batches_are_apart

pub returns-clause-held : goal.returns-clause-held
returns-clause-held c = proofs.held_tell
