use Rattle.gr_batches.proofs.Kept.{batches_kept, batches_moved}
use Rattle.gr_batches.proofs.Cores.{cores_kept}
use Rattle.gr_batches.proofs.laws.batches_are_kept.Goals as goal

pub returns-clause-outcomes : goal.returns-clause-outcomes
returns-clause-outcomes c = batches_kept

pub returns-clause-moves : goal.returns-clause-moves
returns-clause-moves c = batches_moved

pub returns-clause-cores : goal.returns-clause-cores
returns-clause-cores c = cores_kept
