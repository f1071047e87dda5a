use Rattle.gr_objects.proofs.ByShape.{batch_home_is, batched_is}
use Rattle.gr_objects.proofs.laws.batches_are_by_shape.Goals as goal

pub returns-clause-homes : goal.returns-clause-homes
returns-clause-homes c = λ machine thing key. batch_home_is machine thing key

pub returns-clause-batches : goal.returns-clause-batches
returns-clause-batches c = λ machine me body from object key what batch thing. batched_is machine me body from object key what batch thing
