use Rattle.std.proofs.Common.{◌≡◌}
use Rattle.gr_courses.specs.Folds.{batches_from}
use Rattle.gr_state.specs.StateView.{seen_of}
use Rattle.gr_closes.proofs.batches.send_batches.Given as goal

abbrev pub invariant-loop-batch : goal.invariant-loop-batch
invariant-loop-batch l = batches_from l.object (seen_of l.state) l.batch-iterator.rest.items ≡ batches_from l.object (seen_of l.fn.state) l.fn.batches
