use Rattle.std.proofs.Common.{◌≡◌, ◌++◌, map}
use Rattle.gr_batch.specs.Batches.{batch_of}
use Rattle.gr_batch.proofs.combiner.batches_in.Given as goal

abbrev pub invariant-loop-key : goal.invariant-loop-key
invariant-loop-key l = l.batches ++ map batch_of l.key-iterator ≡ map batch_of l.fn.groups.entries
