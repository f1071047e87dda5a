use Rattle.std.proofs.Common.{◌≡◌, ◌++◌, drop}
use Rattle.gr_batch.specs.Folding.{wakes_of}
use Rattle.gr_batch.proofs.wakes.replies.Given as goal

abbrev pub invariant-loop-call : goal.invariant-loop-call
invariant-loop-call g l = l.wakes ++ wakes_of (drop l.call-index l.list) l.value ≡ wakes_of l.list l.fn.before
