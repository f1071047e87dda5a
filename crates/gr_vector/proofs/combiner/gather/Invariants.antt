use Rattle.std.proofs.Common.{◌≡◌, ◌++◌, drop}
use Rattle.gr_vector.specs.Groups.{calls_of}
use Rattle.gr_vector.proofs.combiner.gather.Given as goal

abbrev pub invariant-loop-call : goal.invariant-loop-call
invariant-loop-call l = l.group.items ++ calls_of l.kind (drop l.call-index l.calls) ≡ l.fn.group.items ++ calls_of l.kind l.calls
