use Rattle.std.proofs.Common.{◌≡◌, drop}
use Rattle.gr_vector.specs.Plans.{ends_after}
use Rattle.gr_turns.proofs.replying.ends_after.Given as goal

abbrev pub invariant-loop-call : goal.invariant-loop-call
invariant-loop-call l = ends_after (drop l.call-index l.calls) l.ends ≡ ends_after l.calls l.fn.first
