use Rattle.std.proofs.Common.{◌≡◌}
use Rattle.gr_lang.specs.Next.{next}
use Rattle.gr_steps.proofs.running.Running.next.Given as goal

abbrev pub invariant-loop-left : goal.invariant-loop-left
invariant-loop-left l = next l.table l.limit l.fn.self ≡ next l.table l.left l.self

abbrev pub decreases-loop-left : goal.decreases-loop-left
decreases-loop-left l = l.left
