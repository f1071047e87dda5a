use Rattle.std.proofs.Common.{◌≡◌, ◌++◌, drop}
use Rattle.gr_vector.specs.PlanWords.{Fit}
use Rattle.gr_vector.specs.Plans.{ends_after, placed_by, present, taken_by}
use Rattle.gr_vector.proofs.planning.follow.Given as goal

abbrev pub invariant-loop-call : goal.invariant-loop-call
invariant-loop-call l = record {
  puts : l.puts.items ++ present (placed_by (drop l.call-index l.calls) l.ends) ≡ present (placed_by l.calls l.fn.first);
  gets : l.gets.items ++ present (taken_by (drop l.call-index l.calls) l.ends) ≡ present (taken_by l.calls l.fn.first);
  ends : ends_after (drop l.call-index l.calls) l.ends ≡ ends_after l.calls l.fn.first;
  fits : Fit (drop l.call-index l.calls) l.ends;
}
