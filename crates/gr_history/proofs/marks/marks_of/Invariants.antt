use Rattle.std.proofs.Common.{◌≡◌, ◌++◌, drop}
use Rattle.gr_history.proofs.marks.marks_of.Given as goal

abbrev pub invariant-loop-mark : goal.invariant-loop-mark
invariant-loop-mark l = l.marks.items ++ drop l.mark-index l.mark-items ≡ l.end.marks
