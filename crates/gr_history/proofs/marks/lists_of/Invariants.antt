use Rattle.std.proofs.Common.{◌≡◌, ◌++◌, drop, map}
use Rattle.gr_history.proofs.marks.lists_of.Given as goal

abbrev pub invariant-loop-end : goal.invariant-loop-end
invariant-loop-end l = map (λ list. list.items) l.lists.items ++ map (λ end. end.marks) (drop l.end-index l.end-items) ≡ map (λ end. end.marks) l.ends
