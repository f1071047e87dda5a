use Rattle.std.proofs.Common.{◌≡◌, ◌++◌, drop, length}
use Rattle.gr_turns.specs.LineWords.{masters_from}
use Rattle.gr_turns.proofs.masters.first_masters.Given as goal

abbrev pub invariant-loop-shape : goal.invariant-loop-shape
invariant-loop-shape l = l.masters.items ++ masters_from l.cores l.me (length l.masters.items) (drop l.shape-index l.shapes) ≡ masters_from l.cores l.me 0 l.shapes
