use Rattle.std.proofs.Common.{◌≡◌, ◌++◌, drop}
use Rattle.gr_turns.specs.LineWords.{lines_of}
use Rattle.gr_turns.proofs.by_number.first_lines.Given as goal

abbrev pub invariant-loop-shape : goal.invariant-loop-shape
invariant-loop-shape l = l.lines.items ++ lines_of (drop l.shape-index l.shapes) ≡ lines_of l.shapes
