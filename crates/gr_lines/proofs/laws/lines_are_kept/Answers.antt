use Rattle.gr_lines.proofs.Kept.{lines_kept, lines_moved}
use Rattle.gr_lines.proofs.laws.lines_are_kept.Goals as goal

pub returns-clause-outcomes : goal.returns-clause-outcomes
returns-clause-outcomes c = lines_kept

pub returns-clause-moves : goal.returns-clause-moves
returns-clause-moves c = lines_moved
