use Rattle.gr_lines_turns.proofs.Kept.{turns_kept, others_keep, turns_moved}
use Rattle.gr_lines_turns.proofs.laws.turns_are_kept.Goals as goal

pub returns-clause-outcomes : goal.returns-clause-outcomes
returns-clause-outcomes c = turns_kept

pub returns-clause-still : goal.returns-clause-still
returns-clause-still c = others_keep

pub returns-clause-moves : goal.returns-clause-moves
returns-clause-moves c = turns_moved
