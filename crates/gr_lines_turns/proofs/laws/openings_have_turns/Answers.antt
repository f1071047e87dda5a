use Rattle.gr_lines_turns.proofs.Opening as opening
use Rattle.gr_lines_turns.proofs.laws.openings_have_turns.Goals as goal

pub returns : goal.returns
returns c = opening.openings_have_turns
