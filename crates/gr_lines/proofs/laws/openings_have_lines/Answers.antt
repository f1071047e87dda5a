use Rattle.gr_lines.proofs.Opening as opening
use Rattle.gr_lines.proofs.laws.openings_have_lines.Goals as goal

pub returns : goal.returns
returns c = opening.openings_have_lines
