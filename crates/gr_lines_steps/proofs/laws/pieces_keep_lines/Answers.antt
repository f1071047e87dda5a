use Rattle.gr_lines_steps.proofs.Lines as lines
use Rattle.gr_lines_steps.proofs.laws.pieces_keep_lines.Goals as goal

pub returns : goal.returns
returns c = lines.pieces_keep_lines
