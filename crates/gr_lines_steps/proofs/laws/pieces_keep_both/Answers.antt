use Rattle.gr_lines_steps.proofs.Steps.{openings_have_both, pieces_keep_both}
use Rattle.gr_lines_steps.proofs.laws.pieces_keep_both.Goals as goal

pub returns-clause-opens : goal.returns-clause-opens
returns-clause-opens c = openings_have_both

pub returns-clause-kept : goal.returns-clause-kept
returns-clause-kept c = pieces_keep_both
