use Rattle.gr_lines.proofs.Kept.{has_still, slot_leaves}
use Rattle.gr_lines.proofs.laws.lines_stay.Goals as goal

pub returns-clause-stays : goal.returns-clause-stays
returns-clause-stays c = has_still

pub returns-clause-slot : goal.returns-clause-slot
returns-clause-slot c = slot_leaves
