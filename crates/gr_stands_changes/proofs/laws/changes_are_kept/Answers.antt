use Rattle.gr_stands_changes.proofs.Slots.{slot_changes_are_kept}
use Rattle.gr_stands_changes.proofs.Leaves.{leaving_is_kept}
use Rattle.gr_stands_changes.proofs.laws.changes_are_kept.Goals as goal

pub returns-clause-slot : goal.returns-clause-slot
returns-clause-slot c = slot_changes_are_kept

pub returns-clause-leaves : goal.returns-clause-leaves
returns-clause-leaves c = leaving_is_kept
