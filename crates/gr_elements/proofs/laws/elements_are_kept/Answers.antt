use Rattle.gr_elements.proofs.Kept.{elements_kept, others_keep, elements_moved, own_kept, own_moved}
use Rattle.gr_elements.proofs.laws.elements_are_kept.Goals as goal

pub returns-clause-outcomes : goal.returns-clause-outcomes
returns-clause-outcomes c = elements_kept

pub returns-clause-still : goal.returns-clause-still
returns-clause-still c = others_keep

pub returns-clause-moves : goal.returns-clause-moves
returns-clause-moves c = elements_moved

pub returns-clause-own : goal.returns-clause-own
returns-clause-own c = own_kept

pub returns-clause-moves_own : goal.returns-clause-moves_own
returns-clause-moves_own c = own_moved
