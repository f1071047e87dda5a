use Rattle.gr_shares.proofs.Kept.{shares_kept, shares_moved}
use Rattle.gr_shares.proofs.laws.shares_are_kept.Goals as goal

pub returns-clause-outcomes : goal.returns-clause-outcomes
returns-clause-outcomes c = shares_kept

pub returns-clause-moves : goal.returns-clause-moves
returns-clause-moves c = shares_moved
