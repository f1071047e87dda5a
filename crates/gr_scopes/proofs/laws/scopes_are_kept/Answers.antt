use Rattle.gr_scopes.proofs.Kept.{scopes_kept, scopes_moved}
use Rattle.gr_scopes.proofs.laws.scopes_are_kept.Goals as goal

pub returns-clause-outcomes : goal.returns-clause-outcomes
returns-clause-outcomes c = scopes_kept

pub returns-clause-moves : goal.returns-clause-moves
returns-clause-moves c = scopes_moved
