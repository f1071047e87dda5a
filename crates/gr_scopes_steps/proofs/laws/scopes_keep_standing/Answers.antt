use Rattle.gr_scopes_steps.proofs.Keeping.{openings_hold_scopes, pieces_keep_scopes}
use Rattle.gr_scopes_steps.proofs.laws.scopes_keep_standing.Goals as goal

pub returns-clause-opens : goal.returns-clause-opens
returns-clause-opens c = openings_hold_scopes

pub returns-clause-kept : goal.returns-clause-kept
returns-clause-kept c = pieces_keep_scopes
