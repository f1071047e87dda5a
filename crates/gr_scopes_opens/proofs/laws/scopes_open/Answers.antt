use Rattle.gr_scopes_opens.proofs.Opened.{finishes_keep_scopes, loops_keep_scopes}
use Rattle.gr_scopes_opens.proofs.laws.scopes_open.Goals as goal

pub returns-clause-finish : goal.returns-clause-finish
returns-clause-finish c = finishes_keep_scopes

pub returns-clause-range : goal.returns-clause-range
returns-clause-range c = loops_keep_scopes
