use Rattle.gr_stands_births.proofs.Opened.{finishes_open, loops_open}
use Rattle.gr_stands_births.proofs.laws.scopes_open.Goals as goal

pub returns-clause-finish : goal.returns-clause-finish
returns-clause-finish c = finishes_open

pub returns-clause-range : goal.returns-clause-range
returns-clause-range c = loops_open
