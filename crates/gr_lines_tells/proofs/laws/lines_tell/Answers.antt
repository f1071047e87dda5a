use Rattle.gr_lines_tells.proofs.Tells.{vectors_tell, askers_tell, groups_tell}
use Rattle.gr_lines_tells.proofs.laws.lines_tell.Goals as goal

pub returns-clause-vectors : goal.returns-clause-vectors
returns-clause-vectors c = vectors_tell

pub returns-clause-askers : goal.returns-clause-askers
returns-clause-askers c = askers_tell

pub returns-clause-closes : goal.returns-clause-closes
returns-clause-closes c = groups_tell
