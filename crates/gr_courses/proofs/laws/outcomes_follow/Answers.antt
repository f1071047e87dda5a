use Rattle.gr_courses.proofs.Doing.{does_nothing, does_quietly, does_followed}
use Rattle.gr_courses.proofs.laws.outcomes_follow.Goals as goal

pub returns-clause-nothing : goal.returns-clause-nothing
returns-clause-nothing c = does_nothing

pub returns-clause-bodies : goal.returns-clause-bodies
returns-clause-bodies c = does_quietly

pub returns-clause-followed : goal.returns-clause-followed
returns-clause-followed c = does_followed
