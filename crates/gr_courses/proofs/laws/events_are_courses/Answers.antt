use Rattle.gr_courses.proofs.Courses.{settles_is, served_is, ran_is, closed_is, stolen_is}
use Rattle.gr_courses.proofs.laws.events_are_courses.Goals as goal

pub returns-clause-settled : goal.returns-clause-settled
returns-clause-settled c = settles_is

pub returns-clause-served : goal.returns-clause-served
returns-clause-served c = served_is

pub returns-clause-ran : goal.returns-clause-ran
returns-clause-ran c = ran_is

pub returns-clause-closed : goal.returns-clause-closed
returns-clause-closed c = closed_is

pub returns-clause-stolen : goal.returns-clause-stolen
returns-clause-stolen c = stolen_is
