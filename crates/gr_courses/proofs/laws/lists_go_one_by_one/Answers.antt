use Rattle.gr_courses.proofs.Doing.{does_sends}
use Rattle.gr_courses.proofs.Folds.{does_marks, batches_go, units_go, gives_one, gives_to_none, gives_nothing}
use Rattle.gr_courses.proofs.laws.lists_go_one_by_one.Goals as goal

pub returns-clause-messages : goal.returns-clause-messages
returns-clause-messages c = does_sends

pub returns-clause-marks : goal.returns-clause-marks
returns-clause-marks c = does_marks

pub returns-clause-batches : goal.returns-clause-batches
returns-clause-batches c = batches_go

pub returns-clause-units : goal.returns-clause-units
returns-clause-units c = units_go

pub returns-clause-gifts : goal.returns-clause-gifts
returns-clause-gifts c = gives_one

pub returns-clause-nobody : goal.returns-clause-nobody
returns-clause-nobody c = gives_to_none

pub returns-clause-nothing : goal.returns-clause-nothing
returns-clause-nothing c = gives_nothing
