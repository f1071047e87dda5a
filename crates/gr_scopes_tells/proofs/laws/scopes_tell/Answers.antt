use Rattle.gr_scopes_tells.proofs.Tasks.{tasks_are_told}
use Rattle.gr_scopes_tells.proofs.Leaves.{leaves_are_told}
use Rattle.gr_scopes_tells.proofs.Enrols.{enrolments_are_told}
use Rattle.gr_scopes_tells.proofs.laws.scopes_tell.Goals as goal

pub returns-clause-tasks : goal.returns-clause-tasks
returns-clause-tasks c = tasks_are_told

pub returns-clause-leaves : goal.returns-clause-leaves
returns-clause-leaves c = leaves_are_told

pub returns-clause-enrolments : goal.returns-clause-enrolments
returns-clause-enrolments c = enrolments_are_told
