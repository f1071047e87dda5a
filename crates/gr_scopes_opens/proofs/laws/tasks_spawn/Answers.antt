use Rattle.gr_scopes_opens.proofs.Spawned.{spawns_keep_scopes, enrolments_are_asked, enrolments_wait}
use Rattle.gr_scopes_opens.proofs.laws.tasks_spawn.Goals as goal

pub returns-clause-counted : goal.returns-clause-counted
returns-clause-counted c = spawns_keep_scopes

pub returns-clause-asked : goal.returns-clause-asked
returns-clause-asked c = enrolments_are_asked

pub returns-clause-waits : goal.returns-clause-waits
returns-clause-waits c = enrolments_wait
