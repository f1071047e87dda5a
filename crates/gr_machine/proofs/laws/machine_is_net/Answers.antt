use Rattle.gr_machine.proofs.Nets.{outcomes_are, ships_are, takes_are, adds_up}
use Rattle.gr_machine.proofs.laws.machine_is_net.Goals as goal

pub returns-clause-outcomes : goal.returns-clause-outcomes
returns-clause-outcomes c = outcomes_are

pub returns-clause-ships : goal.returns-clause-ships
returns-clause-ships c = ships_are

pub returns-clause-takes : goal.returns-clause-takes
returns-clause-takes c = takes_are

pub returns-clause-counts : goal.returns-clause-counts
returns-clause-counts c = adds_up
