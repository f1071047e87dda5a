use Rattle.gr_fits.proofs.Reached as reached
use Rattle.gr_fits.proofs.laws.states_are_reached.Goals as goal

pub returns-clause-opens : goal.returns-clause-opens
returns-clause-opens c = reached.openings_reached

pub returns-clause-steps : goal.returns-clause-steps
returns-clause-steps c = reached.steps_reach

pub returns-clause-entries : goal.returns-clause-entries
returns-clause-entries c = reached.entries_reach

pub returns-clause-valid : goal.returns-clause-valid
returns-clause-valid c = reached.states_valid
