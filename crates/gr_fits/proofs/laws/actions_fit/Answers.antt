use Rattle.gr_fits.proofs.Reached as reached
use Rattle.gr_fits.proofs.laws.actions_fit.Goals as goal

pub returns-clause-states : goal.returns-clause-states
returns-clause-states c = reached.states_fit

pub returns-clause-slots : goal.returns-clause-slots
returns-clause-slots c = reached.slots_fit

pub returns-clause-names : goal.returns-clause-names
returns-clause-names c = reached.named_one_heap
