use Rattle.gr_stands_wakes.proofs.Alone as alone
use Rattle.gr_stands_wakes.proofs.laws.tasks_stand_alone.Goals as goal

pub returns-clause-alone : goal.returns-clause-alone
returns-clause-alone c = alone.tasks_stand_alone

pub returns-clause-slots : goal.returns-clause-slots
returns-clause-slots c = alone.slots_of_one_name_are_one

pub returns-clause-units : goal.returns-clause-units
returns-clause-units c = alone.units_are_in_no_slot

pub returns-clause-callers : goal.returns-clause-callers
returns-clause-callers c = alone.callers_stand_alone
