use Rattle.gr_stands_calls.proofs.Stays.{tasks_stay, units_come, units_are_given}
use Rattle.gr_stands_calls.proofs.laws.units_stand.Goals as goal

pub returns-clause-stays : goal.returns-clause-stays
returns-clause-stays c = tasks_stay

pub returns-clause-comes : goal.returns-clause-comes
returns-clause-comes c = units_come

pub returns-clause-gives : goal.returns-clause-gives
returns-clause-gives c = units_are_given
