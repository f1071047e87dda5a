use Rattle.gr_stands_units.proofs.Begins.{indices_begin}
use Rattle.gr_stands_units.proofs.Units as units
use Rattle.gr_stands_units.proofs.laws.units_are_taken_up.Goals as goal

pub returns-clause-begins : goal.returns-clause-begins
returns-clause-begins c = indices_begin

pub returns-clause-any : goal.returns-clause-any
returns-clause-any c = units.units_are_taken_up
