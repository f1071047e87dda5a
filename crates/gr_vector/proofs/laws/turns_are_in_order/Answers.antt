use Rattle.gr_vector.proofs.Granting.{in_order, one_out}
use Rattle.gr_vector.proofs.laws.turns_are_in_order.Goals as goal

pub returns-clause-order : goal.returns-clause-order
returns-clause-order c = in_order

pub returns-clause-one : goal.returns-clause-one
returns-clause-one c = one_out
