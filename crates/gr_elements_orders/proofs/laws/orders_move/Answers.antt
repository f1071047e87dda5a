use Rattle.gr_elements_orders.proofs.Moves.{ships_keep, takes_keep, ships_own, takes_own}
use Rattle.gr_elements_orders.proofs.laws.orders_move.Goals as goal

pub returns-clause-ships : goal.returns-clause-ships
returns-clause-ships g c messages world me dest size packet is from to = ships_keep messages world me dest size packet is from to

pub returns-clause-takes : goal.returns-clause-takes
returns-clause-takes g c messages world me source packets is from to = takes_keep messages world me source packets is from to

pub returns-clause-ships_own : goal.returns-clause-ships_own
returns-clause-ships_own g c messages world me dest size packet is own core = ships_own messages world me dest size packet is own core

pub returns-clause-takes_own : goal.returns-clause-takes_own
returns-clause-takes_own g c messages world me source packets is own core = takes_own messages world me source packets is own core
