use Rattle.gr_elements_orders.proofs.Channels.{order_kept, own_kept}
use Rattle.gr_elements_orders.proofs.laws.orders_are_kept.Goals as goal

pub returns-clause-order : goal.returns-clause-order
returns-clause-order g c messages join early late adds adds_late keeps world me core got rest outcome own from to old new = order_kept messages join early late adds adds_late keeps world me core got rest outcome own from to old new

pub returns-clause-own : goal.returns-clause-own
returns-clause-own g c messages join world me core got rest outcome own core_number = own_kept messages join world me core got rest outcome own core_number
