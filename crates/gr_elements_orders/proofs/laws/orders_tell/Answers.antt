use Rattle.gr_elements_orders.proofs.Channels.{none_behind}
use Rattle.gr_elements_orders.proofs.laws.orders_tell.Goals as goal

pub returns : goal.returns
returns g c messages early late count world me core letter rest order is = none_behind messages early late count world me core letter rest order is
