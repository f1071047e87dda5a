use Rattle.gr_merge.proofs.Orders.{orders}
use Rattle.gr_merge.proofs.laws.orders_are_global_runs.Goals as goal

pub returns : goal.returns
returns g c = λ machine time noted clocked steps states ends received sent left h locals matched.
    orders machine time noted clocked steps states ends received sent left h locals matched
