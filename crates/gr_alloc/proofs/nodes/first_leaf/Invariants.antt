use Rattle.gr_alloc.proofs.Climbs.{IsOnWay}
use Rattle.gr_alloc.proofs.nodes.first_leaf.Given as goal

abbrev pub invariant-descending : goal.invariant-descending
invariant-descending l = IsOnWay l.tree l.levels l.need l.counter l.node
