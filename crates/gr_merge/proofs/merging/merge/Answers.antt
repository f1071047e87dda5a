use Rattle.std.proofs.Common.{rules, arith}
use Rattle.gr_merge.proofs.Taking.{popped, all_popped}
use Rattle.gr_merge.proofs.merging.merge.Goals as goal

pub cores-preserved : goal.cores-preserved
cores-preserved g c =
    popped g.T.Clocked.clock_of (λ list. list.items) c.cores.lists.items c.pop.new.self.items c.in-Some.list c.cores.merged.items c.in_ok-merged.merged.items _ _
    c.cores.invariant c.in-Some.ensures.items (search (rules, arith)) c.in_ok-merged.ensures

pub returns : goal.returns
returns g c =
    all_popped g.T.Clocked.clock_of (λ list. list.items) c.cores.lists.items c.args.lists.items c.cores.merged.items c.cores.invariant (search (rules, arith))
