use Rattle.std.proofs.Common.{rules, arith}
use Rattle.gr_merge.proofs.Taking.{take_second, take_first, take_nothing}
use Rattle.gr_merge.proofs.merging.take_next.Goals as goal

pub returns-then-second_is_next-clause-some : goal.returns-then-second_is_next-clause-some
returns-then-second_is_next-clause-some g c =
    take_second g.T.Clocked.clock_of c.args.core c.args.list.now.items c.args.others.now.items c.pop_front.new.self.items c.pop_front.result (search rules) c.pop_front.ensures.items

pub returns-in-Some-clause-some : goal.returns-in-Some-clause-some
returns-in-Some-clause-some g c =
    take_first g.T.Clocked.clock_of c.args.core c.args.list.now.items c.in-Some.item c.pop_front-else-second_is_next.new.self.items c.args.others.now.items (search rules) c.in-Some.ensures.items

pub returns-in-None-clause-none : goal.returns-in-None-clause-none
returns-in-None-clause-none g c =
    take_nothing g.T.Clocked.clock_of c.args.core c.args.list.now.items c.args.others.now.items (search rules) (search (rules, arith))
