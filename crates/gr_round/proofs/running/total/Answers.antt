use Rattle.std.proofs.Common.{rules}
use Rattle.gr_round.proofs.Sums.{total_more}
use Rattle.gr_round.proofs.running.total.Goals as goal

pub loop-core-preserved : goal.loop-core-preserved
loop-core-preserved c = record {
  sum = total_more c.args.cores.now c.loop-core.core-index c.loop-core.total c.clock.result c.from-total.result c.core-item.result
      c.loop-core-test.true c.core-item.is c.loop-core.invariant.sum c.clock.ensures c.from-total.ensures;
  small = search rules;
}
