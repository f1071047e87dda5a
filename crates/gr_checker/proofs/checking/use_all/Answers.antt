use Rattle.std.proofs.Common.{arith}
use Rattle.gr_checker.specs.MeaningView.{meaning_of}
use Rattle.gr_checker.proofs.Nexts.{uses-next}
use Rattle.gr_checker.proofs.checking.use_all.Goals as goal

pub loop-item-preserved : goal.loop-item-preserved
loop-item-preserved c = cc (
  uses-next (meaning_of c.args.meanings.now) c.loop-item.found c.args.items.now c.loop-item.item-index c.item-item.result (omega arith),
  c.in_ok-found.ensures,
  c.item-item.is,
  c.loop-item.invariant,
)
