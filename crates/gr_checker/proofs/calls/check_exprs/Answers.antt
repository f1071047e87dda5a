use Rattle.std.proofs.Common.{arith}
use Rattle.gr_checker.specs.MeaningView.{meaning_of}
use Rattle.gr_checker.proofs.Nexts.{exprs-next}
use Rattle.gr_checker.proofs.calls.check_exprs.Goals as goal

pub loop-expr-preserved : goal.loop-expr-preserved
loop-expr-preserved c = cc (
  exprs-next (meaning_of c.args.scope.now.meanings.now) c.loop-expr.found c.args.scope.now.visible c.args.exprs.now c.loop-expr.expr-index c.expr-item.result (omega arith),
  c.check_expr.ensures,
  c.expr-item.is,
  c.loop-expr.invariant,
)
