use Rattle.gr_expressions.proofs.Shorter.{expr_shortens, gives_shorter}
use Rattle.gr_expressions.proofs.lists.ExprElement.parse.Goals as goal

pub returns-clause-shorter : goal.returns-clause-shorter
returns-clause-shorter c = gives_shorter (expr_shortens c.args.depth) c.args.rest c.expr.result c.expr.ensures
