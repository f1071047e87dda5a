use Rattle.gr_expressions.proofs.Shorter.{number_shortens, gives_shorter}
use Rattle.gr_expressions.proofs.lists.NumberElement.parse.Goals as goal

pub returns-clause-shorter : goal.returns-clause-shorter
returns-clause-shorter c = gives_shorter number_shortens c.args.rest c.number.result c.number.ensures
