use Rattle.gr_expressions.proofs.Shorter.{name_shortens, gives_shorter}
use Rattle.gr_expressions.proofs.lists.NameElement.parse.Goals as goal

pub returns-clause-shorter : goal.returns-clause-shorter
returns-clause-shorter c = gives_shorter name_shortens c.args.rest c.name.result c.name.ensures
