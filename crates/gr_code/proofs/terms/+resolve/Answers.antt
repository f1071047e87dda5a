use Rattle.gr_code.proofs.Numbers.{term_local}
use Rattle.gr_code.proofs.terms.+resolve.Goals as goal

pub returns-in-Local : goal.returns-in-Local
returns-in-Local t c = λ ws e. term_local _ ws _ _ _ e c.number_of-at.ensures c.in-Local.is
