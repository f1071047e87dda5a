use Rattle.gr_shares_steals.proofs.Questions.{questions_are_asked, questions_wait}
use Rattle.gr_shares_steals.proofs.laws.questions_share.Goals as goal

pub returns-clause-asked : goal.returns-clause-asked
returns-clause-asked c = questions_are_asked

pub returns-clause-waits : goal.returns-clause-waits
returns-clause-waits c = questions_wait
