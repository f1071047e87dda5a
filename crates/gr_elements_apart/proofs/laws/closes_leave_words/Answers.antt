use Rattle.gr_elements_apart.proofs.Closes.{closes_leave, gifts_leave, questions_leave}
use Rattle.gr_elements_apart.proofs.laws.closes_leave_words.Goals as goal

pub returns-clause-closes : goal.returns-clause-closes
returns-clause-closes c = closes_leave

pub returns-clause-gifts : goal.returns-clause-gifts
returns-clause-gifts c = gifts_leave

pub returns-clause-questions : goal.returns-clause-questions
returns-clause-questions c = questions_leave
