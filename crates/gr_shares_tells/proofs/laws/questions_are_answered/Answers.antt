use Rattle.gr_shares_tells.proofs.Answered.{questions_are_single, units_are_given_at_once}
use Rattle.gr_shares_tells.proofs.laws.questions_are_answered.Goals as goal

pub returns-clause-single : goal.returns-clause-single
returns-clause-single c = questions_are_single

pub returns-clause-once : goal.returns-clause-once
returns-clause-once c = units_are_given_at_once
