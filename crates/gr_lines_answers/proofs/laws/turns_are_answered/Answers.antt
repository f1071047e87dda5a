use Rattle.gr_lines_answers.proofs.Answers.{turns_of_groups, calls_answered}
use Rattle.gr_lines_answers.proofs.laws.turns_are_answered.Goals as goal

pub returns-clause-groups : goal.returns-clause-groups
returns-clause-groups c = turns_of_groups

pub returns-clause-answers : goal.returns-clause-answers
returns-clause-answers c = calls_answered
