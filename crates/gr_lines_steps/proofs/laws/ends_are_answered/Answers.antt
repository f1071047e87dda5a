use Rattle.gr_lines_steps.proofs.Ends.{ends_answered}
use Rattle.gr_lines_steps.proofs.laws.ends_are_answered.Goals as goal

pub returns : goal.returns
returns c = ends_answered
