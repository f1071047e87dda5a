use Rattle.gr_vector.proofs.Runs.{plans}
use Rattle.gr_vector.proofs.laws.plans_are_the_calls.Goals as goal

pub returns : goal.returns
returns c = plans
