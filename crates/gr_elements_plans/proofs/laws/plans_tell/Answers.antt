use Rattle.gr_elements_plans.proofs.Tells.{plans_tell}
use Rattle.gr_elements_plans.proofs.laws.plans_tell.Goals as goal

pub returns : goal.returns
returns c = plans_tell
