use Rattle.gr_vector.proofs.Groups.{groups}
use Rattle.gr_vector.proofs.laws.groups_are_the_calls.Goals as goal

pub returns : goal.returns
returns c = groups
