use Rattle.gr_stands_rests.proofs.Planned.{runs_planned}
use Rattle.gr_stands_rests.proofs.laws.runs_put_as_planned.Goals as goal

pub returns : goal.returns
returns c = runs_planned
