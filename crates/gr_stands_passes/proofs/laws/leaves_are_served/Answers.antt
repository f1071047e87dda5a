use Rattle.gr_stands_passes.proofs.Leaving as leaving
use Rattle.gr_stands_passes.proofs.laws.leaves_are_served.Goals as goal

pub returns : goal.returns
returns c = leaving.leaves_are_served
