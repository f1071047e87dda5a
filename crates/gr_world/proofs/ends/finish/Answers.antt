use Rattle.gr_world.proofs.Matches.{are_ends}
use Rattle.gr_world.proofs.ends.finish.Goals as goal

pub returns-clause-ends : goal.returns-clause-ends
returns-clause-ends c = λ machine are. are_ends machine c.args.cores.items c.in_ok-ends.ends are c.requires.met c.in_ok-ends.ensures
