use Rattle.gr_clocks.proofs.Machine.{ticking, clocks_low, runs_short}
use Rattle.gr_clocks.proofs.laws.runs_are_short.Goals as goal

pub returns-clause-ticking : goal.returns-clause-ticking
returns-clause-ticking c = ticking

pub returns-clause-clocks : goal.returns-clause-clocks
returns-clause-clocks c = clocks_low

pub returns-clause-steps : goal.returns-clause-steps
returns-clause-steps c = runs_short
