use Rattle.std.proofs.Common.{◌-◌, ◌^◌}
use Rattle.gr_round.specs.RoundWords.{GoesOn}
use Rattle.gr_round.proofs.running.run.Given as goal

abbrev pub invariant-rounds : goal.invariant-rounds
invariant-rounds g l = GoesOn l.fn.cores.items l.cores.items l.before

abbrev pub decreases-rounds : goal.decreases-rounds
decreases-rounds g l = 2 ^ 128 - l.before
