use Rattle.std.proofs.Common.{◌-◌, length}
use Rattle.gr_replay.proofs.Dividing.{Further}
use Rattle.gr_replay.proofs.division.divide.Given as goal

abbrev pub invariant-loop-rest : goal.invariant-loop-rest
invariant-loop-rest l = Further l.source l.start

abbrev pub decreases-loop-rest : goal.decreases-loop-rest
decreases-loop-rest l = length l.source - l.start
