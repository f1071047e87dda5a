use Rattle.std.proofs.Common.{◌≡◌, length}
use Rattle.gr_core.proofs.cores.room.Given as goal

abbrev pub invariant-cores : goal.invariant-cores
invariant-cores l = length l.left.items ≡ l.counter
