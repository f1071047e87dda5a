use Rattle.std.proofs.Common.{◌≡◌, ◌≤◌, ◌*◌, ◌^◌, take}
use Rattle.gr_round.specs.RoundWords.{clocks}
use Rattle.gr_round.proofs.running.total.Given as goal

abbrev pub invariant-loop-core : goal.invariant-loop-core
invariant-loop-core l = record {
  sum : l.total ≡ clocks (take l.core-index l.cores);
  small : l.total ≤ l.core-index * 2 ^ 64;
}
