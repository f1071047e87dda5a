use Rattle.std.proofs.Common.{◌≡◌, ◌+◌, ◌*◌, ◌<◌, ◌≤◌, ◌^◌, ◌-◌}
use Rattle.gr_alloc.proofs.peaks.Peaks.new.Given as goal

abbrev pub invariant-doubling : goal.invariant-doubling
invariant-doubling l = record {
  power : l.leaves ≡ 2 ^ l.levels;
  few : l.levels < l.leaves;
  small : l.leaves ≤ 2 * l.count + 1;
}

abbrev pub decreases-doubling : goal.decreases-doubling
decreases-doubling l = l.count - l.leaves
