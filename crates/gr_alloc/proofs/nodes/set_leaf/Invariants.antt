use Rattle.std.proofs.Common.{◌≡◌, ◌≢◌, ℕ, suc, ◌/◌, ◌<◌, ◌^◌, drop}
use Rattle.std.specs.Prelude.{slice_set}
use Rattle.gr_alloc.specs.PeakView.{IsPeak}
use Rattle.gr_alloc.proofs.nodes.set_leaf.Given as goal

abbrev pub invariant-climbing : goal.invariant-climbing
invariant-climbing l = record {
  leaves : drop (2 ^ l.levels) l.tree ≡ drop (2 ^ l.levels) (slice_set l.fn.tree l.leaf l.number);
  positive : 0 < l.node;
  inside : l.node < 2 ^ suc l.levels;
  peaks : (k : ℕ) → 0 < k → k < 2 ^ l.levels → k ≢ l.node / 2 → IsPeak l.tree k;
}

abbrev pub decreases-climbing : goal.decreases-climbing
decreases-climbing l = l.node
