use Rattle.std.proofs.Common.{◌≡◌, drop}
use Rattle.gr_checker.specs.HeadsView.{all_declared, kept_by, none}
use Rattle.gr_checker.proofs.checking.declare_all.Given as goal

abbrev pub invariant-loop-item : goal.invariant-loop-item
invariant-loop-item l = all_declared (drop l.item-index l.items) (kept_by l.heads) ≡ all_declared l.items none
