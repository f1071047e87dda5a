use Rattle.std.proofs.Common.{◌≡◌, drop}
use Rattle.gr_accept.specs.Conditions.{has_main}
use Rattle.gr_checker.proofs.checking.finds_main.Given as goal

abbrev pub invariant-loop-item : goal.invariant-loop-item
invariant-loop-item l = has_main (drop l.item-index l.items) ≡ has_main l.items
