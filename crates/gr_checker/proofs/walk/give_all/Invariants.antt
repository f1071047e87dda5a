use Rattle.std.proofs.Common.{◌≡◌, drop}
use Rattle.gr_accept.specs.Walks.{givens}
use Rattle.gr_checker.specs.WalkView.{after}
use Rattle.gr_checker.proofs.walk.give_all.Given as goal

abbrev pub invariant-loop-name : goal.invariant-loop-name
invariant-loop-name l = after l.walk (givens (drop l.name-index l.names)) ≡ after l.fn.walk (givens l.names)
