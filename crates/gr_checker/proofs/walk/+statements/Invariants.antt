use Rattle.std.proofs.Common.{◌≡◌, drop}
use Rattle.gr_accept.specs.Walks.{stmts}
use Rattle.gr_checker.specs.WalkView.{after}
use Rattle.gr_checker.proofs.walk.+statements.Given as goal

abbrev pub invariant-check_all-loop-stmt : goal.invariant-check_all-loop-stmt
invariant-check_all-loop-stmt l = after l.walk (stmts (drop l.stmt-index l.block)) ≡ after l.fn.walk (stmts l.block)
