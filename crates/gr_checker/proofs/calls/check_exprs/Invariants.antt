use Rattle.std.proofs.Common.{◌≡◌, drop}
use Rattle.gr_accept.specs.Walks.{exprs_sites}
use Rattle.gr_checker.specs.ScopeView.{noted_in}
use Rattle.gr_checker.proofs.calls.check_exprs.Given as goal

abbrev pub invariant-loop-expr : goal.invariant-loop-expr
invariant-loop-expr l = noted_in l.scope l.found (λ visible. exprs_sites visible (drop l.expr-index l.exprs)) ≡ noted_in l.scope l.fn.found (λ visible. exprs_sites visible l.exprs)
