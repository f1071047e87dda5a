use Rattle.std.proofs.Common.{◌≡◌, drop}
use Rattle.gr_accept.specs.Walks.{locals_sites}
use Rattle.gr_checker.specs.ScopeView.{noted_in}
use Rattle.gr_checker.proofs.calls.check_locals.Given as goal

abbrev pub invariant-loop-name : goal.invariant-loop-name
invariant-loop-name l = noted_in l.scope l.found (λ visible. locals_sites visible (drop l.name-index l.names)) ≡ noted_in l.scope l.fn.found (λ visible. locals_sites visible l.names)
