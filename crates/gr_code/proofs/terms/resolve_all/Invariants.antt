use Rattle.std.proofs.Common.{take, map}
use Rattle.gr_code.specs.Terms.{AreTermsOf}
use Rattle.gr_code.proofs.terms.resolve_all.Given as goal

abbrev pub invariant-loop-expr : goal.invariant-loop-expr
invariant-loop-expr l = AreTermsOf (map (λ n. n.now) l.locals) l.terms (take l.expr-index l.exprs)
