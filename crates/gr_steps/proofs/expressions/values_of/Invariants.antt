use Rattle.std.proofs.Common.{◌≡◌, ◌++◌, drop}
use Rattle.std.specs.Option.{option_map}
use Rattle.gr_lang.specs.Expressions.{values}
use Rattle.gr_steps.proofs.expressions.values_of.Given as goal

abbrev pub invariant-loop-expr : goal.invariant-loop-expr
invariant-loop-expr l = values l.locals l.exprs ≡ option_map (λ ws. l.words ++ ws) (values l.locals (drop l.expr-index l.expr-items))
