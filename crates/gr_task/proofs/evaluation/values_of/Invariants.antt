use Rattle.std.proofs.Common.{◌≡◌, ◌++◌, drop}
use Rattle.std.specs.Option.{option_map}
use Rattle.gr_code.specs.Terms.{term_values}
use Rattle.gr_task.proofs.evaluation.values_of.Given as goal

abbrev pub invariant-loop-term : goal.invariant-loop-term
invariant-loop-term l = term_values l.locals l.terms ≡ option_map (λ ws. l.words ++ ws) (term_values l.locals (drop l.term-index l.term-items))
