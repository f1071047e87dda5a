use Rattle.std.proofs.Common.{rules, arith}
use Rattle.std.proofs.lemmas.Grind.{common_steps}
use Rattle.gr_expressions.specs.OperandsWords.{plenty}
use Rattle.gr_expressions.proofs.Steps.{args_zero}
use Rattle.gr_expressions.proofs.arguments.args.Goals as goal

pub returns-then-depth-eq0 : goal.returns-then-depth-eq0
returns-then-depth-eq0 c = let e = args_zero plenty c.args.depth c.args.rest (omega arith) c.refusal.ensures.room in first_of (search rules, grind (arith, common_steps))
