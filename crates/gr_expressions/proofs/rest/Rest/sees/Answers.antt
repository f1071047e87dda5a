use Rattle.std.proofs.Common.{rules, arith}
use Rattle.std.proofs.lemmas.Grind.{common_steps}
use Rattle.gr_meets.specs.Parsers.{sees}
use Rattle.gr_expressions.specs.Tok.{toks}
use Rattle.gr_expressions.proofs.rest.Rest.sees.Goals as goal

pub returns-in-len1-up : goal.returns-in-len1-up
unfolding toks sees
returns-in-len1-up c = let e = c.is_sign.ensures c.self.inside.text.now in first_of (search rules, grind (arith, common_steps))
