use Rattle.std.proofs.Common.{◌≡◌, ℕ, ◌<◌, ◌^◌, length}
use Rattle.gr_text.specs.declared.token.Sign.TheVariants as signs
use Rattle.gr_meets.specs.Parsers as read
use Rattle.gr_expressions.specs.TokWords as tok
use Rattle.gr_expressions.specs.OperandsWords as spec
use Rattle.gr_expressions.proofs.lists.separated.Given as goal

abbrev pub invariant-each : goal.invariant-each
invariant-each g l = (n : ℕ) × (length l.rest < 2 ^ 64 → length l.rest < n)
    × (read.separated (tok.is_sign signs.Comma) (g.E.Element.read_one l.depth) spec.plenty l.fn.rest ≡ read.commas (tok.is_sign signs.Comma) (g.E.Element.read_one l.depth) n l.found l.rest)

abbrev pub decreases-each : goal.decreases-each
decreases-each g l = length l.rest
