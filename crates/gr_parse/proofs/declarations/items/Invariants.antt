use Rattle.std.proofs.Common.{◌≡◌, ℕ, ◌<◌, ◌^◌, [], length}
use Rattle.gr_meets.specs.Parsers as read
use Rattle.gr_expressions.specs.TokWords as tok
use Rattle.gr_parse.specs.ParsingWords as spec
use Rattle.gr_parse.proofs.declarations.items.Given as goal

abbrev pub invariant-each : goal.invariant-each
invariant-each l = (n : ℕ) × (length l.rest < 2 ^ 64 → length l.rest < n)
    × (read.run tok.never (spec.item spec.plenty) spec.plenty [] l.fn.tokens ≡ read.run tok.never (spec.item spec.plenty) n l.found l.rest)

abbrev pub decreases-each : goal.decreases-each
decreases-each l = length l.rest
