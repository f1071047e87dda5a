use Rattle.std.proofs.Common.{◌≡◌, ℕ, ◌<◌, ◌+◌, ◌*◌, ◌^◌, [], length}
use Rattle.gr_text.specs.declared.token.Sign.TheVariants as signs
use Rattle.gr_meets.specs.Parsers as read
use Rattle.gr_expressions.specs.TokWords as tok
use Rattle.gr_parse.specs.ParsingWords as spec
use Rattle.gr_parse.proofs.blocks.+statement.Given as goal

abbrev pub decreases-statement : goal.decreases-statement
decreases-statement l = 10 * l.depth + 7

abbrev pub decreases-word_statement : goal.decreases-word_statement
decreases-word_statement l = 10 * l.depth + 6

abbrev pub decreases-key_statement : goal.decreases-key_statement
decreases-key_statement l = 10 * l.depth + 5

abbrev pub decreases-if_statement : goal.decreases-if_statement
decreases-if_statement l = 10 * l.depth + 4

abbrev pub decreases-while_statement : goal.decreases-while_statement
decreases-while_statement l = 10 * l.depth + 4

abbrev pub decreases-else_block : goal.decreases-else_block
decreases-else_block l = 10 * l.depth + 3

abbrev pub decreases-block : goal.decreases-block
decreases-block l = 10 * l.depth + 2

abbrev pub decreases-statements : goal.decreases-statements
decreases-statements l = 10 * l.depth + 8

abbrev pub invariant-statements-each : goal.invariant-statements-each
invariant-statements-each l = (n : ℕ) × (length l.rest < 2 ^ 64 → length l.rest < n)
    × (read.run (tok.is_sign signs.RightBrace) (spec.statement spec.plenty l.depth) spec.plenty [] l.fn.rest ≡ read.run (tok.is_sign signs.RightBrace) (spec.statement spec.plenty l.depth) n l.found l.rest)

abbrev pub decreases-statements-each : goal.decreases-statements-each
decreases-statements-each l = length l.rest
