use Rattle.std.proofs.Common.{◌≡◌, ℕ, ◌<◌, ◌+◌, ◌*◌}
use Rattle.gr_meets.specs.Parsers as read
use Rattle.gr_expressions.specs.TokWords as tok
use Rattle.gr_expressions.specs.OperandsWords as spec
use Rattle.gr_expressions.proofs.expressions.+expr.Given as goal

abbrev pub decreases-unary : goal.decreases-unary
decreases-unary l = 100 * l.depth

abbrev pub decreases-levels : goal.decreases-levels
decreases-levels l = 100 * l.depth + 2 * l.below + 1

abbrev pub decreases-chain : goal.decreases-chain
decreases-chain l = 100 * l.depth + 2 * l.below + 2

abbrev pub decreases-comparing : goal.decreases-comparing
decreases-comparing l = 100 * l.depth + 20

abbrev pub decreases-comparison : goal.decreases-comparison
decreases-comparison l = 100 * l.depth + 21

abbrev pub decreases-group : goal.decreases-group
decreases-group l = 100 * l.depth + 22

abbrev pub operand : ℕ → ℕ → ℕ → read.Parser tok.Tok spec.Counted
operand depth below = read.levels tok.operator spec.two (spec.unary depth) below

abbrev pub invariant-chain-loop-op : goal.invariant-chain-loop-op
invariant-chain-loop-op l = (most : ℕ) → l.fn.signs < most → (n : ℕ) × (l.signs < n)
    × (read.chain (tok.operator l.below) spec.two (operand l.depth l.below) most (l.fn.first, l.fn.signs) l.fn.rest ≡ read.chain (tok.operator l.below) spec.two (operand l.depth l.below) n (l.left, l.signs) l.rest)

abbrev pub decreases-chain-loop-op : goal.decreases-chain-loop-op
decreases-chain-loop-op l = l.signs
