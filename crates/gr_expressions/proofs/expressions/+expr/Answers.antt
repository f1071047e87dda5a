use Rattle.std.proofs.Common.{rules, arith, ◌≡◌, ℕ, suc, ◌-◌, Ok, sym, ◌∙◌, ap}
use Rattle.std.proofs.lemmas.Grind.{common_steps}
use Rattle.gr_syntax.specs.declared.syntax.Expr.{Expr}
use Rattle.gr_meets.specs.Parsers as read
use Rattle.gr_meets.proofs.Chains.{chain_none, chain_full, chain_some}
use Rattle.gr_expressions.specs.TokWords as tok
use Rattle.gr_expressions.specs.OperandsWords as spec
use Rattle.gr_expressions.proofs.Exprs.{levels_less}
use Rattle.gr_expressions.proofs.Steps.{levels_step}
use Rattle.gr_expressions.proofs.expressions.+expr.Invariants.{operand}
use Rattle.gr_expressions.proofs.expressions.+expr.Goals as goal

pub chain-returns-then-signs-eq0 : goal.chain-returns-then-signs-eq0
chain-returns-then-signs-eq0 t c n h =
    let i = c.loop-op.invariant n h in
    let e = chain_full (tok.operator c.args.below) spec.two (operand c.args.depth c.args.below) i.0 c.loop-op.left c.loop-op.signs c.in-Some.op c.loop-op.rest (sym c.operator_ahead.ensures ∙ c.in-Some.is) (omega arith) i.1 in
    first_of (search rules, grind (arith, common_steps))

pub chain-returns-in_err-right : goal.chain-returns-in_err-right
chain-returns-in_err-right t c n h =
    let i = c.loop-op.invariant n h in
    let e = chain_some (tok.operator c.args.below) spec.two (operand c.args.depth c.args.below) i.0 c.loop-op.left c.loop-op.signs c.in-Some.op c.loop-op.rest (sym c.operator_ahead.ensures ∙ c.in-Some.is) (omega arith) i.1 in
    first_of (search rules, grind (arith, common_steps))

-- What the operand's call says.
got : (t : ℕ) (c : goal.chain-In_ok-left t) → ◌≡◌ {A = read.Outcome tok.Tok spec.Counted} (operand c.args.depth c.args.below (c.loop-op.signs - 1) (read.next c.loop-op.rest)) (Ok ((c.in_ok-right.right, c.in_ok-right.fewer), c.in_ok-right.after))
got t c = first_of (search rules, grind (arith, common_steps))

pub chain-loop-op-smaller : goal.chain-loop-op-smaller
chain-loop-op-smaller t c = omega (arith, levels_less c.args.depth c.args.below (c.loop-op.signs - 1) (read.next c.loop-op.rest) (c.in_ok-right.right, c.in_ok-right.fewer) c.in_ok-right.after (got t c))

pub chain-loop-op-preserved : goal.chain-loop-op-preserved
chain-loop-op-preserved t c most h =
    let i = c.loop-op.invariant most h in
    let p : ℕ → read.Parser tok.Tok spec.Counted = operand c.args.depth c.args.below in
    let e = chain_some (tok.operator c.args.below) spec.two p i.0 c.loop-op.left c.loop-op.signs c.in-Some.op c.loop-op.rest (sym c.operator_ahead.ensures ∙ c.in-Some.is) (omega arith) i.1 in
    let less = levels_less c.args.depth c.args.below (c.loop-op.signs - 1) (read.next c.loop-op.rest) (c.in_ok-right.right, c.in_ok-right.fewer) c.in_ok-right.after (got t c) in (
      i.0 - 1,
      omega (arith, less, i.1),
      i.2 ∙ e ∙ ap (λ (o : read.Outcome tok.Tok spec.Counted). read.and_then o (λ y. read.chain (tok.operator c.args.below) spec.two p (i.0 - 1) (spec.two c.in-Some.op c.loop-op.left y.0, y.1))) (got t c)
          ∙ ap (λ (x : Expr). read.chain (tok.operator c.args.below) spec.two p (i.0 - 1) (x, c.in_ok-right.fewer) c.in_ok-right.after) (sym (c.in_ok-left.ensures)),
    )

pub chain-returns : goal.chain-returns
chain-returns t c n h =
    let i = c.loop-op.invariant n h in
    let e = chain_none (tok.operator c.args.below) spec.two (operand c.args.depth c.args.below) i.0 (c.loop-op.left, c.loop-op.signs) c.loop-op.rest (sym c.operator_ahead.ensures ∙ c.in_default.is) in
    first_of (search rules, grind (arith, common_steps))

pub levels-returns : goal.levels-returns
levels-returns t c =
    let e = levels_step (spec.unary c.args.depth) c.args.below c.args.signs c.args.rest (omega arith) in
    let g = c.chain.ensures (suc c.in_ok-first.signs) (omega arith) in
    first_of (search rules, grind (arith, common_steps))

pub levels-returns-in_err-first : goal.levels-returns-in_err-first
levels-returns-in_err-first t c =
    let e = levels_step (spec.unary c.args.depth) c.args.below c.args.signs c.args.rest (omega arith) in
    first_of (search rules, grind (arith, common_steps))
