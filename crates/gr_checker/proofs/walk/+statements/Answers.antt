use Rattle.std.proofs.Common.{arith, take, length, ◌≡◌, ◌+◌, ◌∙◌, ap, sym, drop, get_or}
use Rattle.gr_accept.specs.Walks.{expr_sites, only, both, closed, stmt, stmts}
use Rattle.gr_checker.specs.WalkView.{after, scope_of}
use Rattle.gr_checker.proofs.Cases.{restored}
use Rattle.gr_checker.proofs.Nexts.{stmts-next}
use Rattle.gr_checker.proofs.Statements.{stmt-If, stmt-While, after-both}
use Rattle.gr_checker.proofs.walk.+statements.Goals as goal

pub check_stmt-returns-in_ok-check_block-in-If-2 : goal.check_stmt-returns-in_ok-check_block-in-If-2
check_stmt-returns-in_ok-check_block-in-If-2 t c =
    let test = only (λ v. expr_sites v c.in-If.test) in
    let one = closed (stmts c.in-If.yes) in
    let other = closed (stmts c.in-If.no) in
    let first : c.check_block.new.walk ≡ after (after c.args.walk.now test) one = cc (c.check_expr-in-If.ensures, c.as_slice-in-If.ensures, c.in_ok-check_block-in-If.ensures) in
    let second : c.check_block-in-If.new.walk ≡ after c.check_block.new.walk other = cc (c.as_slice-in-If-2.ensures, c.in_ok-check_block-in-If-2.ensures) in
    rw (c.in-If.is, stmt-If) (second ∙ ap (λ w. after w other) first
    ∙ sym (after-both c.args.walk.now test (both one other) ∙ after-both (after c.args.walk.now test) one other))

pub check_stmt-returns-in_ok-check_block-in-While : goal.check_stmt-returns-in_ok-check_block-in-While
check_stmt-returns-in_ok-check_block-in-While t c = rw (c.in-While.is, stmt-While) (cc (
  after-both c.args.walk.now (only (λ v. expr_sites v c.in-While.test)) (closed (stmts c.in-While.body)),
  c.check_expr-in-While.ensures,
  c.as_slice-in-While.ensures,
  c.in_ok-check_block-in-While.ensures,
))

pub check_all-loop-stmt-preserved : goal.check_all-loop-stmt-preserved
check_all-loop-stmt-preserved t c =
    let now : c.check_stmt.new.walk ≡ after c.loop-stmt.walk (stmt (get_or c.args.block.now c.loop-stmt.stmt-index c.stmt-item.result)) = cc (c.in_ok-check_stmt.ensures, c.stmt-item.is) in
    ap (λ w. after w (stmts (drop (c.loop-stmt.stmt-index + 1) c.args.block.now))) now
    ∙ sym (stmts-next c.loop-stmt.walk c.args.block.now c.loop-stmt.stmt-index c.stmt-item.result (omega arith))
    ∙ c.loop-stmt.invariant

pub check_block-returns : goal.check_block-returns
check_block-returns t c =
    let w = c.args.walk.now in
    let look = stmts c.args.block.now in
    let walk : c.check_all.new.walk ≡ after w look = c.in_ok-check_all.ensures in
    let visible : c.truncate.new.self ≡ w.scope.visible =
    c.truncate.ensures ∙ ap (λ n. take n c.check_all.new.walk.scope.visible) c.len-before.ensures
    ∙ ap (λ x. take (length w.scope.visible) x.scope.visible) walk ∙ restored c.args.block.now (scope_of w) in
    λ i. record { found = (walk i).found; scope = record { meanings = (walk i).scope.meanings; named = (walk i).scope.named; visible = visible i } }
