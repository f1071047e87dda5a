use Rattle.std.proofs.Common.{rules, arith, ◌+◌, map, drop}
use Rattle.std.proofs.lemmas.Grind.{common_steps}
use Rattle.gr_print.specs.Layout.{stmt, lines}
use Rattle.gr_print.proofs.Texts.{text_set, text_do, text_print, text_if, text_while, text_finish, text_spawn, text_forall, text_block, text_line}
use Rattle.gr_print.proofs.statements.+statements.Goals as goal

pub write_block-returns : goal.write_block-returns
write_block-returns t c =
    let parts = text_block (map stmt c.args.block.now) c.args.margin.now in
    first_of (search rules, grind (arith, common_steps))

pub write_stmt-returns-in-Set1 : goal.write_stmt-returns-in-Set1
write_stmt-returns-in-Set1 t c =
    let parts = text_set c.in-Set1.fresh c.in-Set1.targets c.in-Set1.right c.args.stmt.now c.args.margin.now c.in-Set1.is in
    first_of (search rules, grind (arith, common_steps))

pub write_stmt-returns-in_ok-write_call-in-Do : goal.write_stmt-returns-in_ok-write_call-in-Do
write_stmt-returns-in_ok-write_call-in-Do t c =
    let parts = text_do c.in-Do.call c.args.stmt.now c.args.margin.now c.in-Do.is in
    first_of (search rules, grind (arith, common_steps))

pub write_stmt-returns-in_ok-write_expr-in-Print : goal.write_stmt-returns-in_ok-write_expr-in-Print
write_stmt-returns-in_ok-write_expr-in-Print t c =
    let parts = text_print c.in-Print.value c.args.stmt.now c.args.margin.now c.in-Print.is in
    first_of (search rules, grind (arith, common_steps))

pub write_stmt-returns-in_ok-write_block-in-If : goal.write_stmt-returns-in_ok-write_block-in-If
write_stmt-returns-in_ok-write_block-in-If t c =
    let parts = text_if c.in-If.test c.in-If.yes c.in-If.no c.args.stmt.now c.args.margin.now c.in-If.is in
    first_of (search rules, grind (arith, common_steps))

pub write_stmt-returns-in_ok-push_str-in-While-2 : goal.write_stmt-returns-in_ok-push_str-in-While-2
write_stmt-returns-in_ok-push_str-in-While-2 t c =
    let parts = text_while c.in-While.test c.in-While.body c.args.stmt.now c.args.margin.now c.in-While.is in
    first_of (search rules, grind (arith, common_steps))

pub write_stmt-returns-in_ok-push_str-in-Finish : goal.write_stmt-returns-in_ok-push_str-in-Finish
write_stmt-returns-in_ok-push_str-in-Finish t c =
    let parts = text_finish c.in-Finish.body c.args.stmt.now c.args.margin.now c.in-Finish.is in
    first_of (search rules, grind (arith, common_steps))

pub write_stmt-returns-in_ok-write_start-in-Spawn : goal.write_stmt-returns-in_ok-write_start-in-Spawn
write_stmt-returns-in_ok-write_start-in-Spawn t c =
    let parts = text_spawn c.in-Spawn.how c.in-Spawn.target c.in-Spawn.args c.args.stmt.now c.args.margin.now c.in-Spawn.is in
    first_of (search rules, grind (arith, common_steps))

pub write_stmt-returns-in_ok-write_range-in-Forall : goal.write_stmt-returns-in_ok-write_range-in-Forall
write_stmt-returns-in_ok-write_range-in-Forall t c =
    let parts = text_forall c.in-Forall.lo c.in-Forall.hi c.in-Forall.grain c.in-Forall.target c.in-Forall.args c.args.stmt.now c.args.margin.now c.in-Forall.is in
    first_of (search rules, grind (arith, common_steps))

pub write_lines-each-preserved : goal.write_lines-each-preserved
write_lines-each-preserved t c =
    let parts = text_line c.args.margin.now (stmt c.stmt-item.result c.args.margin.now) (lines (map stmt (drop (c.each.stmt-index + 1) c.args.block.now)) c.args.margin.now) in
    first_of (search rules, grind (arith, common_steps))
