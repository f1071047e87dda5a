-- The numbers of statements and items that a text spells are words.
use Rattle.std.proofs.Common.{◌≡◌, ℕ, Bool, true, ◌&&◌, List, [], ◌∷◌, map, refl, sym, ap, ◌∙◌}
use Rattle.gr_meets.specs.Lists.{Repeated, Separated}
use Rattle.gr_syntax.specs.declared.syntax.CallText.{CallText}
use Rattle.gr_syntax.specs.declared.syntax.Expr.{Expr}
use Rattle.gr_syntax.specs.declared.syntax.HowText.{HowText}
use Rattle.gr_syntax.specs.declared.syntax.Item.{Item}
use Rattle.gr_syntax.specs.declared.syntax.Name.{Name}
use Rattle.gr_syntax.specs.declared.syntax.Number.{Number}
use Rattle.gr_syntax.specs.declared.syntax.Right.{Right}
use Rattle.gr_syntax.specs.declared.syntax.Right.TheVariants as right
use Rattle.gr_syntax.specs.declared.syntax.Stmt.{Stmt}
use Rattle.gr_syntax.specs.declared.syntax.Stmt.TheVariants as stmt
use Rattle.gr_syntax.specs.declared.syntax.Stmt.TheFolds.{fold-roll-Stmt}
use Rattle.gr_syntax.specs.declared.syntax.Stmt.TheOpen.{Stmt-F}
use Rattle.gr_text.specs.declared.token.Sign.TheVariants as signs
use Rattle.gr_expressions.specs.Expressions.{IsNumber}
use Rattle.gr_expressions.specs.Tok.{Tok, Toks}
use Rattle.gr_parse.specs.Grammar.{IsRight, IsAssignment, IsHow, IsStmt, IsBlock, IsStmts, IsItem, IsProgram}
use Rattle.gr_print.specs.Printed.{AreWritten}
use Rattle.gr_print.proofs.PrintsStmts.{front_written}
use Rattle.gr_print.proofs.Spellings.{text_spells}
use Rattle.gr_text.proofs.Runs.{and_both}
use Rattle.gr_fits_words.specs.Literals.{all_hold, number_fits, expr_fits, exprs_fit, right_fits, how_fits, stmt_step, stmt_fits, stmts_fit, item_fits, items_fit}
use Rattle.gr_fits_numbers.specs.Laws as laws
use Rattle.gr_fits_numbers.proofs.Expressions.{back_written, number_fit, expr_fit, args_fit, call_fits}

-- ---- one statement

set_in : (fresh : Bool) (targets : List Name) (right : Right) → right_fits right ≡ true → stmt_fits (stmt.Set1 fresh targets right) ≡ true
set_in fresh targets right h = ap stmt_fits (sym (stmt.rolls-Set1 fresh targets right)) ∙ fold-roll-Stmt Bool stmt_step (Stmt-F.Set1 fresh targets right) ∙ h

do_in : (call : CallText) → exprs_fit call.args ≡ true → stmt_fits (stmt.Do call) ≡ true
do_in call h = ap stmt_fits (sym (stmt.rolls-Do call)) ∙ fold-roll-Stmt Bool stmt_step (Stmt-F.Do call) ∙ h

print_in : (value : Expr) → expr_fits value ≡ true → stmt_fits (stmt.Print value) ≡ true
print_in value h = ap stmt_fits (sym (stmt.rolls-Print value)) ∙ fold-roll-Stmt Bool stmt_step (Stmt-F.Print value) ∙ h

if_in : (test : Expr) (one other : List Stmt) → expr_fits test ≡ true → stmts_fit one ≡ true → stmts_fit other ≡ true → stmt_fits (stmt.If test one other) ≡ true
if_in test one other h k l =
    ap stmt_fits (sym (stmt.rolls-If test one other)) ∙ fold-roll-Stmt Bool stmt_step (Stmt-F.If test one other) ∙ and_both (expr_fits test) (stmts_fit one && stmts_fit other) h (and_both (stmts_fit one) (stmts_fit other) k l)

while_in : (test : Expr) (body : List Stmt) → expr_fits test ≡ true → stmts_fit body ≡ true → stmt_fits (stmt.While test body) ≡ true
while_in test body h k = ap stmt_fits (sym (stmt.rolls-While test body)) ∙ fold-roll-Stmt Bool stmt_step (Stmt-F.While test body) ∙ and_both (expr_fits test) (stmts_fit body) h k

finish_in : (body : List Stmt) → stmts_fit body ≡ true → stmt_fits (stmt.Finish body) ≡ true
finish_in body h = ap stmt_fits (sym (stmt.rolls-Finish body)) ∙ fold-roll-Stmt Bool stmt_step (Stmt-F.Finish body) ∙ h

spawn_in : (way : HowText) (target : Name) (args : List Expr) → how_fits way ≡ true → exprs_fit args ≡ true → stmt_fits (stmt.Spawn way target args) ≡ true
spawn_in way target args h k = ap stmt_fits (sym (stmt.rolls-Spawn way target args)) ∙ fold-roll-Stmt Bool stmt_step (Stmt-F.Spawn way target args) ∙ and_both (how_fits way) (exprs_fit args) h k

loop_in : (lo hi grain : Expr) (target : Name) (args : List Expr) → expr_fits lo ≡ true → expr_fits hi ≡ true → expr_fits grain ≡ true → exprs_fit args ≡ true
    → stmt_fits (stmt.Forall lo hi grain target args) ≡ true
loop_in lo hi grain target args h k l m =
    ap stmt_fits (sym (stmt.rolls-Forall lo hi grain target args)) ∙ fold-roll-Stmt Bool stmt_step (Stmt-F.Forall lo hi grain target args)
    ∙ and_both (expr_fits lo) (exprs_fit (hi ∷ grain ∷ args)) h (and_both (expr_fits hi) (exprs_fit (grain ∷ args)) k (and_both (expr_fits grain) (exprs_fit args) l m))

-- ---- statements

right_fit : {depth : ℕ} {tokens : Toks} {found : Right} → IsRight depth tokens found → AreWritten tokens → right_fits found ≡ true
right_fit (IsRight.value one) h = expr_fit one h
right_fit (IsRight.result spelled) h = call_fits spelled h

assignment_fits : {depth : ℕ} {fresh : Bool} {tokens : Toks} {found : Stmt} → IsAssignment depth fresh tokens found → AreWritten tokens → stmt_fits found ≡ true
assignment_fits (IsAssignment.one {fresh = fresh} {target = target} {inside = inside} {right = value} one) h =
    set_in fresh (target ∷ []) value (right_fit one (front_written inside _ h.1.1))
assignment_fits (IsAssignment.two {fresh = fresh} {first = first} {second = second} {inside = inside} {done = done} spelled) h =
    set_in fresh (first ∷ second ∷ []) (right.Result done) (call_fits spelled (front_written inside _ h.1.1.1.1))

how_fit : {depth : ℕ} {tokens : Toks} {found : HowText} → IsHow depth tokens found → AreWritten tokens → how_fits found ≡ true
how_fit IsHow.here h = refl
how_fit (IsHow.at one) h = expr_fit one h.1.1
how_fit IsHow.offer h = refl

mutual
  stmt_fit : {depth : ℕ} {tokens : Toks} {found : Stmt} → IsStmt depth tokens found → AreWritten tokens → stmt_fits found ≡ true
  stmt_fit (IsStmt.assign assignment) h = assignment_fits assignment h
  stmt_fit (IsStmt.let_fresh assignment) h = assignment_fits assignment h.1
  stmt_fit (IsStmt.call {inside = inside} {done = done} spelled) h = do_in done (call_fits spelled (front_written inside _ h))
  stmt_fit (IsStmt.print {inside = inside} {value = value} one) h = print_in value (expr_fit one (front_written inside _ h.1))
  stmt_fit (IsStmt.if_only {front = front} {test = test} {body = body} one block) h =
      if_in test body [] (expr_fit one (front_written front _ h.1)) (block_fits block (back_written front _ h.1)) refl
  stmt_fit (IsStmt.if_else {front = front} {inside = inside} {test = test} {body = body} {other = other} one block last) h =
      let more = back_written front _ h.1 in
      if_in test body other (expr_fit one (front_written front _ h.1)) (block_fits block (front_written inside _ more)) (block_fits last (back_written inside _ more).1)
  stmt_fit (IsStmt.while_loop {front = front} {test = test} {body = body} one block) h =
      while_in test body (expr_fit one (front_written front _ h.1)) (block_fits block (back_written front _ h.1))
  stmt_fit (IsStmt.finish {body = body} block) h = finish_in body (block_fits block h.1)
  stmt_fit (IsStmt.spawn {front = front} {inside = inside} {how = way} {task = task} {args = args} one more) h =
      spawn_in way task args (how_fit one (front_written front _ h)) (args_fit more (front_written inside _ (back_written front _ h).1))
  stmt_fit (IsStmt.forall_loop {from = from} {to = to} {by = step} {inside = inside} {lo = lo} {hi = hi} {grain = grain} {task = task} {args = args} one two three more) h =
      let second = (back_written from _ h.1).1 in
      let third = (back_written to _ second).1 in
      let fourth = (back_written step _ third).1 in
      loop_in lo hi grain task args (expr_fit one (front_written from _ h.1)) (expr_fit two (front_written to _ second)) (expr_fit three (front_written step _ third)) (args_fit more (front_written inside _ fourth))

  block_fits : {depth : ℕ} {tokens : Toks} {body : List Stmt} → IsBlock depth tokens body → AreWritten tokens → stmts_fit body ≡ true
  block_fits IsBlock.missing h = refl
  block_fits (IsBlock.braces {inside = inside} more) h = body_fits more (front_written inside _ h.1)

  body_fits : {depth : ℕ} {tokens : Toks} {body : List Stmt} → IsStmts depth tokens body → AreWritten tokens → stmts_fit body ≡ true
  body_fits IsStmts.none h = refl
  body_fits (IsStmts.one_more {front = front} {first = first} {others = others} one more) h =
      and_both (stmt_fits first) (stmts_fit others) (stmt_fit one (front_written front _ h)) (body_fits more (back_written front _ h))

-- ---- items

value_fits : {tokens : Toks} {found : Number} → IsNumber tokens found → AreWritten tokens → number_fits found ≡ true
value_fits (IsNumber.number {found = found}) h = number_fit found h.0

values_fit : {tokens : Toks} {values : List Number} → Separated (Tok.sign signs.Comma) IsNumber tokens values → AreWritten tokens → all_hold (map number_fits values) ≡ true
values_fit (Separated.last {only = only} one) h = and_both (number_fits only) true (value_fits one h) refl
values_fit (Separated.before {front = front} {first = first} {others = others} one more) h =
    and_both (number_fits first) (all_hold (map number_fits others)) (value_fits one (front_written front _ h)) (values_fit more (back_written front _ h).1)

item_fit : {tokens : Toks} {item : Item} → IsItem tokens item → AreWritten tokens → item_fits item ≡ true
item_fit IsItem.array h = refl
item_fit IsItem.set h = refl
item_fit IsItem.map h = refl
item_fit IsItem.vector h = refl
item_fit IsItem.heap h = refl
item_fit IsItem.show h = refl
item_fit (IsItem.input {inside = inside} more) h = values_fit more (front_written inside _ h.1.1.1)
item_fit (IsItem.task {front = front} params block) h = block_fits block (back_written front _ h.1.1.1)

items_fit_of : {tokens : Toks} {items : List Item} → IsProgram tokens items → AreWritten tokens → items_fit items ≡ true
items_fit_of Repeated.none h = refl
items_fit_of (Repeated.one_more {front = front} {first = first} {others = others} one more) h =
    and_both (item_fits first) (items_fit others) (item_fit one (front_written front _ h)) (items_fit_of more (back_written front _ h))

pub spelled_fit : laws.SpelledNumbersFit
spelled_fit text tokens program reads found = items_fit_of found.spelled (text_spells text tokens program program reads found refl).written
