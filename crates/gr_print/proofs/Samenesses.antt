-- Trees whose parts are the same but for places are so themselves.
use Rattle.std.proofs.Common.{◌≡◌, Bool, List, map, sym, ap, ◌∙◌}
use Rattle.gr_syntax.specs.declared.syntax.Name.{Name}
use Rattle.gr_syntax.specs.declared.syntax.Number.{Number}
use Rattle.gr_syntax.specs.declared.syntax.BinOp.{BinOp}
use Rattle.gr_syntax.specs.declared.syntax.Expr.{Expr}
use Rattle.gr_syntax.specs.declared.syntax.Expr.TheVariants as e
use Rattle.gr_syntax.specs.declared.syntax.Expr.TheOpen.{Expr-F}
use Rattle.gr_syntax.specs.declared.syntax.Expr.TheFolds.{fold-roll-Expr}
use Rattle.gr_syntax.specs.declared.syntax.CallText.{CallText}
use Rattle.gr_syntax.specs.declared.syntax.Right.{Right}
use Rattle.gr_syntax.specs.declared.syntax.HowText.{HowText}
use Rattle.gr_syntax.specs.declared.syntax.Stmt.{Stmt}
use Rattle.gr_syntax.specs.declared.syntax.Stmt.TheVariants as st
use Rattle.gr_syntax.specs.declared.syntax.Stmt.TheOpen.{Stmt-F}
use Rattle.gr_syntax.specs.declared.syntax.Stmt.TheFolds.{fold-roll-Stmt}
use Rattle.gr_print.specs.Unplaced.{unplaced_name, unplaced_number, unplaced_expr, unplaced_expr_step, unplaced_call, unplaced_right, unplaced_how, unplaced_stmt, unplaced_stmt_step}

-- ---- expressions

pub bare_lit : (v : Number) → unplaced_expr (e.Lit v) ≡ e.Lit (unplaced_number v)
unfolding unplaced_expr
bare_lit v = ap unplaced_expr (sym (e.rolls-Lit v)) ∙ fold-roll-Expr Expr unplaced_expr_step (Expr-F.Lit v)

pub bare_local : (v : Name) → unplaced_expr (e.Local v) ≡ e.Local (unplaced_name v)
unfolding unplaced_expr
bare_local v = ap unplaced_expr (sym (e.rolls-Local v)) ∙ fold-roll-Expr Expr unplaced_expr_step (Expr-F.Local v)

pub bare_not : (x : Expr) → unplaced_expr (e.Not x) ≡ e.Not (unplaced_expr x)
unfolding unplaced_expr
bare_not x = ap unplaced_expr (sym (e.rolls-Not x)) ∙ fold-roll-Expr Expr unplaced_expr_step (Expr-F.Not x)

pub bare_two : (o : BinOp) (x y : Expr) → unplaced_expr (e.Two o x y) ≡ e.Two o (unplaced_expr x) (unplaced_expr y)
unfolding unplaced_expr
bare_two o x y = ap unplaced_expr (sym (e.rolls-Two o x y)) ∙ fold-roll-Expr Expr unplaced_expr_step (Expr-F.Two o x y)

pub same_lit : (v w : Number) → unplaced_number v ≡ unplaced_number w → unplaced_expr (e.Lit v) ≡ unplaced_expr (e.Lit w)
same_lit v w h = bare_lit v ∙ ap (λ (n : Number). e.Lit n) h ∙ sym (bare_lit w)

pub same_local : (v w : Name) → unplaced_name v ≡ unplaced_name w → unplaced_expr (e.Local v) ≡ unplaced_expr (e.Local w)
same_local v w h = bare_local v ∙ ap (λ (n : Name). e.Local n) h ∙ sym (bare_local w)

pub same_not : (x y : Expr) → unplaced_expr x ≡ unplaced_expr y → unplaced_expr (e.Not x) ≡ unplaced_expr (e.Not y)
same_not x y h = bare_not x ∙ ap (λ (z : Expr). e.Not z) h ∙ sym (bare_not y)

pub same_two : (o : BinOp) (x y z w : Expr) → unplaced_expr x ≡ unplaced_expr z → unplaced_expr y ≡ unplaced_expr w → unplaced_expr (e.Two o x y) ≡ unplaced_expr (e.Two o z w)
same_two o x y z w h k = bare_two o x y ∙ ap (λ (u : Expr). e.Two o u (unplaced_expr y)) h ∙ ap (λ (u : Expr). e.Two o (unplaced_expr z) u) k ∙ sym (bare_two o z w)

-- ---- statements

pub bare_set : (fresh : Bool) (ns : List Name) (r : Right) → unplaced_stmt (st.Set1 fresh ns r) ≡ st.Set1 fresh (map unplaced_name ns) (unplaced_right r)
unfolding unplaced_stmt
bare_set fresh ns r = ap unplaced_stmt (sym (st.rolls-Set1 fresh ns r)) ∙ fold-roll-Stmt Stmt unplaced_stmt_step (Stmt-F.Set1 fresh ns r)

pub bare_do : (c : CallText) → unplaced_stmt (st.Do c) ≡ st.Do (unplaced_call c)
unfolding unplaced_stmt
bare_do c = ap unplaced_stmt (sym (st.rolls-Do c)) ∙ fold-roll-Stmt Stmt unplaced_stmt_step (Stmt-F.Do c)

pub bare_print : (x : Expr) → unplaced_stmt (st.Print x) ≡ st.Print (unplaced_expr x)
unfolding unplaced_stmt
bare_print x = ap unplaced_stmt (sym (st.rolls-Print x)) ∙ fold-roll-Stmt Stmt unplaced_stmt_step (Stmt-F.Print x)

pub bare_if : (x : Expr) (xs ys : List Stmt) → unplaced_stmt (st.If x xs ys) ≡ st.If (unplaced_expr x) (map unplaced_stmt xs) (map unplaced_stmt ys)
unfolding unplaced_stmt
bare_if x xs ys = ap unplaced_stmt (sym (st.rolls-If x xs ys)) ∙ fold-roll-Stmt Stmt unplaced_stmt_step (Stmt-F.If x xs ys)

pub bare_while : (x : Expr) (xs : List Stmt) → unplaced_stmt (st.While x xs) ≡ st.While (unplaced_expr x) (map unplaced_stmt xs)
unfolding unplaced_stmt
bare_while x xs = ap unplaced_stmt (sym (st.rolls-While x xs)) ∙ fold-roll-Stmt Stmt unplaced_stmt_step (Stmt-F.While x xs)

pub bare_finish : (xs : List Stmt) → unplaced_stmt (st.Finish xs) ≡ st.Finish (map unplaced_stmt xs)
unfolding unplaced_stmt
bare_finish xs = ap unplaced_stmt (sym (st.rolls-Finish xs)) ∙ fold-roll-Stmt Stmt unplaced_stmt_step (Stmt-F.Finish xs)

pub bare_spawn : (h : HowText) (n : Name) (xs : List Expr) → unplaced_stmt (st.Spawn h n xs) ≡ st.Spawn (unplaced_how h) (unplaced_name n) (map unplaced_expr xs)
unfolding unplaced_stmt
bare_spawn h n xs = ap unplaced_stmt (sym (st.rolls-Spawn h n xs)) ∙ fold-roll-Stmt Stmt unplaced_stmt_step (Stmt-F.Spawn h n xs)

pub bare_forall : (lo hi grain : Expr) (n : Name) (xs : List Expr) → unplaced_stmt (st.Forall lo hi grain n xs) ≡ st.Forall (unplaced_expr lo) (unplaced_expr hi) (unplaced_expr grain) (unplaced_name n) (map unplaced_expr xs)
unfolding unplaced_stmt
bare_forall lo hi grain n xs = ap unplaced_stmt (sym (st.rolls-Forall lo hi grain n xs)) ∙ fold-roll-Stmt Stmt unplaced_stmt_step (Stmt-F.Forall lo hi grain n xs)

pub same_set : (fresh : Bool) (ns ms : List Name) (r q : Right) → map unplaced_name ns ≡ map unplaced_name ms → unplaced_right r ≡ unplaced_right q → unplaced_stmt (st.Set1 fresh ns r) ≡ unplaced_stmt (st.Set1 fresh ms q)
same_set fresh ns ms r q h k = let a = bare_set fresh ns r in let b = bare_set fresh ms q in cc

pub same_do : (c d : CallText) → unplaced_call c ≡ unplaced_call d → unplaced_stmt (st.Do c) ≡ unplaced_stmt (st.Do d)
same_do c d h = bare_do c ∙ ap (λ (u : CallText). st.Do u) h ∙ sym (bare_do d)

pub same_print : (x y : Expr) → unplaced_expr x ≡ unplaced_expr y → unplaced_stmt (st.Print x) ≡ unplaced_stmt (st.Print y)
same_print x y h = bare_print x ∙ ap (λ (u : Expr). st.Print u) h ∙ sym (bare_print y)

pub same_if : (x y : Expr) (xs ys us vs : List Stmt) → unplaced_expr x ≡ unplaced_expr y → map unplaced_stmt xs ≡ map unplaced_stmt us → map unplaced_stmt ys ≡ map unplaced_stmt vs → unplaced_stmt (st.If x xs ys) ≡ unplaced_stmt (st.If y us vs)
same_if x y xs ys us vs h k l = let a = bare_if x xs ys in let b = bare_if y us vs in cc

pub same_while : (x y : Expr) (xs us : List Stmt) → unplaced_expr x ≡ unplaced_expr y → map unplaced_stmt xs ≡ map unplaced_stmt us → unplaced_stmt (st.While x xs) ≡ unplaced_stmt (st.While y us)
same_while x y xs us h k = let a = bare_while x xs in let b = bare_while y us in cc

pub same_finish : (xs us : List Stmt) → map unplaced_stmt xs ≡ map unplaced_stmt us → unplaced_stmt (st.Finish xs) ≡ unplaced_stmt (st.Finish us)
same_finish xs us h = bare_finish xs ∙ ap (λ (u : List Stmt). st.Finish u) h ∙ sym (bare_finish us)

pub same_spawn : (w v : HowText) (n m : Name) (xs ys : List Expr) → unplaced_how w ≡ unplaced_how v → unplaced_name n ≡ unplaced_name m → map unplaced_expr xs ≡ map unplaced_expr ys → unplaced_stmt (st.Spawn w n xs) ≡ unplaced_stmt (st.Spawn v m ys)
same_spawn w v n m xs ys h k l = let a = bare_spawn w n xs in let b = bare_spawn v m ys in cc

pub same_forall : (lo hi grain lo' hi' grain' : Expr) (n m : Name) (xs ys : List Expr) → unplaced_expr lo ≡ unplaced_expr lo' → unplaced_expr hi ≡ unplaced_expr hi' → unplaced_expr grain ≡ unplaced_expr grain'
    → unplaced_name n ≡ unplaced_name m → map unplaced_expr xs ≡ map unplaced_expr ys → unplaced_stmt (st.Forall lo hi grain n xs) ≡ unplaced_stmt (st.Forall lo' hi' grain' m ys)
same_forall lo hi grain lo' hi' grain' n m xs ys f g h k l = let a = bare_forall lo hi grain n xs in let b = bare_forall lo' hi' grain' m ys in cc
