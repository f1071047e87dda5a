-- Induction on expressions and on statements.
use Rattle.std.proofs.Common.{Bool, List, [], ◌∷◌, map, sym, subst}
use Rattle.gr_syntax.specs.declared.syntax.Name.{Name}
use Rattle.gr_syntax.specs.declared.syntax.Number.{Number}
use Rattle.gr_syntax.specs.declared.syntax.BinOp.{BinOp}
use Rattle.gr_syntax.specs.declared.syntax.Expr.{Expr, roll-Expr}
use Rattle.gr_syntax.specs.declared.syntax.Expr.TheVariants as e
use Rattle.gr_syntax.specs.declared.syntax.Expr.TheOpen.{Expr-F}
use Rattle.gr_syntax.specs.declared.syntax.Expr.TheFolds.{ind-Expr, map-Expr}
use Rattle.gr_syntax.specs.declared.syntax.CallText.{CallText}
use Rattle.gr_syntax.specs.declared.syntax.Right.{Right}
use Rattle.gr_syntax.specs.declared.syntax.HowText.{HowText}
use Rattle.gr_syntax.specs.declared.syntax.Stmt.{Stmt, roll-Stmt}
use Rattle.gr_syntax.specs.declared.syntax.Stmt.TheVariants as st
use Rattle.gr_syntax.specs.declared.syntax.Stmt.TheOpen.{Stmt-F}
use Rattle.gr_syntax.specs.declared.syntax.Stmt.TheFolds.{ind-Stmt, map-Stmt}

-- The cases of an induction on expressions.
pub record ExprCases (P : Expr → Type 0) : Type 0 where
  pub lit : (v : Number) → P (e.Lit v)
  pub local : (v : Name) → P (e.Local v)
  pub not : (x : Expr) → P x → P (e.Not x)
  pub two : (o : BinOp) (x y : Expr) → P x → P y → P (e.Two o x y)

module _ (P : Expr → Type 0) (cases : ExprCases P) where
  abbrev HeldExpr : Type 0
  HeldExpr = (x : Expr) × P x

  expr_level : (y : Expr-F HeldExpr) → P (roll-Expr (map-Expr HeldExpr Expr (λ x. x.0) y))
  expr_level (Expr-F.Lit v) = subst P (sym (e.rolls-Lit v)) (cases.lit v)
  expr_level (Expr-F.Local v) = subst P (sym (e.rolls-Local v)) (cases.local v)
  expr_level (Expr-F.Not x) = subst P (sym (e.rolls-Not x.0)) (cases.not x.0 x.1)
  expr_level (Expr-F.Two o x y) = subst P (sym (e.rolls-Two o x.0 y.0)) (cases.two o x.0 y.0 x.1 y.1)

  pub all_exprs : (x : Expr) → P x
  all_exprs = ind-Expr P (λ x y is. subst (λ z. P (roll-Expr z)) is (expr_level y))

-- This holds of each statement of a list.
abbrev pub EachOf : (Stmt → Type 0) → List Stmt → Type 0
EachOf P [] = Unit {0}
EachOf P (x ∷ xs) = P x × EachOf P xs

-- The cases of an induction on statements.
pub record StmtCases (P : Stmt → Type 0) : Type 0 where
  pub set : (fresh : Bool) (ns : List Name) (r : Right) → P (st.Set1 fresh ns r)
  pub call : (c : CallText) → P (st.Do c)
  pub print : (x : Expr) → P (st.Print x)
  pub if_else : (x : Expr) (xs ys : List Stmt) → EachOf P xs → EachOf P ys → P (st.If x xs ys)
  pub while_loop : (x : Expr) (xs : List Stmt) → EachOf P xs → P (st.While x xs)
  pub finish : (xs : List Stmt) → EachOf P xs → P (st.Finish xs)
  pub spawn : (w : HowText) (n : Name) (xs : List Expr) → P (st.Spawn w n xs)
  pub forall_loop : (lo hi grain : Expr) (n : Name) (xs : List Expr) → P (st.Forall lo hi grain n xs)

module _ (P : Stmt → Type 0) (cases : StmtCases P) where
  abbrev HeldStmt : Type 0
  HeldStmt = (x : Stmt) × P x

  held : (xs : List HeldStmt) → EachOf P (map (λ x. x.0) xs)
  held [] = tt
  held (x ∷ xs) = (x.1, held xs)

  stmt_level : (y : Stmt-F HeldStmt) → P (roll-Stmt (map-Stmt HeldStmt Stmt (λ x. x.0) y))
  stmt_level (Stmt-F.Set1 fresh ns r) = subst P (sym (st.rolls-Set1 fresh ns r)) (cases.set fresh ns r)
  stmt_level (Stmt-F.Do c) = subst P (sym (st.rolls-Do c)) (cases.call c)
  stmt_level (Stmt-F.Print x) = subst P (sym (st.rolls-Print x)) (cases.print x)
  stmt_level (Stmt-F.If x xs ys) = subst P (sym (st.rolls-If x (map (λ z. z.0) xs) (map (λ z. z.0) ys))) (cases.if_else x (map (λ z. z.0) xs) (map (λ z. z.0) ys) (held xs) (held ys))
  stmt_level (Stmt-F.While x xs) = subst P (sym (st.rolls-While x (map (λ z. z.0) xs))) (cases.while_loop x (map (λ z. z.0) xs) (held xs))
  stmt_level (Stmt-F.Finish xs) = subst P (sym (st.rolls-Finish (map (λ z. z.0) xs))) (cases.finish (map (λ z. z.0) xs) (held xs))
  stmt_level (Stmt-F.Spawn w n xs) = subst P (sym (st.rolls-Spawn w n xs)) (cases.spawn w n xs)
  stmt_level (Stmt-F.Forall lo hi grain n xs) = subst P (sym (st.rolls-Forall lo hi grain n xs)) (cases.forall_loop lo hi grain n xs)

  pub all_stmts : (x : Stmt) → P x
  all_stmts = ind-Stmt P (λ x y is. subst (λ z. P (roll-Stmt z)) is (stmt_level y))
