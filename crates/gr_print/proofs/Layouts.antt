-- How each kind of expression and of statement is laid out.
use Rattle.std.proofs.Common.{◌≡◌, ℕ, suc, ◌≤◌, ◌<◌, Bool, true, false, cond, List, [], ◌∷◌, ◌++◌, map, sym, ap, ◌∙◌, arith, leb}
use Rattle.gr_syntax.specs.declared.syntax.Name.{Name}
use Rattle.gr_syntax.specs.declared.syntax.Number.{Number}
use Rattle.gr_syntax.specs.declared.syntax.BinOp.{BinOp}
use Rattle.gr_syntax.specs.declared.syntax.Expr.{Expr}
use Rattle.gr_syntax.specs.declared.syntax.Expr.TheVariants as e
use Rattle.gr_syntax.specs.declared.syntax.Expr.TheOpen.{Expr-F}
use Rattle.gr_syntax.specs.declared.syntax.Expr.TheFolds.{fold-roll-Expr}
use Rattle.gr_syntax.specs.declared.syntax.CallText.{CallText}
use Rattle.gr_syntax.specs.declared.syntax.Right.{Right}
use Rattle.gr_syntax.specs.declared.syntax.HowText.{HowText}
use Rattle.gr_syntax.specs.declared.syntax.Stmt.{Stmt}
use Rattle.gr_syntax.specs.declared.syntax.Stmt.TheVariants as st
use Rattle.gr_syntax.specs.declared.syntax.Stmt.TheOpen.{Stmt-F}
use Rattle.gr_syntax.specs.declared.syntax.Stmt.TheFolds.{fold-roll-Stmt}
use Rattle.gr_text.specs.declared.token.Keyword.TheVariants as k
use Rattle.gr_text.specs.declared.token.Sign.TheVariants as s
use Rattle.gr_expressions.specs.Tok.{level_of}
use Rattle.gr_print.specs.Pieces.{Piece, Layout, name, number, sign, key}
use Rattle.gr_print.specs.Layout.{Shown, shown, expr_step, below, bracketed, joined, expr, call, block, else_part, assignment, start, started, range, stmt, stmt_step}

-- ---- expressions

pub shown_lit : (v : Number) → shown (e.Lit v) ≡ record { rank = 0; bare = number v ∷ [] }
unfolding shown
shown_lit v = ap shown (sym (e.rolls-Lit v)) ∙ fold-roll-Expr Shown expr_step (Expr-F.Lit v)

pub shown_local : (v : Name) → shown (e.Local v) ≡ record { rank = 0; bare = name v ∷ [] }
unfolding shown
shown_local v = ap shown (sym (e.rolls-Local v)) ∙ fold-roll-Expr Shown expr_step (Expr-F.Local v)

pub shown_not : (x : Expr) → shown (e.Not x) ≡ record { rank = 0; bare = sign s.Bang ∷ below 0 (shown x) }
unfolding shown
shown_not x = ap shown (sym (e.rolls-Not x)) ∙ fold-roll-Expr Shown expr_step (Expr-F.Not x)

pub shown_two : (o : BinOp) (x y : Expr) → shown (e.Two o x y) ≡ record { rank = suc (level_of o); bare = joined o (shown x) (shown y) }
unfolding shown
shown_two o x y = ap shown (sym (e.rolls-Two o x y)) ∙ fold-roll-Expr Shown expr_step (Expr-F.Two o x y)

-- Low enough: no brackets.
pub below_bare : (l : ℕ) (x : Shown) → x.rank ≤ l → below l x ≡ x.bare
below_bare l x h = let v : leb x.rank l ≡ true = grind arith in ap (λ (w : Bool). cond w x.bare (bracketed x.bare)) v

-- Too loose: brackets.
pub below_more : (l : ℕ) (x : Shown) → l < x.rank → below l x ≡ bracketed x.bare
below_more l x h = let v : leb x.rank l ≡ false = grind arith in ap (λ (w : Bool). cond w x.bare (bracketed x.bare)) v

pub below_lit : (l : ℕ) (v : Number) → below l (shown (e.Lit v)) ≡ number v ∷ []
below_lit l v = ap (below l) (shown_lit v) ∙ below_bare l (record { rank = 0; bare = number v ∷ [] }) (omega arith)

pub below_local : (l : ℕ) (v : Name) → below l (shown (e.Local v)) ≡ name v ∷ []
below_local l v = ap (below l) (shown_local v) ∙ below_bare l (record { rank = 0; bare = name v ∷ [] }) (omega arith)

pub below_not : (l : ℕ) (x : Expr) → below l (shown (e.Not x)) ≡ sign s.Bang ∷ below 0 (shown x)
below_not l x = ap (below l) (shown_not x) ∙ below_bare l (record { rank = 0; bare = sign s.Bang ∷ below 0 (shown x) }) (omega arith)

pub below_two : (l : ℕ) (o : BinOp) (x y : Expr) → level_of o < l → below l (shown (e.Two o x y)) ≡ joined o (shown x) (shown y)
below_two l o x y h = ap (below l) (shown_two o x y) ∙ below_bare l (record { rank = suc (level_of o); bare = joined o (shown x) (shown y) }) (omega arith)

pub below_two_grouped : (l : ℕ) (o : BinOp) (x y : Expr) → l ≤ level_of o → below l (shown (e.Two o x y)) ≡ bracketed (joined o (shown x) (shown y))
below_two_grouped l o x y h = ap (below l) (shown_two o x y) ∙ below_more l (record { rank = suc (level_of o); bare = joined o (shown x) (shown y) }) (omega arith)

-- ---- statements

pub stmt_set : (fresh : Bool) (ns : List Name) (r : Right) (m : ℕ) → stmt (st.Set1 fresh ns r) m ≡ assignment fresh ns r
unfolding stmt
stmt_set fresh ns r m = ap (λ (f : ℕ → Layout). f m) (ap stmt (sym (st.rolls-Set1 fresh ns r)) ∙ fold-roll-Stmt (ℕ → Layout) stmt_step (Stmt-F.Set1 fresh ns r))

pub stmt_do : (c : CallText) (m : ℕ) → stmt (st.Do c) m ≡ call c ++ sign s.Semicolon ∷ []
unfolding stmt
stmt_do c m = ap (λ (f : ℕ → Layout). f m) (ap stmt (sym (st.rolls-Do c)) ∙ fold-roll-Stmt (ℕ → Layout) stmt_step (Stmt-F.Do c))

pub stmt_print : (x : Expr) (m : ℕ) → stmt (st.Print x) m ≡ key k.Print ∷ Piece.blank ∷ (expr x ++ sign s.Semicolon ∷ [])
unfolding stmt
stmt_print x m = ap (λ (f : ℕ → Layout). f m) (ap stmt (sym (st.rolls-Print x)) ∙ fold-roll-Stmt (ℕ → Layout) stmt_step (Stmt-F.Print x))

pub stmt_if : (x : Expr) (xs ys : List Stmt) (m : ℕ) → stmt (st.If x xs ys) m ≡ key k.If ∷ Piece.blank ∷ (expr x ++ (Piece.blank ∷ (block (map stmt xs) m ++ else_part (map stmt ys) m)))
unfolding stmt
stmt_if x xs ys m = ap (λ (f : ℕ → Layout). f m) (ap stmt (sym (st.rolls-If x xs ys)) ∙ fold-roll-Stmt (ℕ → Layout) stmt_step (Stmt-F.If x xs ys))

pub stmt_while : (x : Expr) (xs : List Stmt) (m : ℕ) → stmt (st.While x xs) m ≡ key k.While ∷ Piece.blank ∷ (expr x ++ (Piece.blank ∷ block (map stmt xs) m))
unfolding stmt
stmt_while x xs m = ap (λ (f : ℕ → Layout). f m) (ap stmt (sym (st.rolls-While x xs)) ∙ fold-roll-Stmt (ℕ → Layout) stmt_step (Stmt-F.While x xs))

pub stmt_finish : (xs : List Stmt) (m : ℕ) → stmt (st.Finish xs) m ≡ key k.Finish ∷ Piece.blank ∷ block (map stmt xs) m
unfolding stmt
stmt_finish xs m = ap (λ (f : ℕ → Layout). f m) (ap stmt (sym (st.rolls-Finish xs)) ∙ fold-roll-Stmt (ℕ → Layout) stmt_step (Stmt-F.Finish xs))

pub stmt_spawn : (h : HowText) (n : Name) (xs : List Expr) (m : ℕ) → stmt (st.Spawn h n xs) m ≡ start h ++ started n xs
unfolding stmt
stmt_spawn h n xs m = ap (λ (f : ℕ → Layout). f m) (ap stmt (sym (st.rolls-Spawn h n xs)) ∙ fold-roll-Stmt (ℕ → Layout) stmt_step (Stmt-F.Spawn h n xs))

pub stmt_forall : (lo hi grain : Expr) (n : Name) (xs : List Expr) (m : ℕ) → stmt (st.Forall lo hi grain n xs) m ≡ range lo hi grain ++ started n xs
unfolding stmt
stmt_forall lo hi grain n xs m = ap (λ (f : ℕ → Layout). f m) (ap stmt (sym (st.rolls-Forall lo hi grain n xs)) ∙ fold-roll-Stmt (ℕ → Layout) stmt_step (Stmt-F.Forall lo hi grain n xs))
