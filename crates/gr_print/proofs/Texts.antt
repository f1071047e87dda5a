-- The bytes of layouts.
use Rattle.std.proofs.Common.{◌≡◌, ℕ, zero, suc, Bool, true, false, nat_le, ◌+◌, List, [], ◌∷◌, ◌++◌, map, replicate, refl, sym, ap, ◌∙◌, append_assoc, arith}
use Rattle.std.proofs.lemmas.List.{append-nil}
use Rattle.std.specs.Fmt.{decimal}
use Rattle.std.specs.Prelude.{codes, if◌then◌else◌}
use Rattle.std.specs.Str.{bytes_eq}
use Rattle.std.proofs.lemmas.Slice.Eq.{bytes_eq-Decides}
use Rattle.gr_syntax.specs.declared.syntax.Name.{Name}
use Rattle.gr_syntax.specs.declared.syntax.Number.{Number}
use Rattle.gr_syntax.specs.declared.syntax.BinOp.{BinOp}
use Rattle.gr_syntax.specs.declared.syntax.Expr.{Expr}
use Rattle.gr_syntax.specs.declared.syntax.Expr.TheVariants as e
use Rattle.gr_syntax.specs.declared.syntax.CallText.{CallText}
use Rattle.gr_syntax.specs.declared.syntax.Right.{Right}
use Rattle.gr_syntax.specs.declared.syntax.HowText.{HowText}
use Rattle.gr_syntax.specs.declared.syntax.Stmt.{Stmt}
use Rattle.gr_syntax.specs.declared.syntax.Stmt.TheVariants as st
use Rattle.gr_text.specs.declared.token.Sign.TheVariants as s
use Rattle.gr_text.specs.Spelling.{sign_bytes}
use Rattle.gr_expressions.specs.Tok.{Tok, sign_of, level_of}
use Rattle.gr_print.specs.Unplaced.{nowhere, unplaced_name}
use Rattle.gr_print.specs.Pieces.{Piece, Layout, token_bytes, piece_bytes, bytes_of, sign, object}
use Rattle.gr_print.specs.Layout.{Shown, names, numbers, shown, below, bracket, joined, left_level, expr, exprs, args, reducer, call, right_side, let_word, assignment, start, started, range, stmt, line, lines, block, else_part, input, task}
use Rattle.gr_print.proofs.Layouts.{below_lit, below_local, below_not, below_two, below_two_grouped, stmt_set, stmt_do, stmt_print, stmt_if, stmt_while, stmt_finish, stmt_spawn, stmt_forall}

pub bytes_of-append : (ps qs : Layout) → bytes_of (ps ++ qs) ≡ bytes_of ps ++ bytes_of qs
bytes_of-append [] qs = refl
bytes_of-append (p ∷ ps) qs = ap (λ (bytes : List ℕ). piece_bytes p ++ bytes) (bytes_of-append ps qs) ∙ sym (append_assoc (piece_bytes p) (bytes_of ps) (bytes_of qs))

-- A margin.
pub bytes_of-blanks : (n : ℕ) → bytes_of (replicate n Piece.blank) ≡ replicate n 32
bytes_of-blanks zero = refl
bytes_of-blanks (suc n) = ap (λ (bytes : List ℕ). 32 ∷ bytes) (bytes_of-blanks n)

-- ---- expressions

pub text_lit : (l : ℕ) (v : Number) (x : Expr) → x ≡ e.Lit v → bytes_of (below l (shown x)) ≡ decimal v.value
text_lit l v x h = ap (λ (y : Expr). bytes_of (below l (shown y))) h ∙ ap bytes_of (below_lit l v) ∙ append-nil (decimal v.value)

pub text_local : (l : ℕ) (v : Name) (x : Expr) → x ≡ e.Local v → bytes_of (below l (shown x)) ≡ v.text
text_local l v x h = ap (λ (y : Expr). bytes_of (below l (shown y))) h ∙ ap bytes_of (below_local l v) ∙ append-nil v.text

pub text_not : (l : ℕ) (y x : Expr) → x ≡ e.Not y → bytes_of (below l (shown x)) ≡ 33 ∷ bytes_of (below 0 (shown y))
text_not l y x h = ap (λ (z : Expr). bytes_of (below l (shown z))) h ∙ ap bytes_of (below_not l y)

text_joined : (o : BinOp) (x y : Shown) → bytes_of (joined o x y) ≡ bytes_of (below (left_level (level_of o)) x) ++ (32 ∷ (sign_bytes (sign_of o) ++ (32 ∷ bytes_of (below (level_of o) y))))
text_joined o x y = bytes_of-append (below (left_level (level_of o)) x) (Piece.blank ∷ sign (sign_of o) ∷ Piece.blank ∷ below (level_of o) y)

text_grouped : (l : ℕ) (o : BinOp) (y z x : Expr) (g : Bool) → x ≡ e.Two o y z → g ≡ nat_le l (level_of o)
    → bytes_of (below l (shown x)) ≡ bytes_of (bracket g s.LeftParen) ++ (bytes_of (joined o (shown y) (shown z)) ++ bytes_of (bracket g s.RightParen))
text_grouped l o y z x true h k =
    ap (λ (w : Expr). bytes_of (below l (shown w))) h ∙ ap bytes_of (below_two_grouped l o y z (grind arith))
    ∙ ap (λ (bytes : List ℕ). 40 ∷ bytes) (bytes_of-append (joined o (shown y) (shown z)) (sign s.RightParen ∷ []))
text_grouped l o y z x false h k =
    ap (λ (w : Expr). bytes_of (below l (shown w))) h ∙ ap bytes_of (below_two l o y z (grind arith)) ∙ sym (append-nil (bytes_of (joined o (shown y) (shown z))))

-- Two operands, with brackets around them or without.
pub text_two : (l : ℕ) (o : BinOp) (y z x : Expr) → x ≡ e.Two o y z
    → bytes_of (below l (shown x)) ≡ bytes_of (bracket (nat_le l (level_of o)) s.LeftParen) ++ (bytes_of (below (left_level (level_of o)) (shown y))
    ++ (32 ∷ (sign_bytes (sign_of o) ++ (32 ∷ (bytes_of (below (level_of o) (shown z)) ++ bytes_of (bracket (nat_le l (level_of o)) s.RightParen))))))
text_two l o y z x h =
    let end = bytes_of (bracket (nat_le l (level_of o)) s.RightParen) in
    text_grouped l o y z x (nat_le l (level_of o)) h refl
    ∙ ap (λ (bytes : List ℕ). bytes_of (bracket (nat_le l (level_of o)) s.LeftParen) ++ (bytes ++ end)) (text_joined o (shown y) (shown z))
    ∙ ap (λ (bytes : List ℕ). bytes_of (bracket (nat_le l (level_of o)) s.LeftParen) ++ bytes)
    (append_assoc (bytes_of (below (left_level (level_of o)) (shown y))) (32 ∷ (sign_bytes (sign_of o) ++ (32 ∷ bytes_of (below (level_of o) (shown z))))) end
    ∙ ap (λ (bytes : List ℕ). bytes_of (below (left_level (level_of o)) (shown y)) ++ (32 ∷ bytes)) (append_assoc (sign_bytes (sign_of o)) (32 ∷ bytes_of (below (level_of o) (shown z))) end))

-- ---- lists, arguments and calls

pub text_args : (xs : List Expr) → bytes_of (args xs) ≡ 40 ∷ (bytes_of (exprs xs) ++ 41 ∷ [])
text_args xs = ap (λ (bytes : List ℕ). 40 ∷ bytes) (bytes_of-append (exprs xs) (sign s.RightParen ∷ []))

text_object : (n : Name) → piece_bytes (object n) ≡ n.text
text_object n = by (bytes_eq n.text (codes "heap")) refl
  where
    by : (v : Bool) → bytes_eq n.text (codes "heap") ≡ v → token_bytes (if v then Tok.heap nowhere else Tok.name (unplaced_name n)) ≡ n.text
    by true h = sym ((bytes_eq-Decides n.text (codes "heap")).0 h)
    by false h = refl

pub text_call : (c : CallText) → bytes_of (call c) ≡ c.object.text ++ (46 ∷ (c.op.text ++ (bytes_of (reducer c.reducer) ++ bytes_of (args c.args))))
text_call c = ap (λ (bytes : List ℕ). bytes ++ (46 ∷ (c.op.text ++ bytes_of (reducer c.reducer ++ args c.args)))) (text_object c.object)
    ∙ ap (λ (bytes : List ℕ). c.object.text ++ (46 ∷ (c.op.text ++ bytes))) (bytes_of-append (reducer c.reducer) (args c.args))

-- ---- statements

pub text_assignment : (fresh : Bool) (ns : List Name) (r : Right) → bytes_of (assignment fresh ns r) ≡ bytes_of (let_word fresh) ++ (bytes_of (names ns) ++ (32 ∷ 61 ∷ 32 ∷ (bytes_of (right_side r) ++ 59 ∷ [])))
text_assignment fresh ns r = simp bytes_of-append

pub text_started : (n : Name) (xs : List Expr) → bytes_of (started n xs) ≡ 32 ∷ (n.text ++ (bytes_of (args xs) ++ 59 ∷ []))
text_started n xs = ap (λ (bytes : List ℕ). 32 ∷ (n.text ++ bytes)) (bytes_of-append (args xs) (sign s.Semicolon ∷ []))

pub text_range : (lo hi grain : Expr) → bytes_of (range lo hi grain) ≡ codes "forall " ++ (bytes_of (expr lo) ++ (codes " .. " ++ (bytes_of (expr hi) ++ (codes " grain " ++ bytes_of (expr grain)))))
text_range lo hi grain = simp bytes_of-append

pub text_set : (fresh : Bool) (ns : List Name) (r : Right) (x : Stmt) (m : ℕ) → x ≡ st.Set1 fresh ns r → bytes_of (stmt x m) ≡ bytes_of (assignment fresh ns r)
text_set fresh ns r x m h = ap (λ (y : Stmt). bytes_of (stmt y m)) h ∙ ap bytes_of (stmt_set fresh ns r m)

pub text_do : (c : CallText) (x : Stmt) (m : ℕ) → x ≡ st.Do c → bytes_of (stmt x m) ≡ bytes_of (call c) ++ 59 ∷ []
text_do c x m h = ap (λ (y : Stmt). bytes_of (stmt y m)) h ∙ ap bytes_of (stmt_do c m) ∙ bytes_of-append (call c) (sign s.Semicolon ∷ [])

pub text_print : (v : Expr) (x : Stmt) (m : ℕ) → x ≡ st.Print v → bytes_of (stmt x m) ≡ codes "print " ++ (bytes_of (expr v) ++ 59 ∷ [])
text_print v x m h = ap (λ (y : Stmt). bytes_of (stmt y m)) h ∙ ap bytes_of (stmt_print v m) ∙ ap (λ (bytes : List ℕ). codes "print " ++ bytes) (bytes_of-append (expr v) (sign s.Semicolon ∷ []))

pub text_if : (v : Expr) (xs ys : List Stmt) (x : Stmt) (m : ℕ) → x ≡ st.If v xs ys
    → bytes_of (stmt x m) ≡ codes "if " ++ (bytes_of (expr v) ++ (32 ∷ (bytes_of (block (map stmt xs) m) ++ bytes_of (else_part (map stmt ys) m))))
text_if v xs ys x m h = ap (λ (y : Stmt). bytes_of (stmt y m)) h ∙ ap bytes_of (stmt_if v xs ys m)
    ∙ ap (λ (bytes : List ℕ). codes "if " ++ bytes) (bytes_of-append (expr v) (Piece.blank ∷ (block (map stmt xs) m ++ else_part (map stmt ys) m))
    ∙ ap (λ (bytes : List ℕ). bytes_of (expr v) ++ (32 ∷ bytes)) (bytes_of-append (block (map stmt xs) m) (else_part (map stmt ys) m)))

pub text_while : (v : Expr) (xs : List Stmt) (x : Stmt) (m : ℕ) → x ≡ st.While v xs → bytes_of (stmt x m) ≡ codes "while " ++ (bytes_of (expr v) ++ (32 ∷ bytes_of (block (map stmt xs) m)))
text_while v xs x m h = ap (λ (y : Stmt). bytes_of (stmt y m)) h ∙ ap bytes_of (stmt_while v xs m)
    ∙ ap (λ (bytes : List ℕ). codes "while " ++ bytes) (bytes_of-append (expr v) (Piece.blank ∷ block (map stmt xs) m))

pub text_finish : (xs : List Stmt) (x : Stmt) (m : ℕ) → x ≡ st.Finish xs → bytes_of (stmt x m) ≡ codes "finish " ++ bytes_of (block (map stmt xs) m)
text_finish xs x m h = ap (λ (y : Stmt). bytes_of (stmt y m)) h ∙ ap bytes_of (stmt_finish xs m)

pub text_spawn : (w : HowText) (n : Name) (xs : List Expr) (x : Stmt) (m : ℕ) → x ≡ st.Spawn w n xs → bytes_of (stmt x m) ≡ bytes_of (start w) ++ bytes_of (started n xs)
text_spawn w n xs x m h = ap (λ (y : Stmt). bytes_of (stmt y m)) h ∙ ap bytes_of (stmt_spawn w n xs m) ∙ bytes_of-append (start w) (started n xs)

pub text_forall : (lo hi grain : Expr) (n : Name) (xs : List Expr) (x : Stmt) (m : ℕ) → x ≡ st.Forall lo hi grain n xs → bytes_of (stmt x m) ≡ bytes_of (range lo hi grain) ++ bytes_of (started n xs)
text_forall lo hi grain n xs x m h = ap (λ (y : Stmt). bytes_of (stmt y m)) h ∙ ap bytes_of (stmt_forall lo hi grain n xs m) ∙ bytes_of-append (range lo hi grain) (started n xs)

-- Behind a margin.
text_behind : (m : ℕ) (ps : Layout) → bytes_of (replicate m Piece.blank ++ ps) ≡ replicate m 32 ++ bytes_of ps
text_behind m ps = bytes_of-append (replicate m Piece.blank) ps ∙ ap (λ (bytes : List ℕ). bytes ++ bytes_of ps) (bytes_of-blanks m)

pub text_block : (fs : List (ℕ → Layout)) (m : ℕ) → bytes_of (block fs m) ≡ 123 ∷ 10 ∷ (bytes_of (lines fs (m + 2)) ++ (replicate m 32 ++ 125 ∷ []))
text_block fs m = ap (λ (bytes : List ℕ). 123 ∷ 10 ∷ bytes) (bytes_of-append (lines fs (m + 2)) (replicate m Piece.blank ++ sign s.RightBrace ∷ [])
    ∙ ap (λ (bytes : List ℕ). bytes_of (lines fs (m + 2)) ++ bytes) (text_behind m (sign s.RightBrace ∷ [])))

pub text_line : (m : ℕ) (ps qs : Layout) → bytes_of (line m ps ++ qs) ≡ replicate m 32 ++ (bytes_of ps ++ (10 ∷ bytes_of qs))
text_line m ps qs = ap bytes_of (append_assoc (replicate m Piece.blank) (ps ++ Piece.newline ∷ []) qs) ∙ text_behind m ((ps ++ Piece.newline ∷ []) ++ qs)
    ∙ ap (λ (bytes : List ℕ). replicate m 32 ++ bytes) (ap bytes_of (append_assoc ps (Piece.newline ∷ []) qs) ∙ bytes_of-append ps (Piece.newline ∷ qs))

-- ---- items

pub text_input : (n : Name) (ws : List Number) → bytes_of (input n ws) ≡ codes "input " ++ (n.text ++ (codes " = " ++ (bytes_of (numbers ws) ++ 59 ∷ [])))
text_input n ws = ap (λ (bytes : List ℕ). codes "input " ++ (n.text ++ (codes " = " ++ bytes))) (bytes_of-append (numbers ws) (sign s.Semicolon ∷ []))

pub text_task : (n : Name) (ps : List Name) (xs : List Stmt) → bytes_of (task n ps xs) ≡ codes "task " ++ (n.text ++ (40 ∷ (bytes_of (names ps) ++ (41 ∷ 32 ∷ bytes_of (block (map stmt xs) 0)))))
text_task n ps xs = ap (λ (bytes : List ℕ). codes "task " ++ (n.text ++ (40 ∷ bytes))) (bytes_of-append (names ps) (sign s.RightParen ∷ Piece.blank ∷ block (map stmt xs) 0))

pub ruleset expressions = (text_lit, text_local, text_not, text_two)
