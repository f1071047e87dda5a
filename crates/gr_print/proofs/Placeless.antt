-- Layouts don't depend on places.
use Rattle.std.proofs.Common.{◌≡◌, ℕ, suc, ◌+◌, Bool, List, [], ◌∷◌, ◌++◌, map, replicate, Option, Some, None, refl, sym, ap, ◌∙◌}
use Rattle.std.specs.Option.{option_map}
use Rattle.gr_syntax.specs.declared.syntax.Name.{Name}
use Rattle.gr_syntax.specs.declared.syntax.Number.{Number}
use Rattle.gr_syntax.specs.declared.syntax.BinOp.{BinOp}
use Rattle.gr_syntax.specs.declared.syntax.Expr.{Expr}
use Rattle.gr_syntax.specs.declared.syntax.Expr.TheVariants as e
use Rattle.gr_syntax.specs.declared.syntax.CallText.{CallText}
use Rattle.gr_syntax.specs.declared.syntax.Right.{Right}
use Rattle.gr_syntax.specs.declared.syntax.Right.TheVariants as right
use Rattle.gr_syntax.specs.declared.syntax.HowText.{HowText}
use Rattle.gr_syntax.specs.declared.syntax.HowText.TheVariants as how
use Rattle.gr_syntax.specs.declared.syntax.Stmt.{Stmt}
use Rattle.gr_syntax.specs.declared.syntax.Stmt.TheVariants as st
use Rattle.gr_syntax.specs.declared.syntax.Item.{Item}
use Rattle.gr_syntax.specs.declared.syntax.Item.TheVariants as items
use Rattle.gr_text.specs.declared.token.Keyword.TheVariants as k
use Rattle.gr_text.specs.declared.token.Sign.TheVariants as s
use Rattle.gr_expressions.specs.Tok.{level_of}
use Rattle.gr_print.specs.Unplaced.{unplaced_name, unplaced_number, unplaced_expr, unplaced_call, unplaced_right, unplaced_how, unplaced_stmt, unplaced_item}
use Rattle.gr_print.specs.Pieces.{Piece, Layout, name, number, key, sign, object}
use Rattle.gr_print.specs.Layout.{Shown, listed, names, numbers, shown, below, joined, whole, expr, exprs, args, reducer, call, right_side, start, started, range, assignment, line, lines, block, else_part, stmt, item, task, program}
use Rattle.gr_print.proofs.Inductions.{all_exprs, EachOf, all_stmts}
use Rattle.gr_print.proofs.Layouts.{shown_lit, shown_local, shown_not, shown_two, stmt_set, stmt_do, stmt_print, stmt_if, stmt_while, stmt_finish, stmt_spawn, stmt_forall}
use Rattle.gr_print.proofs.Samenesses.{bare_lit, bare_local, bare_not, bare_two, bare_set, bare_do, bare_print, bare_if, bare_while, bare_finish, bare_spawn, bare_forall}

maps_same : {A B : Type 0} (f : A → B) (g : A → A) → ((x : A) → f (g x) ≡ f x) → (xs : List A) → map f (map g xs) ≡ map f xs
maps_same f g h [] = refl
maps_same f g h (x ∷ xs) = ap (λ y. y ∷ map f (map g xs)) (h x) ∙ ap (λ ys. f x ∷ ys) (maps_same f g h xs)

-- ---- expressions

not_same : (x : Expr) → shown (unplaced_expr x) ≡ shown x → shown (unplaced_expr (e.Not x)) ≡ shown (e.Not x)
not_same x h =
    let made = λ (w : Shown). let v : Shown = record { rank = 0; bare = sign s.Bang ∷ below 0 w } in v in
    ap shown (bare_not x) ∙ shown_not (unplaced_expr x) ∙ ap made h ∙ sym (shown_not x)

two_same : (o : BinOp) (x y : Expr) → shown (unplaced_expr x) ≡ shown x → shown (unplaced_expr y) ≡ shown y → shown (unplaced_expr (e.Two o x y)) ≡ shown (e.Two o x y)
two_same o x y h k =
    let made = λ (v w : Shown). let u : Shown = record { rank = suc (level_of o); bare = joined o v w } in u in
    ap shown (bare_two o x y) ∙ shown_two o (unplaced_expr x) (unplaced_expr y) ∙ ap (λ (v : Shown). made v (shown (unplaced_expr y))) h ∙ ap (λ (w : Shown). made (shown x) w) k ∙ sym (shown_two o x y)

shown_same : (x : Expr) → shown (unplaced_expr x) ≡ shown x
shown_same = all_exprs (λ x. shown (unplaced_expr x) ≡ shown x) (record {
  lit = λ v. ap shown (bare_lit v) ∙ shown_lit (unplaced_number v) ∙ sym (shown_lit v);
  local = λ v. ap shown (bare_local v) ∙ shown_local (unplaced_name v) ∙ sym (shown_local v);
  not = not_same;
  two = two_same;
})

expr_same : (x : Expr) → expr (unplaced_expr x) ≡ expr x
expr_same x = ap (below whole) (shown_same x)

exprs_same : (xs : List Expr) → exprs (map unplaced_expr xs) ≡ exprs xs
exprs_same xs = ap listed (maps_same expr unplaced_expr expr_same xs)

args_same : (xs : List Expr) → args (map unplaced_expr xs) ≡ args xs
args_same xs = ap (λ (ps : Layout). sign s.LeftParen ∷ (ps ++ sign s.RightParen ∷ [])) (exprs_same xs)

names_same : (ns : List Name) → names (map unplaced_name ns) ≡ names ns
names_same ns = ap listed (maps_same (λ n. name n ∷ []) unplaced_name (λ n. refl) ns)

numbers_same : (ns : List Number) → numbers (map unplaced_number ns) ≡ numbers ns
numbers_same ns = ap listed (maps_same (λ n. number n ∷ []) unplaced_number (λ n. refl) ns)

reducer_same : (r : Option Name) → reducer (option_map unplaced_name r) ≡ reducer r
reducer_same None = refl
reducer_same (Some n) = refl

call_same : (c : CallText) → call (unplaced_call c) ≡ call c
call_same c =
    ap (λ (ps : Layout). object c.object ∷ sign s.Dot ∷ name c.op ∷ (ps ++ args (map unplaced_expr c.args))) (reducer_same c.reducer)
    ∙ ap (λ (ps : Layout). object c.object ∷ sign s.Dot ∷ name c.op ∷ (reducer c.reducer ++ ps)) (args_same c.args)

-- ---- statements

right_same : (r : Right) → right_side (unplaced_right r) ≡ right_side r
right_same (right.Value x) = expr_same x
right_same (right.Result c) = call_same c

start_same : (w : HowText) → start (unplaced_how w) ≡ start w
start_same how.Here = refl
start_same (how.At x) = ap (λ (ps : Layout). key k.Spawn ∷ Piece.blank ∷ key k.At ∷ Piece.blank ∷ ps) (expr_same x)
start_same how.Offer = refl

assignment_same : (fresh : Bool) (ns : List Name) (r : Right) → assignment fresh (map unplaced_name ns) (unplaced_right r) ≡ assignment fresh ns r
assignment_same fresh ns r = let a = names_same ns in let b = right_same r in cc

started_same : (n : Name) (xs : List Expr) → started (unplaced_name n) (map unplaced_expr xs) ≡ started n xs
started_same n xs = ap (λ (ps : Layout). Piece.blank ∷ name n ∷ (ps ++ sign s.Semicolon ∷ [])) (args_same xs)

range_same : (lo hi grain : Expr) → range (unplaced_expr lo) (unplaced_expr hi) (unplaced_expr grain) ≡ range lo hi grain
range_same lo hi grain = let a = expr_same lo in let b = expr_same hi in let c = expr_same grain in cc

-- The statement's layout is the same at each margin.
abbrev Same : Stmt → Type 0
Same x = (m : ℕ) → stmt (unplaced_stmt x) m ≡ stmt x m

lines_same : (xs : List Stmt) → EachOf Same xs → (m : ℕ) → lines (map stmt (map unplaced_stmt xs)) m ≡ lines (map stmt xs) m
lines_same [] h m = refl
lines_same (x ∷ xs) h m = ap (λ (ps : Layout). line m ps ++ lines (map stmt (map unplaced_stmt xs)) m) (h.0 m) ∙ ap (λ (ps : Layout). line m (stmt x m) ++ ps) (lines_same xs h.1 m)

block_same : (xs : List Stmt) → EachOf Same xs → (m : ℕ) → block (map stmt (map unplaced_stmt xs)) m ≡ block (map stmt xs) m
block_same xs h m = ap (λ (ps : Layout). sign s.LeftBrace ∷ Piece.newline ∷ (ps ++ (replicate m Piece.blank ++ sign s.RightBrace ∷ []))) (lines_same xs h (m + 2))

else_same : (xs : List Stmt) → EachOf Same xs → (m : ℕ) → else_part (map stmt (map unplaced_stmt xs)) m ≡ else_part (map stmt xs) m
else_same [] h m = refl
else_same (x ∷ xs) h m = ap (λ (ps : Layout). Piece.blank ∷ key k.Else ∷ Piece.blank ∷ ps) (block_same (x ∷ xs) h m)

-- A statement's layout, by what it is without its places.
same_by : (m : ℕ) (x y : Stmt) (ps qs : Layout) → unplaced_stmt x ≡ y → stmt y m ≡ ps → stmt x m ≡ qs → ps ≡ qs → stmt (unplaced_stmt x) m ≡ stmt x m
same_by m x y ps qs e f h g = ap (λ (z : Stmt). stmt z m) e ∙ f ∙ g ∙ sym h

if_same : (x : Expr) (xs ys : List Stmt) → EachOf Same xs → EachOf Same ys → Same (st.If x xs ys)
if_same x xs ys h k m =
    let a = expr_same x in
    let b = block_same xs h m in
    let c = else_same ys k m in
    same_by m (st.If x xs ys) _ _ _ (bare_if x xs ys) (stmt_if (unplaced_expr x) (map unplaced_stmt xs) (map unplaced_stmt ys) m) (stmt_if x xs ys m) cc

while_same : (x : Expr) (xs : List Stmt) → EachOf Same xs → Same (st.While x xs)
while_same x xs h m =
    let a = expr_same x in
    let b = block_same xs h m in
    same_by m (st.While x xs) _ _ _ (bare_while x xs) (stmt_while (unplaced_expr x) (map unplaced_stmt xs) m) (stmt_while x xs m) cc

stmt_same : (x : Stmt) → Same x
stmt_same = all_stmts Same (record {
  set = λ fresh ns r m. same_by m (st.Set1 fresh ns r) _ _ _ (bare_set fresh ns r) (stmt_set fresh (map unplaced_name ns) (unplaced_right r) m) (stmt_set fresh ns r m) (assignment_same fresh ns r);
  call = λ c m. same_by m (st.Do c) _ _ _ (bare_do c) (stmt_do (unplaced_call c) m) (stmt_do c m) (ap (λ (ps : Layout). ps ++ sign s.Semicolon ∷ []) (call_same c));
  print = λ x m. same_by m (st.Print x) _ _ _ (bare_print x) (stmt_print (unplaced_expr x) m) (stmt_print x m) (ap (λ (ps : Layout). key k.Print ∷ Piece.blank ∷ (ps ++ sign s.Semicolon ∷ [])) (expr_same x));
  if_else = if_same;
  while_loop = while_same;
  finish = λ xs h m. same_by m (st.Finish xs) _ _ _ (bare_finish xs) (stmt_finish (map unplaced_stmt xs) m) (stmt_finish xs m) (ap (λ (ps : Layout). key k.Finish ∷ Piece.blank ∷ ps) (block_same xs h m));
  spawn = λ w n xs m. same_by m (st.Spawn w n xs) _ _ _ (bare_spawn w n xs) (stmt_spawn (unplaced_how w) (unplaced_name n) (map unplaced_expr xs) m)
      (stmt_spawn w n xs m) (ap (λ (ps : Layout). ps ++ started (unplaced_name n) (map unplaced_expr xs)) (start_same w) ∙ ap (λ (ps : Layout). start w ++ ps) (started_same n xs));
  forall_loop = λ lo hi grain n xs m. same_by m (st.Forall lo hi grain n xs) _ _ _ (bare_forall lo hi grain n xs) (stmt_forall (unplaced_expr lo) (unplaced_expr hi) (unplaced_expr grain) (unplaced_name n) (map unplaced_expr xs) m)
      (stmt_forall lo hi grain n xs m) (ap (λ (ps : Layout). ps ++ started (unplaced_name n) (map unplaced_expr xs)) (range_same lo hi grain) ∙ ap (λ (ps : Layout). range lo hi grain ++ ps) (started_same n xs));
})

each_same : (xs : List Stmt) → EachOf Same xs
each_same [] = tt
each_same (x ∷ xs) = (stmt_same x, each_same xs)

-- ---- items

task_same : (n : Name) (ps : List Name) (xs : List Stmt) → task (unplaced_name n) (map unplaced_name ps) (map unplaced_stmt xs) ≡ task n ps xs
task_same n ps xs = let a = names_same ps in let b = block_same xs (each_same xs) 0 in cc

item_same : (x : Item) → item (unplaced_item x) ≡ item x
item_same (items.Array n w) = refl
item_same (items.Set n) = refl
item_same (items.Map n) = refl
item_same (items.Vector n) = refl
item_same (items.Heap w) = refl
item_same (items.Show n) = refl
item_same (items.Input n ws) = ap (λ (ps : Layout). key k.Input ∷ Piece.blank ∷ name n ∷ Piece.blank ∷ sign s.Assign ∷ Piece.blank ∷ (ps ++ sign s.Semicolon ∷ [])) (numbers_same ws)
item_same (items.Task n ps xs) = task_same n ps xs

-- A program is laid out as without its places.
pub program_same : (xs : List Item) → program (map unplaced_item xs) ≡ program xs
program_same [] = refl
program_same (x ∷ xs) = ap (λ (ps : Layout). line 0 ps ++ program (map unplaced_item xs)) (item_same x) ∙ ap (λ (ps : Layout). line 0 (item x) ++ ps) (program_same xs)
