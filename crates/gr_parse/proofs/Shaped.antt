-- The assignments of each text have as many targets as the grammar gives them.
use Rattle.std.proofs.Common.{◌≡◌, ℕ, Bool, true, false, ◌&&◌, List, [], ◌∷◌, refl, sym, ap, ◌∙◌}
use Rattle.std.specs.List.{list_all}
use Rattle.std.specs.Prelude.{map}
use Rattle.gr_meets.specs.Lists.{Repeated}
use Rattle.gr_syntax.specs.declared.syntax.Name.{Name}
use Rattle.gr_syntax.specs.declared.syntax.Expr.{Expr}
use Rattle.gr_syntax.specs.declared.syntax.CallText.{CallText}
use Rattle.gr_syntax.specs.declared.syntax.Right.{Right}
use Rattle.gr_syntax.specs.declared.syntax.Right.TheVariants as right
use Rattle.gr_syntax.specs.declared.syntax.HowText.{HowText}
use Rattle.gr_syntax.specs.declared.syntax.Stmt.{Stmt}
use Rattle.gr_syntax.specs.declared.syntax.Stmt.TheVariants as st
use Rattle.gr_syntax.specs.declared.syntax.Stmt.TheOpen.{Stmt-F}
use Rattle.gr_syntax.specs.declared.syntax.Stmt.TheFolds.{fold-roll-Stmt}
use Rattle.gr_syntax.specs.declared.syntax.Item.{Item}
use Rattle.gr_syntax.specs.declared.syntax.Program.{Program}
use Rattle.gr_syntax.specs.Targets.{fit, fit_step, stmt_fits, item_fits, targets_fit}
use Rattle.gr_expressions.specs.Tok.{Toks}
use Rattle.gr_parse.specs.Grammar.{IsRight, IsAssignment, IsStmt, IsBlock, IsStmts, IsItem, IsProgram}

fits_set : (fresh : Bool) (targets : List Name) (r : Right) → stmt_fits (st.Set1 fresh targets r) ≡ fit targets r
unfolding stmt_fits
fits_set fresh targets r = ap stmt_fits (sym (st.rolls-Set1 fresh targets r)) ∙ fold-roll-Stmt Bool fit_step (Stmt-F.Set1 fresh targets r)

fits_do : (c : CallText) → stmt_fits (st.Do c) ≡ true
unfolding stmt_fits
fits_do c = ap stmt_fits (sym (st.rolls-Do c)) ∙ fold-roll-Stmt Bool fit_step (Stmt-F.Do c)

fits_print : (x : Expr) → stmt_fits (st.Print x) ≡ true
unfolding stmt_fits
fits_print x = ap stmt_fits (sym (st.rolls-Print x)) ∙ fold-roll-Stmt Bool fit_step (Stmt-F.Print x)

fits_spawn : (h : HowText) (n : Name) (xs : List Expr) → stmt_fits (st.Spawn h n xs) ≡ true
unfolding stmt_fits
fits_spawn h n xs = ap stmt_fits (sym (st.rolls-Spawn h n xs)) ∙ fold-roll-Stmt Bool fit_step (Stmt-F.Spawn h n xs)

fits_forall : (lo hi grain : Expr) (n : Name) (xs : List Expr) → stmt_fits (st.Forall lo hi grain n xs) ≡ true
unfolding stmt_fits
fits_forall lo hi grain n xs = ap stmt_fits (sym (st.rolls-Forall lo hi grain n xs)) ∙ fold-roll-Stmt Bool fit_step (Stmt-F.Forall lo hi grain n xs)

-- All that is so of the elements' answers is so of the elements.
first_mapped : (b : Bool) (xs : List Stmt) → (list_all stmt_fits xs ≡ true → list_all (λ b. b) (map stmt_fits xs) ≡ true) → (b && list_all stmt_fits xs) ≡ true → (b && list_all (λ b. b) (map stmt_fits xs)) ≡ true
first_mapped true xs go h = go h
first_mapped false xs go h = absurd cc

all_mapped : (xs : List Stmt) → list_all stmt_fits xs ≡ true → list_all (λ b. b) (map stmt_fits xs) ≡ true
all_mapped [] h = refl
all_mapped (x ∷ xs) h = first_mapped (stmt_fits x) xs (all_mapped xs) h

fits_if : (x : Expr) (xs ys : List Stmt) → list_all stmt_fits xs ≡ true → list_all stmt_fits ys ≡ true → stmt_fits (st.If x xs ys) ≡ true
unfolding stmt_fits
fits_if x xs ys h k = ap stmt_fits (sym (st.rolls-If x xs ys)) ∙ fold-roll-Stmt Bool fit_step (Stmt-F.If x xs ys)
    ∙ ap (λ b. b && list_all (λ b. b) (map stmt_fits ys)) (all_mapped xs h) ∙ all_mapped ys k

fits_while : (x : Expr) (xs : List Stmt) → list_all stmt_fits xs ≡ true → stmt_fits (st.While x xs) ≡ true
unfolding stmt_fits
fits_while x xs h = ap stmt_fits (sym (st.rolls-While x xs)) ∙ fold-roll-Stmt Bool fit_step (Stmt-F.While x xs) ∙ all_mapped xs h

fits_finish : (xs : List Stmt) → list_all stmt_fits xs ≡ true → stmt_fits (st.Finish xs) ≡ true
unfolding stmt_fits
fits_finish xs h = ap stmt_fits (sym (st.rolls-Finish xs)) ∙ fold-roll-Stmt Bool fit_step (Stmt-F.Finish xs) ∙ all_mapped xs h

right_fits : {d : ℕ} {ts : Toks} {r : Right} → IsRight d ts r → (n : Name) → fit (n ∷ []) r ≡ true
right_fits (IsRight.value h) n = refl
right_fits (IsRight.result h) n = refl

assignment_fits : {d : ℕ} {fresh : Bool} {ts : Toks} {x : Stmt} → IsAssignment d fresh ts x → stmt_fits x ≡ true
assignment_fits (IsAssignment.one {fresh} {target = n} {right = r} h) = fits_set fresh (n ∷ []) r ∙ right_fits h n
assignment_fits (IsAssignment.two {fresh} {first = n} {second = m} {done = c} h) = fits_set fresh (n ∷ m ∷ []) (right.Result c)

mutual
  stmt_fits_so : {d : ℕ} {ts : Toks} {x : Stmt} → IsStmt d ts x → stmt_fits x ≡ true
  stmt_fits_so (IsStmt.assign h) = assignment_fits h
  stmt_fits_so (IsStmt.let_fresh h) = assignment_fits h
  stmt_fits_so (IsStmt.call {done = c} h) = fits_do c
  stmt_fits_so (IsStmt.print {value = x} h) = fits_print x
  stmt_fits_so (IsStmt.if_only {test = x} {body = xs} h k) = fits_if x xs [] (block_fits k) refl
  stmt_fits_so (IsStmt.if_else {test = x} {body = xs} {other = ys} h k l) = fits_if x xs ys (block_fits k) (block_fits l)
  stmt_fits_so (IsStmt.while_loop {test = x} {body = xs} h k) = fits_while x xs (block_fits k)
  stmt_fits_so (IsStmt.finish {body = xs} k) = fits_finish xs (block_fits k)
  stmt_fits_so (IsStmt.spawn {how = h} {task = n} {args = xs} j k) = fits_spawn h n xs
  stmt_fits_so (IsStmt.forall_loop {lo} {hi} {grain} {task = n} {args = xs} f g h k) = fits_forall lo hi grain n xs

  block_fits : {d : ℕ} {ts : Toks} {xs : List Stmt} → IsBlock d ts xs → list_all stmt_fits xs ≡ true
  block_fits IsBlock.missing = refl
  block_fits (IsBlock.braces h) = stmts_fit h

  stmts_fit : {d : ℕ} {ts : Toks} {xs : List Stmt} → IsStmts d ts xs → list_all stmt_fits xs ≡ true
  stmts_fit IsStmts.none = refl
  stmts_fit (IsStmts.one_more {others = xs} h k) = ap (λ b. b && list_all stmt_fits xs) (stmt_fits_so h) ∙ stmts_fit k

item_fits_so : {ts : Toks} {x : Item} → IsItem ts x → item_fits x ≡ true
item_fits_so IsItem.array = refl
item_fits_so IsItem.set = refl
item_fits_so IsItem.map = refl
item_fits_so IsItem.vector = refl
item_fits_so IsItem.heap = refl
item_fits_so IsItem.show = refl
item_fits_so (IsItem.input h) = refl
item_fits_so (IsItem.task h k) = block_fits k

items_fit : {ts : Toks} {xs : List Item} → IsProgram ts xs → list_all item_fits xs ≡ true
items_fit Repeated.none = refl
items_fit (Repeated.one_more {others = xs} h k) = ap (λ b. b && list_all item_fits xs) (item_fits_so h) ∙ items_fit k

-- Each program that is spelled has as many targets everywhere as the grammar gives.
pub program_fits : {ts : Toks} (p : Program) → IsProgram ts p.items → targets_fit p ≡ true
program_fits p h = items_fit h
