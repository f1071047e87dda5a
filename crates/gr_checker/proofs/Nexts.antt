-- What a walk over a list has left, one item on.
use Rattle.std.proofs.Common.{◌≡◌, ℕ, ◌+◌, ◌<◌, List, length, drop, get_or, Option, ◌∙◌}
use Rattle.std.proofs.lemmas.List.{at_drop_more}
use Rattle.gr_syntax.specs.declared.refusal.Fault.{Fault}
use Rattle.gr_syntax.specs.declared.syntax.Expr.{Expr}
use Rattle.gr_syntax.specs.declared.syntax.Stmt.{Stmt}
use Rattle.gr_syntax.specs.declared.syntax.Item.{Item}
use Rattle.gr_accept.specs.Accepted.{use_sites, uses_sites}
use Rattle.gr_accept.specs.Declarations.{Meaning}
use Rattle.gr_accept.specs.Walks.{expr_sites, exprs_sites, stmt, stmts}
use Rattle.gr_checker.specs.EarliestWords.{seen}
use Rattle.gr_checker.specs.WalkView.{after}
use Rattle.gr_checker.specs.declared.walk.Walk.{Walk}
use Rattle.gr_checker.proofs.Leasts.{seen-append}
use Rattle.gr_checker.proofs.Statements.{after-both}

pub exprs-next : (m : Meaning) (found : Option Fault) (visible : List (List ℕ)) (es : List Expr) (i : ℕ) (d : Expr) → i < length es
    → seen m found (exprs_sites visible (drop i es)) ≡ seen m (seen m found (expr_sites visible (get_or es i d))) (exprs_sites visible (drop (i + 1) es))
exprs-next m found visible es i d h =
    at_drop_more (λ (left : List Expr). seen m found (exprs_sites visible left)) es i d h
    ∙ seen-append m found (expr_sites visible (get_or es i d)) (exprs_sites visible (drop (i + 1) es))

pub stmts-next : (w : Walk) (ss : List Stmt) (i : ℕ) (d : Stmt) → i < length ss → after w (stmts (drop i ss)) ≡ after (after w (stmt (get_or ss i d))) (stmts (drop (i + 1) ss))
stmts-next w ss i d h = at_drop_more (λ (left : List Stmt). after w (stmts left)) ss i d h ∙ after-both w (stmt (get_or ss i d)) (stmts (drop (i + 1) ss))

pub uses-next : (m : Meaning) (found : Option Fault) (items : List Item) (i : ℕ) (d : Item) → i < length items
    → seen m found (uses_sites (drop i items)) ≡ seen m (seen m found (use_sites (get_or items i d))) (uses_sites (drop (i + 1) items))
uses-next m found items i d h =
    at_drop_more (λ (left : List Item). seen m found (uses_sites left)) items i d h
    ∙ seen-append m found (use_sites (get_or items i d)) (uses_sites (drop (i + 1) items))
