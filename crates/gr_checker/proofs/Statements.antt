-- One level of a statement, as a walk after walks.
use Rattle.std.proofs.Common.{refl, ◌≡◌, Bool, List, [], ◌∷◌, map, ap}
use Rattle.gr_syntax.specs.declared.syntax.Name.{Name}
use Rattle.gr_syntax.specs.declared.syntax.Expr.{Expr}
use Rattle.gr_syntax.specs.declared.syntax.Right.{Right}
use Rattle.gr_syntax.specs.declared.syntax.HowText.{HowText}
use Rattle.gr_syntax.specs.declared.syntax.CallText.{CallText}
use Rattle.gr_syntax.specs.declared.syntax.Stmt.{Stmt, the_lemmas}
use Rattle.gr_syntax.specs.declared.syntax.Stmt.TheVariants as s
use Rattle.gr_accept.specs.Walks.{Part, only, both, all, closed, targets, expr_sites, call_sites, right_sites, spawn_sites, forall_sites, stmt, stmts}
use Rattle.gr_checker.specs.MeaningView.{meaning_of}
use Rattle.gr_checker.specs.WalkView.{scope_of, after}
use Rattle.gr_checker.specs.declared.walk.Walk.{Walk}
use Rattle.gr_checker.proofs.Leasts.{seen-append}

pub after-both : (w : Walk) (f g : Part) → after w (both f g) ≡ after (after w f) g
after-both w f g =
    let scope = (g (f (scope_of w)).scope).scope in
    ap (λ x. record { found = x; scope = record { meanings = w.scope.meanings; named = scope.named; visible = scope.visible } })
    (seen-append (meaning_of w.scope.meanings.now) w.found (f (scope_of w)).sites (g (f (scope_of w)).scope).sites)

pub all-stmts : (ss : List Stmt) → all (map stmt ss) ≡ stmts ss
all-stmts [] = refl
all-stmts (s ∷ ss) = ap (both (stmt s)) (all-stmts ss)

pub stmt-Set1 : (fresh : Bool) (names : List Name) (right : Right) → stmt (s.Set1 fresh names right) ≡ both (only (right_sites names right)) (targets fresh names)
unfolding stmt
stmt-Set1 fresh names right = search the_lemmas

pub stmt-Do : (call : CallText) → stmt (s.Do call) ≡ only (call_sites [] call)
unfolding stmt
stmt-Do call = search the_lemmas

pub stmt-Print : (value : Expr) → stmt (s.Print value) ≡ only (λ v. expr_sites v value)
unfolding stmt
stmt-Print value = search the_lemmas

raw-If : (test : Expr) (one other : List Stmt) → stmt (s.If test one other) ≡ both (only (λ v. expr_sites v test)) (both (closed (all (map stmt one))) (closed (all (map stmt other))))
unfolding stmt
raw-If test one other = search the_lemmas

raw-While : (test : Expr) (body : List Stmt) → stmt (s.While test body) ≡ both (only (λ v. expr_sites v test)) (closed (all (map stmt body)))
unfolding stmt
raw-While test body = search the_lemmas

raw-Finish : (body : List Stmt) → stmt (s.Finish body) ≡ closed (all (map stmt body))
unfolding stmt
raw-Finish body = search the_lemmas

pub stmt-If : (test : Expr) (one other : List Stmt) → stmt (s.If test one other) ≡ both (only (λ v. expr_sites v test)) (both (closed (stmts one)) (closed (stmts other)))
stmt-If test one other = rw (← all-stmts one, ← all-stmts other) (raw-If test one other)

pub stmt-While : (test : Expr) (body : List Stmt) → stmt (s.While test body) ≡ both (only (λ v. expr_sites v test)) (closed (stmts body))
stmt-While test body = rw (← all-stmts body) (raw-While test body)

pub stmt-Finish : (body : List Stmt) → stmt (s.Finish body) ≡ closed (stmts body)
stmt-Finish body = rw (← all-stmts body) (raw-Finish body)

pub stmt-Spawn : (how : HowText) (target : Name) (args : List Expr) → stmt (s.Spawn how target args) ≡ only (spawn_sites how target args)
unfolding stmt
stmt-Spawn how target args = search the_lemmas

pub stmt-Forall : (lo hi grain : Expr) (target : Name) (args : List Expr) → stmt (s.Forall lo hi grain target args) ≡ only (forall_sites lo hi grain target args)
unfolding stmt
stmt-Forall lo hi grain target args = search the_lemmas

pub ruleset statements = (after-both, stmt-Set1, stmt-Do, stmt-Print, stmt-If, stmt-While, stmt-Finish, stmt-Spawn, stmt-Forall)
