-- One level of each statement.
use Rattle.std.proofs.Common.{◌≡◌, List, Bool}
use Rattle.gr_syntax.specs.declared.syntax.Stmt.{Stmt, out-Stmt, the_lemmas}
use Rattle.gr_syntax.specs.declared.syntax.Stmt.TheOpen.{Stmt-F}
use Rattle.gr_syntax.specs.declared.syntax.Stmt.TheVariants as s
use Rattle.gr_syntax.specs.declared.syntax.Right.{Right}
use Rattle.gr_syntax.specs.declared.syntax.HowText.{HowText}
use Rattle.gr_syntax.specs.declared.syntax.CallText.{CallText}
use Rattle.gr_syntax.specs.declared.syntax.Name.{Name}
use Rattle.gr_syntax.specs.declared.syntax.Expr.{Expr}

pub out-Set1 : (fresh : Bool) (targets : List Name) (right : Right) → out-Stmt (s.Set1 fresh targets right) ≡ Stmt-F.Set1 fresh targets right
out-Set1 fresh targets right = search the_lemmas

pub out-Do : (call : CallText) → out-Stmt (s.Do call) ≡ Stmt-F.Do call
out-Do call = search the_lemmas

pub out-Print : (value : Expr) → out-Stmt (s.Print value) ≡ Stmt-F.Print value
out-Print value = search the_lemmas

pub out-If : (test : Expr) (one other : List Stmt) → out-Stmt (s.If test one other) ≡ Stmt-F.If test one other
out-If test one other = search the_lemmas

pub out-While : (test : Expr) (body : List Stmt) → out-Stmt (s.While test body) ≡ Stmt-F.While test body
out-While test body = search the_lemmas

pub out-Finish : (body : List Stmt) → out-Stmt (s.Finish body) ≡ Stmt-F.Finish body
out-Finish body = search the_lemmas

pub out-Spawn : (how : HowText) (target : Name) (args : List Expr) → out-Stmt (s.Spawn how target args) ≡ Stmt-F.Spawn how target args
out-Spawn how target args = search the_lemmas

pub out-Forall : (lo hi grain : Expr) (target : Name) (args : List Expr) → out-Stmt (s.Forall lo hi grain target args) ≡ Stmt-F.Forall lo hi grain target args
out-Forall lo hi grain target args = search the_lemmas

pub ruleset opens = (out-Set1, out-Do, out-Print, out-If, out-While, out-Finish, out-Spawn, out-Forall)
