-- Whether one level of a statement has as many targets as it needs.
use Rattle.std.proofs.Common.{◌≡◌, Bool, true, ◌&&◌, List, map, ◌∙◌}
use Rattle.std.specs.List.{list_all}
use Rattle.std.proofs.lemmas.List.Folds.{list_all-map}
use Rattle.gr_syntax.specs.declared.syntax.Name.{Name}
use Rattle.gr_syntax.specs.declared.syntax.Expr.{Expr}
use Rattle.gr_syntax.specs.declared.syntax.Right.{Right}
use Rattle.gr_syntax.specs.declared.syntax.HowText.{HowText}
use Rattle.gr_syntax.specs.declared.syntax.CallText.{CallText}
use Rattle.gr_syntax.specs.declared.syntax.Stmt.{Stmt, the_lemmas}
use Rattle.gr_syntax.specs.declared.syntax.Stmt.TheVariants as s
use Rattle.gr_syntax.specs.Targets.{fit, stmt_fits}

abbrev all_of : List Stmt → Bool
all_of ss = list_all (λ b. b) (map stmt_fits ss)

all-fit : (ss : List Stmt) → all_of ss ≡ list_all stmt_fits ss
all-fit ss = list_all-map (λ b. b) stmt_fits ss

raw-If : (test : Expr) (one other : List Stmt) → stmt_fits (s.If test one other) ≡ (all_of one && all_of other)
unfolding stmt_fits
raw-If test one other = search the_lemmas

raw-While : (test : Expr) (body : List Stmt) → stmt_fits (s.While test body) ≡ all_of body
unfolding stmt_fits
raw-While test body = search the_lemmas

raw-Finish : (body : List Stmt) → stmt_fits (s.Finish body) ≡ all_of body
unfolding stmt_fits
raw-Finish body = search the_lemmas

pub fits-Set1 : (fresh : Bool) (names : List Name) (right : Right) → stmt_fits (s.Set1 fresh names right) ≡ fit names right
unfolding stmt_fits
fits-Set1 fresh names right = search the_lemmas

pub fits-Do : (call : CallText) → stmt_fits (s.Do call) ≡ true
unfolding stmt_fits
fits-Do call = search the_lemmas

pub fits-Print : (value : Expr) → stmt_fits (s.Print value) ≡ true
unfolding stmt_fits
fits-Print value = search the_lemmas

pub fits-If : (test : Expr) (one other : List Stmt) → stmt_fits (s.If test one other) ≡ (list_all stmt_fits one && list_all stmt_fits other)
fits-If test one other = rw (← all-fit one, ← all-fit other) (raw-If test one other)

pub fits-While : (test : Expr) (body : List Stmt) → stmt_fits (s.While test body) ≡ list_all stmt_fits body
fits-While test body = raw-While test body ∙ all-fit body

pub fits-Finish : (body : List Stmt) → stmt_fits (s.Finish body) ≡ list_all stmt_fits body
fits-Finish body = raw-Finish body ∙ all-fit body

pub fits-Spawn : (how : HowText) (target : Name) (args : List Expr) → stmt_fits (s.Spawn how target args) ≡ true
unfolding stmt_fits
fits-Spawn how target args = search the_lemmas

pub fits-Forall : (lo hi grain : Expr) (target : Name) (args : List Expr) → stmt_fits (s.Forall lo hi grain target args) ≡ true
unfolding stmt_fits
fits-Forall lo hi grain target args = search the_lemmas

pub ruleset fits = (fits-Set1, fits-Do, fits-Print, fits-If, fits-While, fits-Finish, fits-Spawn, fits-Forall)
