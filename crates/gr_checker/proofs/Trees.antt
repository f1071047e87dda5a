-- One level of an expression.
use Rattle.std.proofs.Common.{◌≡◌, ℕ, List, [], ◌∷◌, ◌++◌}
use Rattle.gr_syntax.specs.declared.syntax.Expr.{Expr, the_lemmas}
use Rattle.gr_syntax.specs.declared.syntax.Expr.TheVariants as e
use Rattle.gr_syntax.specs.declared.syntax.BinOp.{BinOp}
use Rattle.gr_syntax.specs.declared.syntax.Name.{Name}
use Rattle.gr_syntax.specs.declared.syntax.Number.{Number}
use Rattle.gr_accept.specs.Sites.{mentions}
use Rattle.gr_accept.specs.Walks.{expr_sites}
use Rattle.gr_checker.proofs.Leasts.{least-append, seen-append}

module _ (visible : List (List ℕ)) where
  pub sites-Lit : (number : Number) → expr_sites visible (e.Lit number) ≡ []
  unfolding expr_sites
  sites-Lit number = search the_lemmas

  pub sites-Local : (name : Name) → expr_sites visible (e.Local name) ≡ mentions name visible ∷ []
  unfolding expr_sites
  sites-Local name = search the_lemmas

  pub sites-Not : (inner : Expr) → expr_sites visible (e.Not inner) ≡ expr_sites visible inner
  unfolding expr_sites
  sites-Not inner = search the_lemmas

  pub sites-Two : (op : BinOp) (left right : Expr) → expr_sites visible (e.Two op left right) ≡ expr_sites visible left ++ expr_sites visible right
  unfolding expr_sites
  sites-Two op left right = search the_lemmas

pub ruleset trees = (least-append, seen-append, sites-Lit, sites-Local, sites-Not, sites-Two)
