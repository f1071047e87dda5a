-- What stands first, where it is a print or a loop.
use Rattle.std.proofs.Common.{◌≡◌, ℕ, Option, List, ◌∷◌, refl, ap}
use Rattle.gr_lang.proofs.Opens.{out-Print, out-Forall}
use Rattle.gr_syntax.specs.declared.syntax.Program.{Program}
use Rattle.gr_syntax.specs.declared.syntax.Expr.{Expr}
use Rattle.gr_syntax.specs.declared.syntax.Name.{Name}
use Rattle.gr_syntax.specs.declared.syntax.Stmt.TheVariants as s
use Rattle.gr_lang.specs.declared.action.Action.{Action}
use Rattle.gr_lang.specs.Expressions.{values}
use Rattle.gr_lang.specs.Next.{Running, Todo, run, look, acts, acted, loop_action, print_action}
use Rattle.gr_steps.specs.RangeWords.{range_words, ranged}
use Rattle.gr_steps.proofs.Ranges.{values_range}

pub look_print : (p : Program) (t : Running) (e : Expr) (rest : List Todo) → t.todo ≡ run (s.Print e) ∷ rest → look p t ≡ acts (print_action t.locals e)
unfolding look
look_print p t e rest h = rw h (rw (out-Print e) refl)

-- The loop of a range with evaluated arguments.
abbrev pub looped : Program → Name → Option (ℕ × ℕ × ℕ) → Option (List ℕ) → Action
looped p target range words = acted (loop_action p target) (ranged range words)

pub look_forall : (p : Program) (t : Running) (lo hi grain : Expr) (target : Name) (args : List Expr) (rest : List Todo) → t.todo ≡ run (s.Forall lo hi grain target args) ∷ rest
    → look p t ≡ acts (looped p target (range_words t.locals lo hi grain) (values t.locals args))
unfolding look
look_forall p t lo hi grain target args rest h = rw h (rw (out-Forall lo hi grain target args) (ap (λ v. acts (acted (loop_action p target) v)) (values_range t.locals lo hi grain args)))
