-- What stands first in what a task has still to do, where no fault is in that, fits.
use Rattle.std.proofs.Common.{◌≡◌, List, [], ◌∷◌, subst}
use Rattle.gr_syntax.specs.declared.syntax.Stmt.{Stmt, out-Stmt}
use Rattle.gr_syntax.specs.declared.syntax.Stmt.TheOpen.{Stmt-F}
use Rattle.gr_syntax.specs.declared.syntax.Right.{Right}
use Rattle.gr_syntax.specs.declared.syntax.Right.TheVariants as r
use Rattle.gr_lang.specs.declared.action.Action.{Action}
use Rattle.gr_lang.specs.Next.{Todo, Running, run, arrive, Look, pure, acts, look, look_at, look_set, look_todo, how_of}
use Rattle.gr_machine.specs.Machines.{Machine}
use Rattle.gr_stands.specs.Worlds.{Given, machine_in}
use Rattle.gr_stands.specs.Actions.{ActionFits}
use Rattle.gr_known.proofs.Looks.{AreToDo}
use Rattle.gr_fits.specs.Reached.{HasOneHeap}
use Rattle.gr_fits.proofs.Sites.{IsFit, IsFitRight, statement_fits}
use Rattle.gr_fits.proofs.Actions.{call_fits, print_fits, spawn_fits, loop_fits}

-- Where it is an action, it fits.
abbrev LookFits : Machine → Look → Type 0
LookFits m (pure u) = Unit {0}
LookFits m (acts action) = ActionFits m action

at_fits : (given : Given) (t : Running) (rest : List Todo) (s : Stmt-F Stmt) → HasOneHeap given.program → IsFit given.program s → LookFits (machine_in given) (look_at given.program t rest s)
at_fits given t rest (Stmt-F.Set1 fresh targets right) one h = by right h
  where
    by : (right : Right) → IsFitRight given.program right → LookFits (machine_in given) (look_set given.program t rest targets right)
    by (r.Value e) h = tt
    by (r.Result c) h = call_fits given t.locals c one h
at_fits given t rest (Stmt-F.Do c) one h = call_fits given t.locals c one h
at_fits given t rest (Stmt-F.Print e) one h = print_fits (machine_in given) t.locals e
at_fits given t rest (Stmt-F.If test one_way other) one h = tt
at_fits given t rest (Stmt-F.While test body) one h = tt
at_fits given t rest (Stmt-F.Finish body) one h = tt
at_fits given t rest (Stmt-F.Spawn way target args) one h = spawn_fits given t.locals (how_of t.locals way) target args h
at_fits given t rest (Stmt-F.Forall lo hi grain target args) one h = loop_fits given t.locals lo hi grain target args h

todo_fits : (given : Given) (t : Running) (todo : List Todo) → HasOneHeap given.program → AreToDo given.program todo → LookFits (machine_in given) (look_todo given.program t todo)
todo_fits given t [] one h = tt
todo_fits given t (arrive ∷ rest) one h = tt
todo_fits given t (run s ∷ rest) one h = at_fits given t rest (out-Stmt s) one (statement_fits given.program s h.0)

pub look_fits : (given : Given) (t : Running) (action : Action) → HasOneHeap given.program → AreToDo given.program t.todo → look given.program t ≡ acts action → ActionFits (machine_in given) action
unfolding look
look_fits given t action one h e = subst (LookFits (machine_in given)) e (todo_fits given t t.todo one h)
