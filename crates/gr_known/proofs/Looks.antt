-- A task of an accepted program stands at an action that names what the program has, and what it has still to do has no fault.
use Rattle.std.proofs.Common.{◌≡◌, ℕ, zero, suc, ◌==◌, Bool, true, false, List, [], ◌∷◌, ◌++◌, slice_get, Option, Some, None, if◌then◌else◌, refl, sym, subst}
use Rattle.std.specs.Option.{option_map}
use Rattle.gr_syntax.specs.declared.syntax.Stmt.{Stmt, out-Stmt}
use Rattle.gr_syntax.specs.declared.syntax.Stmt.TheOpen.{Stmt-F}
use Rattle.gr_syntax.specs.declared.syntax.Name.{Name}
use Rattle.gr_syntax.specs.declared.syntax.Right.{Right}
use Rattle.gr_syntax.specs.declared.syntax.Right.TheVariants as r
use Rattle.gr_syntax.specs.declared.syntax.Program.{Program}
use Rattle.gr_lang.specs.declared.action.Reply.{Reply}
use Rattle.gr_lang.specs.Expressions.{value, values}
use Rattle.gr_syntax.specs.Items.{TaskText, tasks_of}
use Rattle.gr_lang.specs.Next.{Todo, Running, run, arrive, runs, Look, pure, acts, look, look_at, look_set, look_todo, next, at_limit, after_look, Stands, go_on, go_on_todo, go_on_at, set_all, how_of, loop_action, start, start_at}
use Rattle.gr_known.proofs.Bodies.{IsSeen, AreSeen, Inside, IsRight, IsSound, inside}
use Rattle.gr_known.proofs.Actions.{IsKnownAction, acted_known, call_known, print_known, spawn_known, loop_known}

-- No fault is in what is still to do.
abbrev pub AreToDo : Program → List Todo → Type 0
AreToDo p [] = Unit {0}
AreToDo p (arrive ∷ rest) = AreToDo p rest
AreToDo p (run s ∷ rest) = IsSeen p s × AreToDo p rest

entered : (p : Program) (ss : List Stmt) (rest : List Todo) → AreSeen p ss → AreToDo p rest → AreToDo p (runs ss ++ rest)
entered p [] rest h g = g
entered p (s ∷ ss) rest h g = (h.0, entered p ss rest h.1 g)

alone : (p : Program) (ss : List Stmt) → AreSeen p ss → AreToDo p (runs ss)
alone p [] h = tt
alone p (s ∷ ss) h = (h.0, alone p ss h.1)

-- ---- one look

-- The action names what the program has, and a pure step leads to what has no fault.
abbrev Tells : Program → Look → Type 0
Tells p (pure None) = Unit {0}
Tells p (pure (Some u)) = AreToDo p u.todo
Tells p (acts action) = IsKnownAction p action

set_tells : (p : Program) (t : Running) (rest : List Todo) (targets : List Name) (w : Option ℕ) → AreToDo p rest
    → Tells p (pure (option_map (λ w. record { todo = rest; locals = set_all t.locals targets (w ∷ []) }) w))
set_tells p t rest targets None h = tt
set_tells p t rest targets (Some w) h = h

branch_tells : (p : Program) (rest : List Todo) (one other : List Stmt) (b : Bool) → AreSeen p one → AreSeen p other → AreToDo p rest → AreToDo p (runs (if b then other else one) ++ rest)
branch_tells p rest one other true f g h = entered p other rest g h
branch_tells p rest one other false f g h = entered p one rest f h

if_tells : (p : Program) (t : Running) (rest : List Todo) (one other : List Stmt) (w : Option ℕ) → AreSeen p one → AreSeen p other → AreToDo p rest
    → Tells p (pure (option_map (λ w. record { todo = runs (if w == 0 then other else one) ++ rest; locals = t.locals }) w))
if_tells p t rest one other None f g h = tt
if_tells p t rest one other (Some w) f g h = branch_tells p rest one other (w == 0) f g h

round_tells : (p : Program) (t : Running) (rest : List Todo) (body : List Stmt) (b : Bool) → AreSeen p body → AreToDo p rest → AreToDo p t.todo → AreToDo p (if b then rest else runs body ++ t.todo)
round_tells p t rest body true f h k = h
round_tells p t rest body false f h k = entered p body t.todo f k

while_tells : (p : Program) (t : Running) (rest : List Todo) (body : List Stmt) (w : Option ℕ) → AreSeen p body → AreToDo p rest → AreToDo p t.todo
    → Tells p (pure (option_map (λ w. record { todo = if w == 0 then rest else runs body ++ t.todo; locals = t.locals }) w))
while_tells p t rest body None f h k = tt
while_tells p t rest body (Some w) f h k = round_tells p t rest body (w == 0) f h k

right_tells : (p : Program) (t : Running) (rest : List Todo) (targets : List Name) (right : Right) → IsRight p right → AreToDo p rest → Tells p (look_set p t rest targets right)
right_tells p t rest targets (r.Value e) f h = set_tells p t rest targets (value t.locals e) h
right_tells p t rest targets (r.Result c) f h = call_known p t.locals c f

at_tells : (p : Program) (t : Running) (rest : List Todo) (s : Stmt-F Stmt) → IsSound p → Inside p s → AreToDo p rest → AreToDo p t.todo → Tells p (look_at p t rest s)
at_tells p t rest (Stmt-F.Set1 fresh targets right) q f h k = right_tells p t rest targets right f h
at_tells p t rest (Stmt-F.Do c) q f h k = call_known p t.locals c f
at_tells p t rest (Stmt-F.Print e) q f h k = print_known p (value t.locals e)
at_tells p t rest (Stmt-F.If test one other) q f h k = if_tells p t rest one other (value t.locals test) f.0 f.1 h
at_tells p t rest (Stmt-F.While test body) q f h k = while_tells p t rest body (value t.locals test) f h k
at_tells p t rest (Stmt-F.Finish body) q f h k = tt
at_tells p t rest (Stmt-F.Spawn way target args) q f h k = spawn_known p t.locals (how_of t.locals way) target args q
at_tells p t rest (Stmt-F.Forall lo hi grain target args) q f h k = acted_known p (loop_action p target) (values t.locals (lo ∷ hi ∷ grain ∷ args)) (λ ws. loop_known p target ws q)

todo_tells : (p : Program) (t : Running) (todo : List Todo) → IsSound p → AreToDo p todo → AreToDo p t.todo → Tells p (look_todo p t todo)
todo_tells p t [] q h k = tt
todo_tells p t (arrive ∷ rest) q h k = tt
todo_tells p t (run x ∷ rest) q h k = at_tells p t rest (out-Stmt x) q (inside p x h.0) h.1 k

look_tells : (p : Program) (t : Running) → IsSound p → AreToDo p t.todo → Tells p (look p t)
unfolding look
look_tells p t q h = todo_tells p t t.todo q h h

-- ---- the next action

-- Where a task stands: its action names what the program has, and what it has still to do has no fault.
pub record IsKnownStand (p : Program) (at : Stands) : Type 0 where
  pub action : IsKnownAction p at.0
  pub todo : AreToDo p at.1.todo

limit_known : (p : Program) (t : Running) (x : Look) → AreToDo p t.todo → Tells p x → IsKnownStand p (at_limit t x)
limit_known p t (acts action) h k = record { action = k; todo = h }
limit_known p t (pure u) h k = record { action = tt; todo = h }

step_known : (p : Program) (t : Running) (f : Running → Stands) (x : Look) → AreToDo p t.todo → Tells p x → ((u : Running) → AreToDo p u.todo → IsKnownStand p (f u)) → IsKnownStand p (after_look f t x)
step_known p t f (acts action) h k g = record { action = k; todo = h }
step_known p t f (pure None) h k g = record { action = tt; todo = h }
step_known p t f (pure (Some u)) h k g = g u k

pub next_known : (p : Program) (L : ℕ) (t : Running) → IsSound p → AreToDo p t.todo → IsKnownStand p (next p L t)
unfolding next
next_known p zero t q h = limit_known p t (look p t) h (look_tells p t q h)
next_known p (suc n) t q h = step_known p t (next p n) (look p t) h (look_tells p t q h) (λ u k. next_known p n u q k)

-- ---- how a task goes on, and starts

at_on : (p : Program) (t : Running) (rest : List Todo) (w : Reply) (s : Stmt-F Stmt) → Inside p s → AreToDo p rest → AreToDo p (go_on_at t rest w s).todo
at_on p t rest w (Stmt-F.Finish body) f h = entered p body (arrive ∷ rest) f h
at_on p t rest w (Stmt-F.Set1 fresh targets right) f h = h
at_on p t rest w (Stmt-F.Do c) f h = h
at_on p t rest w (Stmt-F.Print e) f h = h
at_on p t rest w (Stmt-F.If test one other) f h = h
at_on p t rest w (Stmt-F.While test body) f h = h
at_on p t rest w (Stmt-F.Spawn way target args) f h = h
at_on p t rest w (Stmt-F.Forall lo hi grain target args) f h = h

todo_on : (p : Program) (t : Running) (todo : List Todo) (w : Reply) → t.todo ≡ todo → AreToDo p todo → AreToDo p (go_on_todo t todo w).todo
todo_on p t [] w e h = subst (AreToDo p) (sym e) tt
todo_on p t (arrive ∷ rest) w e h = h
todo_on p t (run x ∷ rest) w e h = at_on p t rest w (out-Stmt x) (inside p x h.0) h.1

pub goes_on_known : (p : Program) (t : Running) (w : Reply) → AreToDo p t.todo → AreToDo p (go_on t w).todo
unfolding go_on
goes_on_known p t w h = todo_on p t t.todo w refl h

start_one : (p : Program) (found : Option TaskText) (ws : List ℕ) → ((t : TaskText) → found ≡ Some t → AreSeen p t.body) → AreToDo p (start_at found ws).todo
start_one p None ws h = tt
start_one p (Some t) ws h = alone p t.body (h t refl)

pub start_known : (p : Program) (target : ℕ) (ws : List ℕ) → IsSound p → AreToDo p (start p target ws).todo
unfolding start
start_known p target ws q = start_one p (slice_get (tasks_of p.items) target) ws (q.bodies target)
