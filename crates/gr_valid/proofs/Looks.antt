-- The ends of `finish` that are still to do: pure steps keep their number, and a task that goes on has one more after a `finish`, and one fewer after its end.
use Rattle.std.proofs.Common.{◌≡◌, ℕ, zero, suc, List, [], ◌∷◌, ◌++◌, slice_get, Bool, true, false, inl, inr, ◌==◌, if◌then◌else◌, Option, Some, None, refl, sym, ap, ◌∙◌, subst}
use Rattle.std.specs.Option.{option_map, option_map_or}
use Rattle.gr_syntax.specs.declared.syntax.Stmt.{Stmt, out-Stmt}
use Rattle.gr_syntax.specs.declared.syntax.Stmt.TheOpen.{Stmt-F}
use Rattle.gr_syntax.specs.declared.syntax.Expr.{Expr}
use Rattle.gr_syntax.specs.declared.syntax.Name.{Name}
use Rattle.gr_syntax.specs.declared.syntax.Right.{Right}
use Rattle.gr_syntax.specs.declared.syntax.Right.TheVariants as r
use Rattle.gr_syntax.specs.declared.syntax.CallText.{CallText}
use Rattle.gr_syntax.specs.declared.syntax.Program.{Program}
use Rattle.gr_accept.specs.declared.operation.Operation.{Operation}
use Rattle.gr_lang.specs.declared.action.How.{How}
use Rattle.gr_lang.specs.declared.action.Action.{Action}
use Rattle.gr_lang.specs.declared.action.Action.TheVariants as a
use Rattle.gr_lang.specs.declared.action.Op.{Op}
use Rattle.gr_lang.specs.declared.action.Op.TheVariants as o
use Rattle.gr_lang.specs.declared.action.TrapKind.TheVariants as trap
use Rattle.gr_lang.specs.declared.action.Reply.{Reply}
use Rattle.gr_lang.specs.Locals.{Locals}
use Rattle.gr_lang.specs.Expressions.{value, values}
use Rattle.gr_accept.specs.Operations.{operation_of}
use Rattle.gr_syntax.specs.Items.{TaskText, tasks_of}
use Rattle.gr_lang.specs.Openings.{object_of}
use Rattle.gr_lang.specs.Next.{Todo, Running, run, arrive, runs, Look, pure, acts, look, look_at, look_set, look_todo, next, at_limit, after_look, Stands, go_on, go_on_todo, go_on_at, acted, named_action, call_action, reducer_number, spawn_action, loop_action, how_of, set_all, start, start_at}
use Rattle.gr_lang.specs.Parts.{op_of}
use Rattle.gr_valid.specs.Valid.{arrives, StandsAt}

pub arrives_runs : (ss : List Stmt) (rest : List Todo) → arrives (runs ss ++ rest) ≡ arrives rest
arrives_runs [] rest = refl
arrives_runs (s ∷ ss) rest = arrives_runs ss rest

-- ---- one look

-- A pure step keeps the number.
abbrev Keeps : Running → Look → Type 0
Keeps t (pure None) = Unit {0}
Keeps t (pure (Some u)) = arrives u.todo ≡ arrives t.todo
Keeps t (acts action) = Unit {0}

set_keeps : (t : Running) (rest : List Todo) (targets : List Name) (w : Option ℕ) → arrives rest ≡ arrives t.todo
    → Keeps t (pure (option_map (λ w. record { todo = rest; locals = set_all t.locals targets (w ∷ []) }) w))
set_keeps t rest targets None h = tt
set_keeps t rest targets (Some w) h = h

branch_keeps : (t : Running) (rest : List Todo) (one other : List Stmt) (b : Bool) → arrives rest ≡ arrives t.todo → arrives (runs (if b then other else one) ++ rest) ≡ arrives t.todo
branch_keeps t rest one other true h = arrives_runs other rest ∙ h
branch_keeps t rest one other false h = arrives_runs one rest ∙ h

if_keeps : (t : Running) (rest : List Todo) (one other : List Stmt) (w : Option ℕ) → arrives rest ≡ arrives t.todo
    → Keeps t (pure (option_map (λ w. record { todo = runs (if w == 0 then other else one) ++ rest; locals = t.locals }) w))
if_keeps t rest one other None h = tt
if_keeps t rest one other (Some w) h = branch_keeps t rest one other (w == 0) h

round_keeps : (t : Running) (rest : List Todo) (body : List Stmt) (b : Bool) → arrives rest ≡ arrives t.todo → arrives (if b then rest else runs body ++ t.todo) ≡ arrives t.todo
round_keeps t rest body true h = h
round_keeps t rest body false h = arrives_runs body t.todo

while_keeps : (t : Running) (rest : List Todo) (body : List Stmt) (w : Option ℕ) → arrives rest ≡ arrives t.todo
    → Keeps t (pure (option_map (λ w. record { todo = if w == 0 then rest else runs body ++ t.todo; locals = t.locals }) w))
while_keeps t rest body None h = tt
while_keeps t rest body (Some w) h = round_keeps t rest body (w == 0) h

right_keeps : (p : Program) (t : Running) (rest : List Todo) (targets : List Name) (right : Right) → arrives rest ≡ arrives t.todo → Keeps t (look_set p t rest targets right)
right_keeps p t rest targets (r.Value e) h = set_keeps t rest targets (value t.locals e) h
right_keeps p t rest targets (r.Result c) h = tt

at_keeps : (p : Program) (t : Running) (rest : List Todo) (s : Stmt-F Stmt) → arrives rest ≡ arrives t.todo → Keeps t (look_at p t rest s)
at_keeps p t rest (Stmt-F.Set1 fresh targets right) h = right_keeps p t rest targets right h
at_keeps p t rest (Stmt-F.If test one other) h = if_keeps t rest one other (value t.locals test) h
at_keeps p t rest (Stmt-F.While test body) h = while_keeps t rest body (value t.locals test) h
at_keeps p t rest _ h = tt

todo_keeps : (p : Program) (t : Running) (todo : List Todo) → t.todo ≡ todo → Keeps t (look_todo p t todo)
todo_keeps p t [] e = tt
todo_keeps p t (arrive ∷ rest) e = tt
todo_keeps p t (run x ∷ rest) e = at_keeps p t rest (out-Stmt x) (sym (ap arrives e))

look_keeps : (p : Program) (t : Running) → Keeps t (look p t)
unfolding look
look_keeps p t = todo_keeps p t t.todo refl

-- ---- the next action

-- Where a task comes to stand: the action is what stands first there, and the number is the same.
pub record IsNext (p : Program) (t : Running) (at : Stands) : Type 0 where
  pub stands : StandsAt p at.1 at.0
  pub same : arrives at.1.todo ≡ arrives t.todo

limit_next : (p : Program) (t : Running) (x : Look) → look p t ≡ x → IsNext p t (at_limit t x)
limit_next p t (acts action) e = record { stands = inl e; same = refl }
limit_next p t (pure u) e = record { stands = inr tt; same = refl }

step_next : (p : Program) (t : Running) (f : Running → Stands) (x : Look) → look p t ≡ x → Keeps t x → ((u : Running) → IsNext p u (f u)) → IsNext p t (after_look f t x)
step_next p t f (acts action) e h k = record { stands = inl e; same = refl }
step_next p t f (pure None) e h k = record { stands = inr tt; same = refl }
step_next p t f (pure (Some u)) e h k = record { stands = (k u).stands; same = (k u).same ∙ h }

pub next_is : (p : Program) (L : ℕ) (t : Running) → IsNext p t (next p L t)
unfolding next
next_is p zero t = limit_next p t (look p t) refl
next_is p (suc n) t = step_next p t (next p n) (look p t) refl (look_keeps p t) (λ u. next_is p n u)

start_none : (o : Option TaskText) (ws : List ℕ) → arrives (start_at o ws).todo ≡ 0
start_none None ws = refl
start_none (Some t) ws = none t.body
  where
    none : (ss : List Stmt) → arrives (runs ss) ≡ 0
    none [] = refl
    none (s ∷ ss) = none ss

-- A new task has no end to do.
pub start_arrives : (p : Program) (target : ℕ) (ws : List ℕ) → arrives (start p target ws).todo ≡ 0
unfolding start
start_arrives p target ws = start_none (slice_get (tasks_of p.items) target) ws

-- ---- how a task goes on

-- The number before and after the action.
abbrev pub Went : Action → ℕ → ℕ → Type 0
Went a.Finish n m = m ≡ suc n
Went a.Arrive n m = suc m ≡ n
Went a.End n m = n ≡ 0
Went _ n m = m ≡ n

abbrev IsPlain : Action → Type 0
IsPlain a.Finish = ⊥
IsPlain a.Arrive = ⊥
IsPlain a.End = ⊥
IsPlain _ = Unit {0}

plain_went : (x : Action) (n m : ℕ) → IsPlain x → m ≡ n → Went x n m
plain_went a.Finish n m h e = absurd h
plain_went a.Arrive n m h e = absurd h
plain_went a.End n m h e = absurd h
plain_went _ n m h e = e

fit_plain : (p : Program) (op : Op) (b : Bool) → IsPlain (if b then a.Call op else a.Trap trap.Place)
fit_plain p op true = tt
fit_plain p op false = tt

named_plain : (p : Program) (operation : Option Operation) (object k : ℕ) (ws : List ℕ) → IsPlain (named_action p operation object k ws)
named_plain p None object k ws = tt
named_plain p (Some operation) object k ws = fit_plain p (op_of operation object k ws) _

acted_plain : (f : List ℕ → Action) (ws : Option (List ℕ)) → ((ws : List ℕ) → IsPlain (f ws)) → IsPlain (acted f ws)
acted_plain f None h = tt
acted_plain f (Some ws) h = h ws

call_plain : (p : Program) (locals : Locals) (c : CallText) → IsPlain (call_action p locals c)
call_plain p locals c = acted_plain _ (values locals c.args) (λ ws. named_plain p (operation_of c.op.text) (object_of p c.object.text) (reducer_number c.reducer) ws)

print_plain : (w : Option ℕ) → IsPlain (option_map_or (λ w. a.Call (o.Print w)) w (a.Trap trap.Div))
print_plain None = tt
print_plain (Some w) = tt

spawn_plain : (p : Program) (locals : Locals) (way : Option How) (target : Name) (args : List Expr) → IsPlain (spawn_action p locals way target args)
spawn_plain p locals None target args = tt
spawn_plain p locals (Some way) target args = acted_plain _ (values locals args) (λ ws. tt)

loop_plain : (p : Program) (target : Name) (ws : List ℕ) → IsPlain (loop_action p target ws)
loop_plain p target (lo ∷ hi ∷ grain ∷ ws) = tt
loop_plain p target _ = tt

acts_went : (x y : Action) (n : ℕ) → IsPlain x → acts x ≡ acts y → Went y n n
acts_went x y n h e = let k : x ≡ y = cc in subst (λ z. Went z n n) k (plain_went x n n h refl)

right_went : (p : Program) (t : Running) (rest : List Todo) (targets : List Name) (right : Right) (y : Action) (n : ℕ) → look_set p t rest targets right ≡ acts y → Went y n n
right_went p t rest targets (r.Value e) y n h = cc
right_went p t rest targets (r.Result c) y n h = acts_went _ y n (call_plain p t.locals c) h

at_went : (p : Program) (t : Running) (rest : List Todo) (w : Reply) (s : Stmt-F Stmt) (y : Action) → look_at p t rest s ≡ acts y → Went y (arrives rest) (arrives (go_on_at t rest w s).todo)
at_went p t rest w (Stmt-F.Set1 fresh targets right) y h = right_went p t rest targets right y (arrives rest) h
at_went p t rest w (Stmt-F.Do c) y h = acts_went _ y (arrives rest) (call_plain p t.locals c) h
at_went p t rest w (Stmt-F.Print e) y h = acts_went _ y (arrives rest) (print_plain (value t.locals e)) h
at_went p t rest w (Stmt-F.If test one other) y h = cc
at_went p t rest w (Stmt-F.While test body) y h = cc
at_went p t rest w (Stmt-F.Finish body) y h =
    let k : a.Finish ≡ y = cc in subst (λ z. Went z (arrives rest) (arrives (runs body ++ (arrive ∷ rest)))) k (arrives_runs body (arrive ∷ rest))
at_went p t rest w (Stmt-F.Spawn way target args) y h = acts_went _ y (arrives rest) (spawn_plain p t.locals (how_of t.locals way) target args) h
at_went p t rest w (Stmt-F.Forall lo hi grain target args) y h =
    acts_went _ y (arrives rest) (acted_plain _ (values t.locals (lo ∷ hi ∷ grain ∷ args)) (λ ws. loop_plain p target ws)) h

todo_went : (p : Program) (t : Running) (w : Reply) (todo : List Todo) (y : Action) → t.todo ≡ todo → look_todo p t todo ≡ acts y → Went y (arrives todo) (arrives (go_on_todo t todo w).todo)
todo_went p t w [] y e h = let k : a.End ≡ y = cc in subst (λ z. Went z 0 (arrives t.todo)) k refl
todo_went p t w (arrive ∷ rest) y e h = let k : a.Arrive ≡ y = cc in subst (λ z. Went z (suc (arrives rest)) (arrives rest)) k refl
todo_went p t w (run x ∷ rest) y e h = at_went p t rest w (out-Stmt x) y h

pub go_on_went : (p : Program) (t : Running) (w : Reply) (y : Action) → look p t ≡ acts y → Went y (arrives t.todo) (arrives (go_on t w).todo)
unfolding look go_on
go_on_went p t w y h = todo_went p t w t.todo y refl h
