-- Where a task stands next, its action and its locals have words, and what it has still to do has no other numbers.
use Rattle.std.proofs.Common.{◌≡◌, ℕ, zero, suc, ◌==◌, Bool, true, false, ◌&&◌, List, [], ◌∷◌, ◌++◌, Option, Some, None, if◌then◌else◌, sym, ◌∙◌, subst}
use Rattle.std.specs.Option.{option_map, option_map_or}
use Rattle.gr_syntax.specs.declared.syntax.Expr.{Expr}
use Rattle.gr_syntax.specs.declared.syntax.Stmt.{Stmt, out-Stmt, roll-Stmt, roll-out-Stmt}
use Rattle.gr_syntax.specs.declared.syntax.Stmt.TheFolds.{fold-roll-Stmt}
use Rattle.gr_syntax.specs.declared.syntax.Stmt.TheOpen.{Stmt-F}
use Rattle.gr_syntax.specs.declared.syntax.Name.{Name}
use Rattle.gr_syntax.specs.declared.syntax.Right.{Right}
use Rattle.gr_syntax.specs.declared.syntax.Right.TheVariants as r
use Rattle.gr_syntax.specs.declared.syntax.CallText.{CallText}
use Rattle.gr_syntax.specs.declared.syntax.Program.{Program}
use Rattle.gr_accept.specs.declared.operation.Operation.{Operation}
use Rattle.gr_accept.specs.declared.operation.Operation.TheVariants as n
use Rattle.gr_accept.specs.Operations.{operation_of}
use Rattle.gr_lang.specs.declared.action.Op.{Op}
use Rattle.gr_lang.specs.declared.action.Op.TheVariants as o
use Rattle.gr_lang.specs.declared.action.How.{How}
use Rattle.gr_lang.specs.declared.action.Action.{Action}
use Rattle.gr_lang.specs.declared.action.Action.TheVariants as a
use Rattle.gr_lang.specs.declared.action.TrapKind.TheVariants as trap
use Rattle.gr_lang.specs.declared.action.Reply.{Reply}
use Rattle.gr_lang.specs.Locals.{Locals, set_word}
use Rattle.gr_lang.specs.Expressions.{value, values}
use Rattle.gr_lang.specs.Openings.{opening, object_of}
use Rattle.gr_lang.specs.Parts.{op_of}
use Rattle.gr_lang.specs.Next.{Todo, Running, run, arrive, runs, Look, pure, acts, look, look_at, look_set, look_todo, next, at_limit, after_look, Stands, go_on, go_on_todo, go_on_at, set_all, how_of, acted, named_action, call_action, print_action, reducer_number, spawn_action, loop_action, fits}
use Rattle.gr_net.specs.Sums.{Each}
use Rattle.gr_fits_words.specs.Literals.{expr_fits, exprs_fit, right_fits, how_fits, stmt_step, stmt_fits, stmts_fit}
use Rattle.gr_fits_words.specs.Words.{IsWord, MayBeWord, CallHasWords, ActionHasWords, ReplyHasWords, LocalsHaveWords, ToDoFits, RunningHasWords, StandHasWords}
use Rattle.gr_fits_words.proofs.Numbers.{both, index_word}
use Rattle.gr_fits_words.proofs.Expressions.{word_set, expr_word, exprs_words, MayBeWords}

-- ---- actions

op_words : (operation : Operation) (object k : ℕ) (ws : List ℕ) → Each IsWord ws → CallHasWords (op_of operation object k ws)
op_words n.Read object k ws h = tt
op_words n.Write object k ws h = index_word ws 1 h
op_words n.Add object k ws h = tt
op_words n.Cas object k ws h = index_word ws 2 h
op_words n.Reduce object k ws h = index_word ws 1 h
op_words n.Insert object k ws h = tt
op_words n.Remove object k ws h = tt
op_words n.Has object k ws h = tt
op_words n.Put object k ws h = index_word ws 1 h
op_words n.Merge object k ws h = index_word ws 1 h
op_words n.Get object k ws h = tt
op_words n.Erase object k ws h = tt
op_words n.Push object k ws h = index_word ws 0 h
op_words n.Pop object k ws h = tt
op_words n.Dequeue object k ws h = tt
op_words n.Alloc object k ws h = tt
op_words n.Free object k ws h = tt

if_words : (op : Op) (t : Bool) → CallHasWords op → ActionHasWords (if t then a.Call op else a.Trap trap.Place)
if_words op true h = h
if_words op false h = tt

acted_words : (f : List ℕ → Action) (ws : Option (List ℕ)) (locals : Locals) (known : LocalsHaveWords locals) → MayBeWords locals known ws → ((xs : List ℕ) → Each IsWord xs → ActionHasWords (f xs)) → ActionHasWords (acted f ws)
acted_words f None locals known h g = tt
acted_words f (Some xs) locals known h g = g xs h

named_words : (p : Program) (operation : Option Operation) (object k : ℕ) (ws : List ℕ) → Each IsWord ws → ActionHasWords (named_action p operation object k ws)
named_words p None object k ws h = tt
named_words p (Some operation) object k ws h = if_words (op_of operation object k ws) (fits (opening p) (op_of operation object k ws)) (op_words operation object k ws h)

call_words : (p : Program) (locals : Locals) (c : CallText) → LocalsHaveWords locals → exprs_fit c.args ≡ true → ActionHasWords (call_action p locals c)
call_words p locals c h k =
    acted_words _ (values locals c.args) locals h (exprs_words locals h c.args k) (named_words p (operation_of c.op.text) (object_of p c.object.text) (reducer_number c.reducer))

print_words : (locals : Locals) (e : Expr) → ActionHasWords (print_action locals e)
print_words locals e = by (value locals e)
  where
    by : (w : Option ℕ) → ActionHasWords (option_map_or (λ word. a.Call (o.Print word)) w (a.Trap trap.Div))
    by None = tt
    by (Some w) = tt

spawn_words : (p : Program) (locals : Locals) (way : Option How) (target : Name) (args : List Expr) → LocalsHaveWords locals → exprs_fit args ≡ true → ActionHasWords (spawn_action p locals way target args)
spawn_words p locals None target args h k = tt
spawn_words p locals (Some way) target args h k = acted_words _ (values locals args) locals h (exprs_words locals h args k) (λ xs g. g)

loop_words : (p : Program) (target : Name) (ws : List ℕ) → Each IsWord ws → ActionHasWords (loop_action p target ws)
loop_words p target [] h = tt
loop_words p target (lo ∷ []) h = tt
loop_words p target (lo ∷ hi ∷ []) h = tt
loop_words p target (lo ∷ hi ∷ grain ∷ ws) h = (h.1.0, h.1.1.1)

-- ---- one level of a statement

abbrev LevelFits : Stmt-F Stmt → Type 0
LevelFits (Stmt-F.Set1 fresh targets right) = right_fits right ≡ true
LevelFits (Stmt-F.Do call) = exprs_fit call.args ≡ true
LevelFits (Stmt-F.Print expr) = expr_fits expr ≡ true
LevelFits (Stmt-F.If test one other) = (expr_fits test ≡ true) × (stmts_fit one ≡ true) × (stmts_fit other ≡ true)
LevelFits (Stmt-F.While test body) = (expr_fits test ≡ true) × (stmts_fit body ≡ true)
LevelFits (Stmt-F.Finish body) = stmts_fit body ≡ true
LevelFits (Stmt-F.Spawn way target args) = exprs_fit args ≡ true
LevelFits (Stmt-F.Forall lo hi grain target args) = exprs_fit (lo ∷ hi ∷ grain ∷ args) ≡ true

level_fits : (s : Stmt) → stmt_fits s ≡ true → LevelFits (out-Stmt s)
level_fits s h = by (out-Stmt s) (subst (λ y. stmt_fits y ≡ true) (sym (roll-out-Stmt s)) h)
  where
    by : (x : Stmt-F Stmt) → stmt_fits (roll-Stmt x) ≡ true → LevelFits x
    by (Stmt-F.Set1 fresh targets right) h = sym (fold-roll-Stmt Bool stmt_step (Stmt-F.Set1 fresh targets right)) ∙ h
    by (Stmt-F.Do call) h = sym (fold-roll-Stmt Bool stmt_step (Stmt-F.Do call)) ∙ h
    by (Stmt-F.Print expr) h = sym (fold-roll-Stmt Bool stmt_step (Stmt-F.Print expr)) ∙ h
    by (Stmt-F.If test one other) h =
        let k = both (expr_fits test) (stmts_fit one && stmts_fit other) (sym (fold-roll-Stmt Bool stmt_step (Stmt-F.If test one other)) ∙ h) in
        let m = both (stmts_fit one) (stmts_fit other) k.1 in
        (k.0, m.0, m.1)
    by (Stmt-F.While test body) h = both (expr_fits test) (stmts_fit body) (sym (fold-roll-Stmt Bool stmt_step (Stmt-F.While test body)) ∙ h)
    by (Stmt-F.Finish body) h = sym (fold-roll-Stmt Bool stmt_step (Stmt-F.Finish body)) ∙ h
    by (Stmt-F.Spawn way target args) h = (both (how_fits way) (exprs_fit args) (sym (fold-roll-Stmt Bool stmt_step (Stmt-F.Spawn way target args)) ∙ h)).1
    by (Stmt-F.Forall lo hi grain target args) h = sym (fold-roll-Stmt Bool stmt_step (Stmt-F.Forall lo hi grain target args)) ∙ h

entered : (ss : List Stmt) (rest : List Todo) → stmts_fit ss ≡ true → ToDoFits rest → ToDoFits (runs ss ++ rest)
entered [] rest h g = g
entered (s ∷ ss) rest h g = let k = both (stmt_fits s) (stmts_fit ss) h in (k.0, entered ss rest k.1 g)

pub alone : (ss : List Stmt) → stmts_fit ss ≡ true → ToDoFits (runs ss)
alone [] h = tt
alone (s ∷ ss) h = let k = both (stmt_fits s) (stmts_fit ss) h in (k.0, alone ss k.1)

all_set : (locals : Locals) (ns : List Name) (ws : List ℕ) → LocalsHaveWords locals → Each IsWord ws → LocalsHaveWords (set_all locals ns ws)
all_set locals [] ws h k = h
all_set locals (x ∷ xs) [] h k = h
all_set locals (x ∷ xs) (w ∷ ws) h k = all_set (set_word locals x.text w) xs ws (word_set locals x.text w h k.0) k.1

-- ---- one look

abbrev LookHasWords : Look → Type 0
LookHasWords (pure None) = Unit {0}
LookHasWords (pure (Some u)) = RunningHasWords u
LookHasWords (acts action) = ActionHasWords action

set_looks : (t : Running) (rest : List Todo) (targets : List Name) (w : Option ℕ) → RunningHasWords t → ToDoFits rest → MayBeWord w
    → LookHasWords (pure (option_map (λ w. record { todo = rest; locals = set_all t.locals targets (w ∷ []) }) w))
set_looks t rest targets None h g k = tt
set_looks t rest targets (Some w) h g k = record { locals = all_set t.locals targets (w ∷ []) h.locals (k, tt); todo = g }

branch : (t : Bool) (one other : List Stmt) (rest : List Todo) → stmts_fit one ≡ true → stmts_fit other ≡ true → ToDoFits rest → ToDoFits (runs (if t then other else one) ++ rest)
branch true one other rest f g h = entered other rest g h
branch false one other rest f g h = entered one rest f h

if_looks : (t : Running) (rest : List Todo) (one other : List Stmt) (w : Option ℕ) → RunningHasWords t → ToDoFits rest → stmts_fit one ≡ true → stmts_fit other ≡ true
    → LookHasWords (pure (option_map (λ w. record { todo = runs (if w == 0 then other else one) ++ rest; locals = t.locals }) w))
if_looks t rest one other None h g f k = tt
if_looks t rest one other (Some w) h g f k = record { locals = h.locals; todo = branch (w == 0) one other rest f k g }

round : (b : Bool) (t : Running) (rest : List Todo) (body : List Stmt) → stmts_fit body ≡ true → ToDoFits rest → ToDoFits t.todo → ToDoFits (if b then rest else runs body ++ t.todo)
round true t rest body f g h = g
round false t rest body f g h = entered body t.todo f h

while_looks : (t : Running) (rest : List Todo) (body : List Stmt) (w : Option ℕ) → RunningHasWords t → ToDoFits rest → stmts_fit body ≡ true
    → LookHasWords (pure (option_map (λ w. record { todo = if w == 0 then rest else runs body ++ t.todo; locals = t.locals }) w))
while_looks t rest body None h g f = tt
while_looks t rest body (Some w) h g f = record { locals = h.locals; todo = round (w == 0) t rest body f g h.todo }

right_looks : (p : Program) (t : Running) (rest : List Todo) (targets : List Name) (right : Right) → RunningHasWords t → ToDoFits rest → right_fits right ≡ true → LookHasWords (look_set p t rest targets right)
right_looks p t rest targets (r.Value e) h g k = set_looks t rest targets (value t.locals e) h g (expr_word t.locals h.locals e k)
right_looks p t rest targets (r.Result c) h g k = call_words p t.locals c h.locals k

at_looks : (p : Program) (t : Running) (rest : List Todo) (s : Stmt-F Stmt) → RunningHasWords t → ToDoFits rest → LevelFits s → LookHasWords (look_at p t rest s)
at_looks p t rest (Stmt-F.Set1 fresh targets right) h g k = right_looks p t rest targets right h g k
at_looks p t rest (Stmt-F.Do c) h g k = call_words p t.locals c h.locals k
at_looks p t rest (Stmt-F.Print e) h g k = print_words t.locals e
at_looks p t rest (Stmt-F.If test one other) h g k = if_looks t rest one other (value t.locals test) h g k.1 k.2
at_looks p t rest (Stmt-F.While test body) h g k = while_looks t rest body (value t.locals test) h g k.1
at_looks p t rest (Stmt-F.Finish body) h g k = tt
at_looks p t rest (Stmt-F.Spawn way target args) h g k = spawn_words p t.locals (how_of t.locals way) target args h.locals k
at_looks p t rest (Stmt-F.Forall lo hi grain target args) h g k =
    acted_words (loop_action p target) (values t.locals (lo ∷ hi ∷ grain ∷ args)) t.locals h.locals (exprs_words t.locals h.locals (lo ∷ hi ∷ grain ∷ args) k) (loop_words p target)

todo_looks : (p : Program) (t : Running) (todo : List Todo) → RunningHasWords t → ToDoFits todo → LookHasWords (look_todo p t todo)
todo_looks p t [] h g = tt
todo_looks p t (arrive ∷ rest) h g = tt
todo_looks p t (run x ∷ rest) h g = at_looks p t rest (out-Stmt x) h g.1 (level_fits x g.0)

looks : (p : Program) (t : Running) → RunningHasWords t → LookHasWords (look p t)
unfolding look
looks p t h = todo_looks p t t.todo h h.todo

-- ---- the next action

abbrev Fits : Stands → Type 0
Fits at = StandHasWords at.0 at.1

limit_words : (t : Running) (x : Look) → RunningHasWords t → LookHasWords x → Fits (at_limit t x)
limit_words t (acts action) h k = record { action = k; running = h }
limit_words t (pure u) h k = record { action = tt; running = h }

step_words : (t : Running) (f : Running → Stands) (x : Look) → RunningHasWords t → LookHasWords x → ((u : Running) → RunningHasWords u → Fits (f u)) → Fits (after_look f t x)
step_words t f (acts action) h k g = record { action = k; running = h }
step_words t f (pure None) h k g = record { action = tt; running = h }
step_words t f (pure (Some u)) h k g = g u k

pub next_words : (p : Program) (L : ℕ) (t : Running) → RunningHasWords t → Fits (next p L t)
unfolding next
next_words p zero t h = limit_words t (look p t) h (looks p t h)
next_words p (suc n) t h = step_words t (next p n) (look p t) h (looks p t h) (λ u k. next_words p n u k)

-- ---- how a task goes on

at_on : (t : Running) (rest : List Todo) (w : Reply) (s : Stmt-F Stmt) → RunningHasWords t → ToDoFits rest → ReplyHasWords w → LevelFits s → RunningHasWords (go_on_at t rest w s)
at_on t rest w (Stmt-F.Set1 fresh targets right) h g k f = record { locals = all_set t.locals targets (w.first ∷ w.second ∷ []) h.locals (k.0, (k.1, tt)); todo = g }
at_on t rest w (Stmt-F.Finish body) h g k f = record { locals = h.locals; todo = entered body (arrive ∷ rest) f g }
at_on t rest w (Stmt-F.Do c) h g k f = record { locals = h.locals; todo = g }
at_on t rest w (Stmt-F.Print e) h g k f = record { locals = h.locals; todo = g }
at_on t rest w (Stmt-F.If test one other) h g k f = record { locals = h.locals; todo = g }
at_on t rest w (Stmt-F.While test body) h g k f = record { locals = h.locals; todo = g }
at_on t rest w (Stmt-F.Spawn way target args) h g k f = record { locals = h.locals; todo = g }
at_on t rest w (Stmt-F.Forall lo hi grain target args) h g k f = record { locals = h.locals; todo = g }

todo_on : (t : Running) (todo : List Todo) (w : Reply) → RunningHasWords t → ToDoFits todo → ReplyHasWords w → RunningHasWords (go_on_todo t todo w)
todo_on t [] w h g k = h
todo_on t (arrive ∷ rest) w h g k = record { locals = h.locals; todo = g }
todo_on t (run x ∷ rest) w h g k = at_on t rest w (out-Stmt x) h g.1 k (level_fits x g.0)

pub goes_on_words : (t : Running) (w : Reply) → RunningHasWords t → ReplyHasWords w → RunningHasWords (go_on t w)
unfolding go_on
goes_on_words t w h k = todo_on t t.todo w h h.todo k
