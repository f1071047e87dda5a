-- How many ends of finishes are left to do, along pure steps and from action to action.
use Rattle.std.proofs.Common.{◌≡◌, ◌⊎◌, ℕ, zero, suc, ◌+◌, ◌==◌, if◌then◌else◌, Bool, true, false, List, [], ◌∷◌, ◌++◌, map, length, slice_get, inl, inr, sym, ◌∙◌, ap, subst, refl, arith, Option, Some, None}
use Rattle.std.specs.Option.{option_map, option_map_or}
use Rattle.gr_syntax.specs.declared.syntax.Stmt.{Stmt, out-Stmt}
use Rattle.gr_syntax.specs.declared.syntax.Stmt.TheOpen.{Stmt-F}
use Rattle.gr_syntax.specs.declared.syntax.Expr.{Expr}
use Rattle.gr_syntax.specs.declared.syntax.Name.{Name}
use Rattle.gr_syntax.specs.declared.syntax.Right.{Right}
use Rattle.gr_syntax.specs.declared.syntax.Right.TheVariants as right
use Rattle.gr_syntax.specs.declared.syntax.CallText.{CallText}
use Rattle.gr_syntax.specs.declared.syntax.Program.{Program}
use Rattle.gr_syntax.specs.Items.{TaskText, tasks_of}
use Rattle.gr_accept.specs.declared.operation.Operation.{Operation}
use Rattle.gr_accept.specs.Operations.{operation_of}
use Rattle.gr_lang.specs.declared.action.Action.{Action}
use Rattle.gr_lang.specs.declared.action.Action.TheVariants as action
use Rattle.gr_lang.specs.declared.action.Op.{Op}
use Rattle.gr_lang.specs.declared.action.Op.TheVariants as op
use Rattle.gr_lang.specs.declared.action.How.{How}
use Rattle.gr_lang.specs.declared.action.Reply.{Reply}
use Rattle.gr_lang.specs.declared.action.TrapKind.TheVariants as trap
use Rattle.gr_lang.specs.Expressions.{value, values}
use Rattle.gr_lang.specs.Locals.{Locals}
use Rattle.gr_lang.specs.Parts.{op_of}
use Rattle.gr_lang.specs.Openings.{opening, object_of}
use Rattle.gr_lang.specs.Next.{Todo, run, arrive, Running, runs, Look, pure, acts, look, look_todo, look_at, look_set, Stands, at_limit, after_look, next, go_on, go_on_at, go_on_todo, start, start_at, acted, if_fits, fits, named_action, call_action, print_action, spawn_action, how_of, loop_action, reducer_number}
use Rattle.gr_msg.specs.declared.message.ScopeId.{ScopeId}
use Rattle.gr_machine.specs.declared.waits.Waits.{Waits}
use Rattle.gr_machine.specs.declared.waits.Waits.TheVariants as wait
use Rattle.gr_machine.specs.States.{Suspended}
use Rattle.gr_machine.specs.Slots.{goes_on}
use Rattle.gr_stands.specs.Worlds.{Given, machine_in}
use Rattle.gr_scopes.specs.Depths.{arrivals, one_for_loop, at_loop, IsTrap, StandsFirst, HasDepth}

-- ---- lists of what is to do

arrivals_append : (xs ys : List Todo) → arrivals (xs ++ ys) ≡ arrivals xs + arrivals ys
arrivals_append [] ys = omega arith
arrivals_append (run s ∷ xs) ys = arrivals_append xs ys
arrivals_append (arrive ∷ xs) ys = omega (arith, arrivals_append xs ys)

arrivals_runs : (ss : List Stmt) → arrivals (runs ss) ≡ 0
arrivals_runs [] = refl
arrivals_runs (s ∷ ss) = arrivals_runs ss

before_rest : (ss : List Stmt) (rest : List Todo) → arrivals (runs ss ++ rest) ≡ arrivals rest
before_rest ss rest = omega (arith, arrivals_append (runs ss) rest, arrivals_runs ss)

-- ---- pure steps

acts_pure : (a : Action) (o : Option Running) → acts a ≡ pure o → ⊥
acts_pure a o e = cc

pure_some : (r u : Running) → pure (Some r) ≡ pure (Some u) → r ≡ u
pure_some r u e = cc

pure_none : (u : Running) → pure None ≡ pure (Some u) → ⊥
pure_none u e = cc

module _ (r u : Running) (rest : List Todo) where
  by_word : (f : ℕ → Running) (o : Option ℕ) → ((word : ℕ) → arrivals (f word).todo ≡ arrivals rest) → pure (option_map f o) ≡ pure (Some u) → arrivals u.todo ≡ arrivals rest
  by_word f None same e = absurd (pure_none u e)
  by_word f (Some word) same e = ap (λ (x : Running). arrivals x.todo) (sym (pure_some (f word) u e)) ∙ same word

  if_branches : (one other : List Stmt) (b : Bool) → arrivals (runs (if b then other else one) ++ rest) ≡ arrivals rest
  if_branches one other true = before_rest other rest
  if_branches one other false = before_rest one rest

  while_branches : (body : List Stmt) (s : Stmt) → r.todo ≡ run s ∷ rest → (b : Bool) → arrivals (if b then rest else runs body ++ r.todo) ≡ arrivals rest
  while_branches body s e true = refl
  while_branches body s e false = before_rest body r.todo ∙ ap arrivals e

  pure_at : (program : Program) (s : Stmt) (x : Stmt-F Stmt) → r.todo ≡ run s ∷ rest → look_at program r rest x ≡ pure (Some u) → arrivals u.todo ≡ arrivals rest
  pure_at program s (Stmt-F.Set1 fresh targets (right.Value expr)) e h = by_word _ (value r.locals expr) (λ word. refl) h
  pure_at program s (Stmt-F.Set1 fresh targets (right.Result call)) e h = absurd (acts_pure _ _ h)
  pure_at program s (Stmt-F.Do call) e h = absurd (acts_pure _ _ h)
  pure_at program s (Stmt-F.Print expr) e h = absurd (acts_pure _ _ h)
  pure_at program s (Stmt-F.If test one other) e h = by_word _ (value r.locals test) (λ word. if_branches one other (word == 0)) h
  pure_at program s (Stmt-F.While test body) e h = by_word _ (value r.locals test) (λ word. while_branches body s e (word == 0)) h
  pure_at program s (Stmt-F.Finish body) e h = absurd (acts_pure _ _ h)
  pure_at program s (Stmt-F.Spawn way target args) e h = absurd (acts_pure _ _ h)
  pure_at program s (Stmt-F.Forall lo hi grain target args) e h = absurd (acts_pure _ _ h)

pure_keeps : (program : Program) (r u : Running) → look program r ≡ pure (Some u) → arrivals u.todo ≡ arrivals r.todo
unfolding look
pure_keeps program r u h = go r.todo refl h
  where
    go : (todo : List Todo) → r.todo ≡ todo → look_todo program r todo ≡ pure (Some u) → arrivals u.todo ≡ arrivals r.todo
    go [] e h = absurd (acts_pure _ _ h)
    go (arrive ∷ rest) e h = absurd (acts_pure _ _ h)
    go (run s ∷ rest) e h = pure_at r u rest program s (out-Stmt s) e h ∙ sym (ap arrivals e)

-- ---- the next action

-- It stands first in the state in which it stands, and as many ends of finishes are left.
pub record Nexts (program : Program) (before : Running) (at : Stands) : Type 0 where
  pub first : StandsFirst program at.1 at.0
  pub arrivals_are : arrivals at.1.todo ≡ arrivals before.todo

pub nexts : (program : Program) (limit : ℕ) (r : Running) → Nexts program r (next program limit r)
unfolding next
nexts program zero r = go (look program r) refl
  where
    go : (l : Look) → look program r ≡ l → Nexts program r (at_limit r l)
    go (acts a) e = record { first = inl e; arrivals_are = refl }
    go (pure o) e = record { first = inr tt; arrivals_are = refl }
nexts program (suc left) r = go (λ u. nexts program left u) (look program r) refl
  where
    go : ((u : Running) → Nexts program u (next program left u)) → (l : Look) → look program r ≡ l → Nexts program r (after_look (next program left) r l)
    go rec (acts a) e = record { first = inl e; arrivals_are = refl }
    go rec (pure None) e = record { first = inr tt; arrivals_are = refl }
    go rec (pure (Some u)) e = record { first = (rec u).first; arrivals_are = (rec u).arrivals_are ∙ pure_keeps program r u e }

start_none : (o : Option TaskText) (words : List ℕ) → arrivals (start_at o words).todo ≡ 0
start_none None words = refl
start_none (Some t) words = arrivals_runs t.body

pub starts_none : (program : Program) (target : ℕ) (words : List ℕ) → arrivals (start program target words).todo ≡ 0
unfolding start
starts_none program target words = start_none (slice_get (tasks_of program.items) target) words

-- ---- from action to action

abbrev pub one_for_arrive : Action → ℕ
one_for_arrive action.Arrive = 1
one_for_arrive _ = 0

abbrev pub one_for_finish : Action → ℕ
one_for_finish action.Finish = 1
one_for_finish _ = 0

abbrev pub one_for_end : Action → ℕ
one_for_end action.End = 1
one_for_end _ = 0

record IsOrdinary (a : Action) : Type 0 where
  no_arrive : one_for_arrive a ≡ 0
  no_finish : one_for_finish a ≡ 0
  no_end : one_for_end a ≡ 0

acted_ordinary : (f : List ℕ → Action) (o : Option (List ℕ)) → ((words : List ℕ) → IsOrdinary (f words)) → IsOrdinary (acted f o)
acted_ordinary f None all = record { no_arrive = refl; no_finish = refl; no_end = refl }
acted_ordinary f (Some words) all = all words

fits_ordinary : (program : Program) (op : Op) → IsOrdinary (if_fits program op)
fits_ordinary program op = go (fits (opening program) op)
  where
    go : (b : Bool) → IsOrdinary (if b then action.Call op else action.Trap trap.Place)
    go true = record { no_arrive = refl; no_finish = refl; no_end = refl }
    go false = record { no_arrive = refl; no_finish = refl; no_end = refl }

named_ordinary : (program : Program) (o : Option Operation) (object reducer : ℕ) (words : List ℕ) → IsOrdinary (named_action program o object reducer words)
named_ordinary program None object reducer words = record { no_arrive = refl; no_finish = refl; no_end = refl }
named_ordinary program (Some operation) object reducer words = fits_ordinary program (op_of operation object reducer words)

call_ordinary : (program : Program) (locals : Locals) (call : CallText) → IsOrdinary (call_action program locals call)
call_ordinary program locals call = acted_ordinary _ (values locals call.args) (λ words. named_ordinary program (operation_of call.op.text) (object_of program call.object.text) (reducer_number call.reducer) words)

print_ordinary : (locals : Locals) (expr : Expr) → IsOrdinary (print_action locals expr)
print_ordinary locals expr = elim (value locals expr) as (λ o. IsOrdinary (option_map_or (λ word. action.Call (op.Print word)) o (action.Trap trap.Div))) [
  | None ↦ record { no_arrive = refl; no_finish = refl; no_end = refl }
  | Some word ↦ record { no_arrive = refl; no_finish = refl; no_end = refl }
]

spawn_ordinary : (program : Program) (locals : Locals) (way : Option How) (target : Name) (args : List Expr) → IsOrdinary (spawn_action program locals way target args)
spawn_ordinary program locals None target args = record { no_arrive = refl; no_finish = refl; no_end = refl }
spawn_ordinary program locals (Some way) target args = acted_ordinary _ (values locals args) (λ words. record { no_arrive = refl; no_finish = refl; no_end = refl })

loop_ordinary : (program : Program) (target : Name) (words : List ℕ) → IsOrdinary (loop_action program target words)
loop_ordinary program target [] = record { no_arrive = refl; no_finish = refl; no_end = refl }
loop_ordinary program target (lo ∷ []) = record { no_arrive = refl; no_finish = refl; no_end = refl }
loop_ordinary program target (lo ∷ hi ∷ []) = record { no_arrive = refl; no_finish = refl; no_end = refl }
loop_ordinary program target (lo ∷ hi ∷ grain ∷ words) = record { no_arrive = refl; no_finish = refl; no_end = refl }

-- What going on after an action does to the ends of finishes that are left; and none is left at the end of the body.
pub record GoesOn (r after : Running) (due : Action) : Type 0 where
  pub arrivals_are : arrivals after.todo + one_for_arrive due ≡ arrivals r.todo + one_for_finish due
  pub at_end : one_for_end due ≡ 1 → arrivals r.todo ≡ 0

same_action : (a b : Action) → acts a ≡ acts b → a ≡ b
same_action a b e = cc

pure_acts : (o : Option Running) (a : Action) → pure o ≡ acts a → ⊥
pure_acts o a e = cc

module _ (program : Program) (r : Running) (word : Reply) (due : Action) (s : Stmt) (rest : List Todo) (e : r.todo ≡ run s ∷ rest) where
  ordinary : (a : Action) (after : Running) → IsOrdinary a → after.todo ≡ rest → acts a ≡ acts due → GoesOn r after due
  ordinary a after o same h =
      let q : a ≡ due = same_action a due h in
      let f : one_for_arrive due ≡ 0 = ap one_for_arrive (sym q) ∙ o.no_arrive in
      let g : one_for_finish due ≡ 0 = ap one_for_finish (sym q) ∙ o.no_finish in
      let k : one_for_end due ≡ 0 = ap one_for_end (sym q) ∙ o.no_end in
      record { arrivals_are = omega (arith, ap arrivals same, ap arrivals e); at_end = λ z. absurd (omega arith) }

  goes_at : (x : Stmt-F Stmt) → look_at program r rest x ≡ acts due → GoesOn r (go_on_at r rest word x) due
  goes_at (Stmt-F.Set1 fresh targets (right.Value expr)) h = absurd (pure_acts _ _ h)
  goes_at (Stmt-F.Set1 fresh targets (right.Result call)) h = ordinary _ _ (call_ordinary program r.locals call) refl h
  goes_at (Stmt-F.Do call) h = ordinary _ _ (call_ordinary program r.locals call) refl h
  goes_at (Stmt-F.Print expr) h = ordinary _ _ (print_ordinary r.locals expr) refl h
  goes_at (Stmt-F.If test one other) h = absurd (pure_acts _ _ h)
  goes_at (Stmt-F.While test body) h = absurd (pure_acts _ _ h)
  goes_at (Stmt-F.Finish body) h =
      let q : action.Finish ≡ due = same_action action.Finish due h in
      let f : one_for_arrive due ≡ 0 = ap one_for_arrive (sym q) in
      let g : one_for_finish due ≡ 1 = ap one_for_finish (sym q) in
      let k : one_for_end due ≡ 0 = ap one_for_end (sym q) in
      record { arrivals_are = omega (arith, before_rest body (arrive ∷ rest), ap arrivals e); at_end = λ z. absurd (omega arith) }
  goes_at (Stmt-F.Spawn way target args) h = ordinary _ _ (spawn_ordinary program r.locals (how_of r.locals way) target args) refl h
  goes_at (Stmt-F.Forall lo hi grain target args) h = ordinary _ _ (acted_ordinary _ (values r.locals (lo ∷ hi ∷ grain ∷ args)) (loop_ordinary program target)) refl h

pub goes_to : (program : Program) (r : Running) (word : Reply) (due : Action) → look program r ≡ acts due → GoesOn r (go_on r word) due
unfolding look go_on
goes_to program r word due h = go r.todo refl h
  where
    go : (todo : List Todo) → r.todo ≡ todo → look_todo program r todo ≡ acts due → GoesOn r (go_on_todo r todo word) due
    go [] e h =
        let q : action.End ≡ due = same_action action.End due h in
        let f : one_for_arrive due ≡ 0 = ap one_for_arrive (sym q) in
        let g : one_for_finish due ≡ 0 = ap one_for_finish (sym q) in
        record { arrivals_are = omega arith; at_end = λ z. ap arrivals e }
    go (arrive ∷ rest) e h =
        let q : action.Arrive ≡ due = same_action action.Arrive due h in
        let f : one_for_arrive due ≡ 1 = ap one_for_arrive (sym q) in
        let g : one_for_finish due ≡ 0 = ap one_for_finish (sym q) in
        let k : one_for_end due ≡ 0 = ap one_for_end (sym q) in
        record { arrivals_are = omega (arith, ap arrivals e); at_end = λ z. absurd (omega arith) }
    go (run s ∷ rest) e h = goes_at program r word due s rest e (out-Stmt s) h

-- ---- tasks

-- A task whose action is no trap.
no_trap : (program : Program) (r : Running) (a due : Action) → StandsFirst program r a → a ≡ due → (IsTrap due → ⊥) → look program r ≡ acts due
no_trap program r a due (inl e) q n = e ∙ ap acts q
no_trap program r a due (inr t) q n = absurd (n (subst IsTrap q t))

pub due_first : (program : Program) (task : Suspended) (due : Action) → HasDepth program task → task.action ≡ due → (IsTrap due → ⊥) → look program task.running ≡ acts due
due_first program task due d q n = no_trap program task.running task.action due d.first q n

-- It goes on after its action, with these scopes open.
pub depth_after : (given : Given) (task opener : Suspended) (word : Reply) (due : Action) → HasDepth given.program task → task.action ≡ due → (IsTrap due → ⊥) → opener.running ≡ task.running
    → length opener.opened + (one_for_arrive due + at_loop task.waits task.action) ≡ length task.opened + one_for_finish due
    → HasDepth given.program (goes_on (machine_in given) opener word)
depth_after given task opener word due d q n same open_ones =
    let g = goes_to given.program task.running word due (due_first given.program task due d q n) in
    let after = nexts given.program given.setup.steps (go_on opener.running word) in
    record {
      first = after.first;
      depth = omega (arith, after.arrivals_are, ap (λ (r : Running). arrivals (go_on r word).todo) same, g.arrivals_are, d.depth, open_ones);
    }

-- A task that starts has none open.
pub depth_new : (given : Given) (task : Suspended) (target : ℕ) (words : List ℕ) → task.action ≡ (next given.program given.setup.steps (start given.program target words)).0
    → task.running ≡ (next given.program given.setup.steps (start given.program target words)).1 → task.opened ≡ [] → task.waits ≡ wait.Going → HasDepth given.program task
depth_new given task target words act state none going =
    let at = nexts given.program given.setup.steps (start given.program target words) in
    record {
      first = subst (λ (a : Action). StandsFirst given.program task.running a) (sym act) (subst (λ (r : Running). StandsFirst given.program r (next given.program given.setup.steps (start given.program target words)).0) (sym state) at.first);
      depth = omega (arith, ap (length {A = ScopeId}) none, ap (λ (r : Running). arrivals r.todo) state, at.arrivals_are, starts_none given.program target words, ap (λ (w : Waits). at_loop w task.action) going);
    }

-- At the end of its body it has none.
pub depth_end : (program : Program) (task : Suspended) → HasDepth program task → task.action ≡ action.End → at_loop task.waits task.action ≡ 0 → length task.opened ≡ 0
depth_end program task d q z = omega (arith, d.depth, (goes_to program task.running (record { first = 0; second = 0 }) action.End (due_first program task action.End d q (λ t. t))).at_end refl)
