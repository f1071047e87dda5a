-- What the events have in common: tasks that are nowhere else, names of scopes, and holders that are put.
use Rattle.std.proofs.Common.{◌≡◌, ◌⊎◌, ◌≢◌, ℕ, zero, suc, ◌+◌, ◌<◌, ◌≤◌, Bool, true, false, if◌then◌else◌, List, [], ◌∷◌, map, length, inl, inr, sym, ◌∙◌, ap, subst, refl, arith, lt_irrefl, Option, Some, None}
use Rattle.std.specs.FinMap as fin
use Rattle.std.proofs.lemmas.Bool.{cases_eq}
use Rattle.gr_lang.specs.declared.action.TaskId.{TaskId}
use Rattle.gr_lang.specs.States.{Mode, Task, State, going}
use Rattle.gr_lang.specs.States as plain
use Rattle.gr_msg.specs.Scopes.{same_scope}
use Rattle.gr_msg.specs.declared.message.ScopeId.{ScopeId}
use Rattle.gr_event.specs.declared.counts.LocalCount.{LocalCount}
use Rattle.gr_event.specs.declared.counts.LocalCount.TheVariants as count
use Rattle.gr_event.specs.declared.masters.Master.{Master}
use Rattle.gr_event.specs.declared.masters.Waiter.{Waiter}
use Rattle.gr_event.specs.declared.masters.Waiter.TheVariants as waiter
use Rattle.gr_net.specs.Sums.{total, weigh}
use Rattle.gr_net.proofs.Spreads.{total_one, total_two}
use Rattle.gr_machine.specs.declared.waits.Waits.{Waits}
use Rattle.gr_machine.specs.declared.waits.Waits.TheVariants as wait
use Rattle.gr_machine.specs.States.{Suspended, Body}
use Rattle.gr_machine.specs.Slots.{same_id, innermost, innermost_of}
use Rattle.gr_stands.specs.Worlds.{Given, World, bodies}
use Rattle.gr_stands.specs.Censuses.{of_held, body_census, census, is_named, is_task, is_unended, going_on}
use Rattle.gr_stands.specs.Calls.{of_slot, times, MessageFits, CallsStand}
use Rattle.gr_stands.specs.CallActs.{Apart, IsOther}
use Rattle.gr_stands.proofs.Places.{same_id_self, named_itself, unnamed, times_self, none_elsewhere}
use Rattle.gr_stands_calls.proofs.Slots.{slots_within, alone}
use Rattle.gr_scopes.specs.Trees.{Holder, Tree, tree_of, put_holder, Rises, Names, IsHeld, IsScope}
use Rattle.gr_scopes.specs.Sums.{if_scope, is_active, active_at, slots_in, is_enrolling}
use Rattle.gr_scopes.specs.Scopes.{WaitStands, IsWaitedForBy, WaiterStands, IsEnrolling, CountIsSome, CoreStands, NamesStand, ScopesStand}
use Rattle.gr_scopes.specs.ScopeActs.{AreAway}
use Rattle.gr_scopes.proofs.Counts.{cases_scope, if_scope_off}

pub some_same : {X : Type 0} (a b : X) → Some a ≡ Some b → a ≡ b
some_same a b e = cc

pub none_some : {X : Type 0} (a : X) → None ≡ Some a → ⊥
none_some a e = cc

-- ---- the task of a slot is nowhere else

module _ (given : Given) (w : World) (S : State) (me k : ℕ) (t : Suspended) (plain : Task) (old : CallsStand given w S) (there : (bodies w me).tasks.slots k ≡ Some t)
    (stands : fin.get S.tasks t.id ≡ Some plain) (mode : going_on plain.mode ≡ 1) where
  slot_other : (c l : ℕ) (u : Suspended) → Apart me k c l → (bodies w c).tasks.slots l ≡ Some u → same_id u.id t.id ≡ false
  unfolding census body_census
  slot_other c l u ne at =
      let n = given.setup.cores in
      let m = given.slots in
      let F : ℕ → ℕ = λ c. body_census (is_task t.id) m (bodies w c) in
      let W : ℕ → ℕ → ℕ = λ c l. of_held (is_task t.id).of_task ((bodies w c).tasks.slots l) in
      let mine = slots_within given w S old me k t there in
      let in_range = slots_within given w S old c l u at in
      let once : census (is_task t.id) given w ≡ 1 = old.once t.id ∙ ap is_unended stands ∙ mode in
      let here : W me k ≡ 1 = ap (of_held (is_task t.id).of_task) there ∙ named_itself t.id in
      let one : W me k ≤ total m (W me) = total_one (W me) m k mine.1 in
      let core : F me ≤ total n F = total_one F n me mine.0 in
      let weight : W c l ≡ is_named t.id u.id = ap (of_held (is_task t.id).of_task) at in
      unnamed t.id u.id (elim (cases_eq c me) [
        | inl q ↦ let in_me : W me l ≡ is_named t.id u.id = ap (λ (i : ℕ). W i l) (sym q) ∙ weight in
            omega (arith, in_me, total_two (W me) m l k in_range.1 mine.1 (λ r. ne (q, r)))
        | inr q ↦ omega (arith, total_two F n c me in_range.0 mine.0 q, weight, total_one (W c) m l in_range.1)
      ])

  pub others_here : (l : ℕ) (u : Suspended) → l ≢ k → (bodies w me).tasks.slots l ≡ Some u → IsOther (t.id ∷ []) u.id
  others_here l u ne at = (slot_other me l u (λ q. ne q.1) at, tt)

  pub one_away : AreAway given w me (t.id ∷ [])
  one_away =
      let apart = alone given w S me k t plain old there stands mode in
      record {
        slots = λ c l u ne at. (slot_other c l u (λ q. ne q.0) at, tt);
        private = apart.private;
        public = apart.public;
        messages = apart.messages;
      }

pub none_away : (given : Given) (w : World) (S : State) (me : ℕ) → CallsStand given w S → AreAway given w me []
none_away given w S me old =
    let apart = none_elsewhere given w (MessageFits given (bodies w) S) me 0 old.messages in
    record { slots = λ c l u ne at. tt; private = apart.private; public = apart.public; messages = apart.messages }

-- ---- names

pub innermost_named : (names : Names) (tree : Tree) (id : TaskId) (scope : ScopeId) (opened : List ScopeId) → IsHeld names tree id scope opened → IsScope names (innermost_of scope opened)
innermost_named names tree id scope opened h = go opened h.holder.opened h.opens
  where
    go : (ss : List ScopeId) (xs : List ℕ) → map names xs ≡ map Some ss → IsScope names (innermost_of scope ss)
    go [] xs e = record { number = h.holder.scope; named = h.inside }
    go (s ∷ ss) [] e = absurd (cc)
    go (s ∷ ss) (x ∷ xs) e = record { number = x; named = cc }

-- A slot that waits to enrol under a scope has a task whose innermost scope it is, and which has a name.
module _ (given : Given) (names : Names) (tree : Tree) (core : ℕ) (body : Body) (stands : CoreStands given names tree core body) where
  -- It is there.
  pub record Enrols (slot : ℕ) (s : ScopeId) : Type 0 where
    pub task : Suspended
    pub there : body.tasks.slots slot ≡ Some task
    pub waits : task.waits ≡ wait.Enrolment s
    pub fits : IsEnrolling given task s

  pub enrols_at : (s : ScopeId) (slot n : ℕ) → times slot (slots_in (body.scopes.counts s)) ≡ suc n → Enrols slot s
  enrols_at s slot n e = go (body.tasks.slots slot) refl (sym (stands.waiters s slot) ∙ e)
    where
      by_wait : (u : Suspended) → body.tasks.slots slot ≡ Some u → (w : Waits) → u.waits ≡ w → is_enrolling s w ≡ suc n → Enrols slot s
      by_wait u at (wait.Enrolment q) f z = elim (cases_scope s q) [
        | inl g ↦
            let waits : u.waits ≡ wait.Enrolment s = f ∙ ap wait.Enrolment (sym g) in
            record { task = u; there = at; waits = waits; fits = subst (λ (x : Waits). WaitStands given body slot u x) waits (stands.slots slot u at).waits }
        | inr g ↦ absurd (omega (arith, if_scope_off s q 1 g))
      ]
      by_wait u at _ f z = absurd (omega arith)

      go : (o : Option Suspended) → body.tasks.slots slot ≡ o → of_slot (is_enrolling s) o ≡ suc n → Enrols slot s
      go None at z = absurd (omega arith)
      go (Some u) at z = by_wait u at u.waits refl z

  -- A scope without a name has no slot that waits for it.
  pub no_waits : (s : ScopeId) (slots : List ℕ) → (IsScope names s → ⊥) → body.scopes.counts s ≡ Some (count.Waits slots) → ⊥
  no_waits s [] un e = lt_irrefl 0 (subst CountIsSome e (stands.counts s))
  no_waits s (x ∷ xs) un e =
      let h = enrols_at s x (times x xs) (ap (λ (c : Option LocalCount). times x (slots_in c)) e ∙ times_self x xs) in
      un (subst (IsScope names) h.fits.under (innermost_named names tree h.task.id h.task.scope h.task.opened (stands.slots x h.task h.there).held))

-- A scope without a name and a master isn't counted at its home.
pub no_count : (given : Given) (names : Names) (w : World) (tree : Tree) (s : ScopeId) → ScopesStand given names w tree → s.core < given.setup.cores → (IsScope names s → ⊥)
    → (bodies w s.core).scopes.masters s ≡ None → (bodies w s.core).scopes.counts s ≡ None
no_count given names w tree s sc here un z = go ((bodies w s.core).scopes.counts s) refl
  where
    go : (c : Option LocalCount) → (bodies w s.core).scopes.counts s ≡ c → (bodies w s.core).scopes.counts s ≡ None
    go None e = e
    go (Some (count.Active n)) e = absurd (omega (arith, sc.active s, ap active_at z, total_one (λ i. is_active ((bodies w i).scopes.counts s)) given.setup.cores s.core here, ap is_active e))
    go (Some (count.Waits slots)) e = absurd (no_waits given names tree s.core (bodies w s.core) (sc.cores s.core) s slots un e)

-- ---- trees

pub holder_at : (f : TaskId → Option Holder) (id : TaskId) (h : Holder) → put_holder f id h id ≡ Some h
unfolding put_holder
holder_at f id h = ap (λ (b : Bool). if b then Some h else f id) (same_id_self id)

pub holder_other : (f : TaskId → Option Holder) (id : TaskId) (h : Holder) (q : TaskId) → same_id q id ≡ false → put_holder f id h q ≡ f q
unfolding put_holder
holder_other f id h q e = ap (λ (b : Bool). if b then Some h else f q) e

pub rises_more : (scope top higher : ℕ) (xs : List ℕ) → top ≤ higher → Rises scope top xs → Rises scope higher xs
rises_more scope top higher [] l r = omega arith
rises_more scope top higher (x ∷ xs) l r = (omega (arith, r.0), r.1)

-- The innermost scope of a task, by its number.
pub inner_named : (names : Names) (x : ℕ) (xs : List ℕ) (scope : ScopeId) (ss : List ScopeId) → names x ≡ Some scope → map names xs ≡ map Some ss → names (plain.innermost_of x xs) ≡ Some (innermost_of scope ss)
inner_named names x [] scope [] e f = e
inner_named names x [] scope (s ∷ ss) e f = absurd (cc)
inner_named names x (y ∷ xs) scope [] e f = absurd (cc)
inner_named names x (y ∷ xs) scope (s ∷ ss) e f = cc

-- ---- who waits, where slots stay

pub waiter_same : (a b : Body) (s : ScopeId) → b.tasks.slots ≡ a.tasks.slots → (x : Option Waiter) → WaiterStands a s x → WaiterStands b s x
waiter_same a b s e None f = f
waiter_same a b s e (Some waiter.Root) f = f
waiter_same a b s e (Some (waiter.Task k)) f = record { task = f.task; there = ap (λ (x : ℕ → Option Suspended). x k) e ∙ f.there; waits = f.waits; inner = f.inner }

-- One slot changes in which no task waits for that.
pub waiter_other : (a b : Body) (s : ScopeId) (k : ℕ) → ((l : ℕ) → l ≢ k → b.tasks.slots l ≡ a.tasks.slots l) → ((u : Suspended) → a.tasks.slots k ≡ Some u → u.waits ≡ wait.Scope s → ⊥)
    → (x : Option Waiter) → WaiterStands a s x → WaiterStands b s x
waiter_other a b s k same not None f = f
waiter_other a b s k same not (Some waiter.Root) f = f
waiter_other a b s k same not (Some (waiter.Task l)) f = elim (cases_eq l k) [
  | inl e ↦ absurd (not f.task (ap a.tasks.slots (sym e) ∙ f.there) f.waits)
  | inr e ↦ record { task = f.task; there = same l e ∙ f.there; waits = f.waits; inner = f.inner }
]
