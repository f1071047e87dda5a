-- A core after an outcome that changes at most one slot, and the count and master of at most one scope.
use Rattle.std.proofs.Common.{◌≡◌, ◌⊎◌, ◌≢◌, ℕ, zero, suc, ◌+◌, ◌<◌, ◌≤◌, Bool, true, false, List, [], ◌∷◌, length, inl, inr, sym, ◌∙◌, ap, subst, refl, arith, Option, Some, None}
use Rattle.std.proofs.lemmas.Bool.{cases_eq}
use Rattle.gr_lang.specs.declared.action.TaskId.{TaskId}
use Rattle.gr_view.specs.Places.{put}
use Rattle.gr_msg.specs.Scopes.{same_scope}
use Rattle.gr_msg.specs.declared.message.ScopeId.{ScopeId}
use Rattle.gr_event.specs.declared.counts.LocalCount.{LocalCount}
use Rattle.gr_event.specs.declared.masters.Master.{Master}
use Rattle.gr_event.specs.declared.masters.Waiter.{Waiter}
use Rattle.gr_event.specs.declared.masters.Waiter.TheVariants as waiter
use Rattle.gr_net.proofs.Spreads.{put_same, put_other, put_each, put_field}
use Rattle.gr_machine.specs.declared.waits.Waits.{Waits}
use Rattle.gr_machine.specs.declared.waits.Waits.TheVariants as wait
use Rattle.gr_machine.specs.States.{Suspended, Body}
use Rattle.gr_machine.specs.Openings.{root_scope}
use Rattle.gr_stands.specs.Worlds.{Given}
use Rattle.gr_stands.specs.Censuses.{of_held}
use Rattle.gr_stands.specs.Calls.{of_slot, times}
use Rattle.gr_stands.specs.CallActs.{IsOther}
use Rattle.gr_scopes.specs.Trees.{Holder, Tree, Names, Rises, IsHeld}
use Rattle.gr_scopes.specs.Sums.{is_there, is_waited_for, is_enrolling, is_late, late_at, slots_in}
use Rattle.gr_scopes.specs.Scopes.{IsWaiter, WaitStands, SlotStands, IsWaitedForBy, WaiterStands, MasterStands, CountIsSome, CoreStands, NamesStand, RootStands}
use Rattle.gr_scopes.specs.ScopeActs.{KeepsOthers}
use Rattle.gr_scopes.proofs.Counts.{cases_scope, not_itself}
use Rattle.gr_scopes.proofs.Kept.{held_still}

-- What is done to a core: slot k has this task afterwards, and scope s maybe another count and master.
pub record CoreAct (given : Given) (more : Names) (after : Tree) (ids : List TaskId) (me : ℕ) (a b : Body) (k : ℕ) (o : Option Suspended) (s : ScopeId) : Type 0 where
  pub here : b.tasks.slots k ≡ o
  pub same : (l : ℕ) → l ≢ k → b.tasks.slots l ≡ a.tasks.slots l
  pub late : (q : ScopeId) → late_at q given.slots b + of_held (is_late q) (a.tasks.slots k) ≡ late_at q given.slots a + of_held (is_late q) o
  pub new : (u : Suspended) → o ≡ Some u → SlotStands given more after me b k u
  pub others : (l : ℕ) (u : Suspended) → l ≢ k → a.tasks.slots l ≡ Some u → IsOther ids u.id
  pub counts_off : (q : ScopeId) → same_scope q s ≡ false → b.scopes.counts q ≡ a.scopes.counts q
  pub count : CountIsSome (b.scopes.counts s)
  pub masters_off : (q : ScopeId) → same_scope q s ≡ false → b.scopes.masters q ≡ a.scopes.masters q
  pub master : (m : Master) → b.scopes.masters s ≡ Some m → MasterStands me b s m
  -- the task that was in the slot waits at no other scope, and each other that waits at this still stands at the master
  pub left : (u : Suspended) (q : ScopeId) → a.tasks.slots k ≡ Some u → u.waits ≡ wait.Scope q → q ≡ s
  pub stays : (l : ℕ) (u : Suspended) → l ≢ k → a.tasks.slots l ≡ Some u → IsWaiter a l u s → IsWaiter b l u s
  pub owners : (q : ScopeId) → is_waited_for (b.scopes.masters q) + of_held (is_late q) o + is_there (a.scopes.masters q)
      ≡ is_waited_for (a.scopes.masters q) + of_held (is_late q) (a.tasks.slots k) + is_there (b.scopes.masters q)
  pub waiters_here : (q : ScopeId) → times k (slots_in (b.scopes.counts q)) ≡ of_slot (is_enrolling q) o
  pub waiters_other : (q : ScopeId) (l : ℕ) → l ≢ k → times l (slots_in (b.scopes.counts q)) ≡ times l (slots_in (a.scopes.counts q))
  pub fresh : (number : ℕ) → b.scopes.next ≤ number → b.scopes.masters (record { core = me; number = number }) ≡ None

pub core_acted : (given : Given) (names more : Names) (before after : Tree) (ids : List TaskId) (me : ℕ) (a b : Body) (k : ℕ) (o : Option Suspended) (s : ScopeId)
    → KeepsOthers names more before after ids → CoreAct given more after ids me a b k o s → CoreStands given names before me a → CoreStands given more after me b
core_acted given names more before after ids me a b k o s keeps act old = record {
  counts = λ q. elim (cases_scope q s) [
    | inl e ↦ subst (λ (r : ScopeId). CountIsSome (b.scopes.counts r)) (sym e) act.count
    | inr e ↦ subst CountIsSome (sym (act.counts_off q e)) (old.counts q)
  ];
  masters = λ q m h. elim (cases_scope q s) [
    | inl e ↦ subst (λ (r : ScopeId). MasterStands me b r m) (sym e) (act.master m (ap b.scopes.masters (sym e) ∙ h))
    | inr e ↦ let f = old.masters q m (sym (act.masters_off q e) ∙ h) in record { home = f.home; alive = f.alive; waiter = waiter_still q e m.waiter f.waiter }
  ];
  owners = λ q. omega (arith, act.owners q, act.late q, old.owners q);
  waiters = λ q l. elim (cases_eq l k) [
    | inl e ↦ subst (λ (i : ℕ). times i (slots_in (b.scopes.counts q)) ≡ of_slot (is_enrolling q) (b.tasks.slots i)) (sym e) (act.waiters_here q ∙ ap (of_slot (is_enrolling q)) (sym act.here))
    | inr e ↦ act.waiters_other q l e ∙ old.waiters q l ∙ ap (of_slot (is_enrolling q)) (sym (act.same l e))
  ];
  slots = λ l u h. elim (cases_eq l k) [
    | inl e ↦ subst (λ (i : ℕ). SlotStands given more after me b i u) (sym e) (act.new u (sym act.here ∙ ap b.tasks.slots (sym e) ∙ h))
    | inr e ↦
        let there : a.tasks.slots l ≡ Some u = sym (act.same l e) ∙ h in
        let f = old.slots l u there in
        record { held = held_still given names more before after ids keeps u.id u.scope u.opened (act.others l u e there) f.held; homes = f.homes; depth = f.depth; waits = wait_still l u e there u.waits f.waits }
  ];
  fresh = act.fresh;
}
  where
    waiter_still : (q : ScopeId) → same_scope q s ≡ false → (w : Option Waiter) → WaiterStands a q w → WaiterStands b q w
    waiter_still q e None f = f
    waiter_still q e (Some waiter.Root) f = f
    waiter_still q e (Some (waiter.Task l)) f = elim (cases_eq l k) [
      | inl p ↦ absurd (not_itself s (subst (λ (r : ScopeId). same_scope r s ≡ false) (act.left f.task q (ap a.tasks.slots (sym p) ∙ f.there) f.waits) e))
      | inr p ↦ record { task = f.task; there = act.same l p ∙ f.there; waits = f.waits; inner = f.inner }
    ]

    wait_still : (l : ℕ) (u : Suspended) → l ≢ k → a.tasks.slots l ≡ Some u → (w : Waits) → WaitStands given a l u w → WaitStands given b l u w
    wait_still l u ne there (wait.Enrolment q) f = f
    wait_still l u ne there (wait.Scope q) f = elim (cases_scope q s) [
      | inl e ↦ subst (λ (r : ScopeId). IsWaiter b l u r) (sym e) (act.stays l u ne there (subst (λ (r : ScopeId). IsWaiter a l u r) e f))
      | inr e ↦ record { outer = f.outer; opened = f.opened; master = f.master; there = act.masters_off q e ∙ f.there; waits = f.waits; action = f.action }
    ]
    wait_still l u ne there _ f = f

-- ---- names and tree

-- Nothing changes at most for some.
pub keeps_all : (names : Names) (tree : Tree) (ids : List TaskId) → KeepsOthers names names tree tree ids
keeps_all names tree ids = record { named = λ number scope h. h; held = λ id holder other h. h }

-- The core gives no name.
pub named_same : (given : Given) (names : Names) (tree : Tree) (body : ℕ → Body) (me : ℕ) (b : Body) → b.scopes.next ≡ (body me).scopes.next → NamesStand given names body tree → NamesStand given names (put body me b) tree
named_same given names tree body me b e old = record {
  root = old.root;
  apart = old.apart;
  opened = old.opened;
  given_by = λ number scope h. let f = old.given_by number scope h in (f.0, subst (λ (i : ℕ). scope.number < i) (sym (put_field (λ (x : Body). x.scopes.next) body me b e scope.core)) f.1);
  rises = old.rises;
}

pub root_same : (tree : Tree) (body : ℕ → Body) (me : ℕ) (b : Body) → is_there (b.scopes.masters root_scope) ≡ is_there ((body me).scopes.masters root_scope) → b.stops.passed ≡ (body me).stops.passed
    → RootStands body tree → RootStands (put body me b) tree
root_same tree body me b e f old = record {
  master = put_field (λ (x : Body). is_there (x.scopes.masters root_scope)) body me b e 0 ∙ old.master;
  passed = put_field (λ (x : Body). x.stops.passed) body me b f 0 ∙ old.passed;
}
