-- A task ends: the part of scopes is kept.
use Rattle.std.proofs.Common.{◌≡◌, ◌≢◌, ◌⊎◌, ℕ, zero, suc, ◌+◌, ◌<◌, ◌≤◌, Bool, true, false, if◌then◌else◌, List, [], ◌∷◌, length, inl, inr, sym, ◌∙◌, ap, subst, refl, arith, Option, Some, None, nat_lt}
use Rattle.std.proofs.lemmas.Bool.Decides.{nat_tests}
use Rattle.gr_lang.specs.declared.action.Action.TheVariants as action
use Rattle.gr_lang.specs.States.{State}
use Rattle.gr_msg.specs.declared.message.ScopeId.{ScopeId}
use Rattle.gr_msg.specs.declared.message.Msg.TheVariants as msg
use Rattle.gr_event.specs.declared.counts.LocalCount.{LocalCount}
use Rattle.gr_event.specs.declared.masters.Master.{Master}
use Rattle.gr_net.specs.Sums.{weigh, Each}
use Rattle.gr_machine.specs.declared.waits.Waits.{Waits}
use Rattle.gr_machine.specs.declared.waits.Waits.TheVariants as wait
use Rattle.gr_machine.specs.States.{Suspended, Body}
use Rattle.gr_machine.specs.Outcomes.{Outcome}
use Rattle.gr_machine.specs.Slots.{dropped}
use Rattle.gr_machine.specs.Runs.{acts, without_ready}
use Rattle.gr_machine.specs.ScopeRuns.{ends_at}
use Rattle.gr_stands.specs.Worlds.{Given, machine_in, World, bodies}
use Rattle.gr_stands.specs.Censuses.{of_held}
use Rattle.gr_stands.specs.Calls.{of_slot, times}
use Rattle.gr_stands_calls.specs.Acting.{IsFirst}
use Rattle.gr_stands_calls.proofs.Common.{first_goes}
use Rattle.gr_scopes.specs.Trees.{Tree, tree_of, Names}
use Rattle.gr_scopes.specs.Sums.{if_scope, if_core, is_enrolling, late_scopes, is_late, slots_in, of_scope}
use Rattle.gr_scopes.specs.Depths.{at_loop}
use Rattle.gr_scopes.specs.Scopes.{IsWaiter, SlotStands, MasterStands, CoreStands, ScopesStand}
use Rattle.gr_scopes.proofs.Counts.{if_core_off}
use Rattle.gr_scopes.proofs.Depths.{depth_end}
use Rattle.gr_scopes.proofs.Kept.{scopes_kept}
use Rattle.gr_scopes.proofs.Cores.{keeps_all, named_same, root_same}
use Rattle.gr_scopes_opens.specs.Keeping.{KeepsScopes, StandsWith}
use Rattle.gr_scopes_opens.proofs.Common.{some_same, none_some, none_away, waiter_same, waiter_other}
use Rattle.gr_scopes_opens.proofs.Ones.{slot_put, ScopeIs, put_scope_itself, OneAct, one_core, waiters_stay, OneSums, one_sums}
use Rattle.gr_scopes_leaves.specs.Laws as laws

module _ (given : Given) (names : Names) (w : World) (S : State) (me k : ℕ) (more : List ℕ) (t : Suspended) (st : StandsWith given names w S) (here : me < given.setup.cores) (first : IsFirst w me k more t) (due : t.action ≡ action.End) where
  abbrev a : Body
  a = bodies w me

  abbrev tree : Tree
  tree = tree_of S

  goes : t.waits ≡ wait.Going
  goes = first_goes given w S me k more t st.stands first

  abbrev fits : SlotStands given names tree me a k t
  fits = (st.scopes.cores me).slots k t first.there

  none_open : t.opened ≡ []
  none_open = empty t.opened (depth_end given.program t fits.depth due (ap (λ (x : Waits). at_loop x t.action) goes))
    where
      empty : (ss : List ScopeId) → length ss ≡ 0 → ss ≡ []
      empty [] e = refl
      empty (s ∷ ss) e = absurd (omega arith)

  late : (q : ScopeId) → of_held (is_late q) (a.tasks.slots k) ≡ 0
  late q = ap (of_held (is_late q)) first.there ∙ ap (λ (x : Waits). weigh (λ other. if_scope q other 1) (late_scopes x t.opened)) goes ∙ ap (λ (x : List ScopeId). weigh (λ other. if_scope q other 1) x) none_open

  abbrev e : Outcome
  e = ends_at (without_ready a) k t

  core_is : t.scope.core < given.setup.cores
  core_is = (st.scopes.named.given_by fits.held.holder.scope t.scope fits.held.inside).0

  ends_keep : KeepsScopes given w me [] e names tree
  ends_keep v made =
      let s = t.scope in
      let c = a.scopes.counts s in
      let m = a.scopes.masters s in
      let is : ScopeIs a e.body s c m = record { counts = put_scope_itself a.scopes.counts s; masters = put_scope_itself a.scopes.masters s } in
      let slot = slot_put given a e.body k None (st.stands.calls.tasks.slots me k t first.there).low refl in
      let old = st.scopes.cores me in
      let going : (u : Suspended) (q : ScopeId) → a.tasks.slots k ≡ Some u → u.waits ≡ wait.Scope q → ⊥
      = λ u q at h. goes_not q (sym goes ∙ ap (λ (y : Suspended). y.waits) (some_same t u (sym first.there ∙ at)) ∙ h) in
      let core : CoreStands given names tree me e.body = one_core given names names tree tree [] me a e.body k None s c m (keeps_all names tree []) (record {
        slot = slot;
        scope = is;
        new = λ u h. absurd (none_some u h);
        others = λ l u ne h. tt;
        left = λ u q at h. absurd (going u q at h);
        stays = λ l u ne at f. record { outer = f.outer; opened = f.opened; master = f.master; there = f.there; waits = f.waits; action = f.action };
        count = old.counts s;
        master = λ y h. let f = old.masters s y h in record { home = f.home; alive = f.alive; waiter = waiter_other a e.body s k slot.same (λ u at f. going u s at f) y.waiter f.waiter };
        owners = λ q. omega (arith, late q);
        waiters_here = waiters_stay given names tree me a e.body k None s c m old is refl (λ q. sym (ap (of_slot (is_enrolling q)) first.there ∙ ap (is_enrolling q) goes));
        waiters_other = λ l ne. refl;
        fresh = old.fresh;
      }) old in
      let sums : OneSums given me a [] e k None s c m = record {
        counts = λ q. omega (arith, late q, ap (of_held (of_scope q me).of_task) first.there);
        others = λ q i ne. omega (arith, ap (of_held (of_scope q i).of_task) first.there);
        active = λ q. omega arith;
        enrolling = λ q. omega arith;
        elsewhere = λ q i ne. refl;
      } in
      scopes_kept given names names tree tree w v me [] e [] made (record {
        core = core;
        private = st.scopes.private me here;
        public = st.scopes.public me here;
        sends = ((omega arith, core_is), tt);
        sums = one_sums given me a [] e k None s c m slot is sums;
        kept = keeps_all names tree [];
        away = none_away given w S me st.stands.calls;
        named = named_same given names tree (bodies w) me e.body refl st.scopes.named;
        root = root_same tree (bodies w) me e.body refl refl st.scopes.root;
      }) st.scopes
    where
      goes_not : (q : ScopeId) → wait.Going ≡ wait.Scope q → ⊥
      goes_not q e = cc

  lower : (i j : ℕ) → i < j → nat_lt i j ≡ true
  lower i j l = grind (arith, nat_tests, l)

  pub ends : KeepsScopes given w me [] (acts (machine_in given) me (without_ready a) k t t.action) names tree
  ends = subst (λ (x : Outcome). KeepsScopes given w me [] x names tree)
      (sym (ap (acts (machine_in given) me (without_ready a) k t) due
      ∙ ap (λ (b : Bool). if b then e else dropped (without_ready a) k) (lower t.origin given.setup.cores (st.stands.calls.tasks.slots me k t first.there).counted)))
      ends_keep

pub ends_keep_scopes : laws.EndsKeepScopes
ends_keep_scopes given names w S me k more t st here first due = ends given names w S me k more t st here first due
