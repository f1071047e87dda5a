-- Outcomes that leave the scopes of their core keep the part of scopes.
use Rattle.std.proofs.Common.{◌≡◌, ℕ, ◌+◌, ◌<◌, ◌≤◌, List, [], ◌∷◌, map, inl, inr, sym, ◌∙◌, ap, subst, refl, arith, Option, Some, None}
use Rattle.gr_lang.specs.States.{State}
use Rattle.gr_lang.specs.declared.action.Action.{Action}
use Rattle.gr_msg.specs.declared.message.ScopeId.{ScopeId}
use Rattle.gr_msg.specs.declared.message.Msg.{Msg}
use Rattle.gr_msg.specs.declared.message.Msg.TheVariants as msg
use Rattle.gr_event.specs.declared.masters.Waiter.{Waiter}
use Rattle.gr_event.specs.declared.masters.Waiter.TheVariants as waiter
use Rattle.gr_net.specs.Sums.{weigh, Each}
use Rattle.gr_net.proofs.Spreads.{total_same, weigh_none, Each-map}
use Rattle.gr_work.specs.Queues.{Queues}
use Rattle.gr_machine.specs.declared.waits.Waits.{Waits}
use Rattle.gr_machine.specs.declared.waits.Waits.TheVariants as wait
use Rattle.gr_machine.specs.States.{Letter, Suspended, Scopes, Body}
use Rattle.gr_machine.specs.Outcomes.{Outcome, Send}
use Rattle.gr_machine.specs.Openings.{root_scope}
use Rattle.gr_stands.specs.Worlds.{Given, World, bodies, of_letters, of_sends}
use Rattle.gr_stands.specs.Censuses.{of_held, body_census, carried}
use Rattle.gr_stands.specs.Calls.{of_slot, times}
use Rattle.gr_scopes.specs.Trees.{Tree, tree_of, Names}
use Rattle.gr_scopes.specs.Sums.{if_core, if_scope, counted, is_active, is_waiting, active_at, is_there, is_waited_for, is_enrolling, slots_in, late_scopes, is_late, late_at, of_unit, of_scope, completes, leaves, acks, enrolments}
use Rattle.gr_scopes.specs.Depths.{at_loop}
use Rattle.gr_scopes.specs.Scopes.{WaitStands, SlotStands, WaiterStands, CountIsSome, CoreStands, UnitStands, MessageStands}
use Rattle.gr_scopes.specs.ScopeActs.{SumsAct}
use Rattle.gr_scopes.proofs.Kept.{scopes_kept}
use Rattle.gr_scopes.proofs.Cores.{keeps_all, named_same, root_same}
use Rattle.gr_scopes_opens.specs.Keeping.{KeepsScopes, StandsWith}
use Rattle.gr_scopes_opens.proofs.Common.{some_same, none_away}
use Rattle.gr_scopes_stays.specs.Stays.{IsNoScope, MayWaitFor, GoesOnUnder, SlotsStay, IsOfNoScope, IsOfNoWork, units_in, LeavesScopes}
use Rattle.gr_scopes_stays.specs.Laws as laws

-- ---- what is waited for

pub may_no_scope : (due : Action) (w : Waits) → MayWaitFor due w → IsNoScope w
may_no_scope due (wait.Enrolment q) f = absurd f
may_no_scope due (wait.Scope q) f = absurd f
may_no_scope due _ f = tt

late_calm : (w : Waits) (ss : List ScopeId) → IsNoScope w → late_scopes w ss ≡ ss
late_calm (wait.Enrolment q) ss f = absurd f
late_calm (wait.Scope q) ss f = absurd f
late_calm _ ss f = refl

pub loop_calm : (w : Waits) (due : Action) → IsNoScope w → at_loop w due ≡ 0
loop_calm (wait.Enrolment q) due f = absurd f
loop_calm (wait.Scope q) due f = absurd f
loop_calm _ due f = refl

enrolling_calm : (q : ScopeId) (w : Waits) → IsNoScope w → is_enrolling q w ≡ 0
enrolling_calm q (wait.Enrolment s) f = absurd f
enrolling_calm q (wait.Scope s) f = absurd f
enrolling_calm q _ f = refl

wait_from : (given : Given) (b : Body) (l : ℕ) (u : Suspended) (w : Waits) → MayWaitFor u.action w → WaitStands given b l u w
wait_from given b l u (wait.Enrolment q) f = absurd f
wait_from given b l u (wait.Scope q) f = absurd f
wait_from given b l u wait.Going f = tt
wait_from given b l u wait.Nothing f = tt
wait_from given b l u _ f = f

-- ---- slots

module _ (given : Given) (a b : Body) (stay : SlotsStay given a.tasks.slots b.tasks.slots) where
  same_at : (F : Suspended → ℕ) → ((old new : Suspended) → GoesOnUnder given old new → F new ≡ F old) → (l : ℕ) → of_held F (b.tasks.slots l) ≡ of_held F (a.tasks.slots l)
  same_at F f l = elim (stay l) [
    | inl e ↦ ap (of_held F) e
    | inr ch ↦ ap (of_held F) ch.is ∙ f ch.old ch.new ch.goes ∙ sym (ap (of_held F) ch.was)
  ]

  late_same : (q : ScopeId) (l : ℕ) → of_held (is_late q) (b.tasks.slots l) ≡ of_held (is_late q) (a.tasks.slots l)
  late_same q l = same_at (is_late q) (λ old new g.
      ap (weigh (λ other. if_scope q other 1)) (late_calm new.waits new.opened (may_no_scope new.action new.waits g.waits) ∙ g.opened ∙ sym (late_calm old.waits old.opened g.waited))) l

  pub late_still : (q : ScopeId) → late_at q given.slots b ≡ late_at q given.slots a
  unfolding late_at
  late_still q = total_same (λ l. of_held (is_late q) (b.tasks.slots l)) (λ l. of_held (is_late q) (a.tasks.slots l)) given.slots (λ l low. late_same q l)

  pub census_still : (q : ScopeId) (i : ℕ) → body_census (of_scope q i) given.slots b + units_in q i a ≡ body_census (of_scope q i) given.slots a + units_in q i b
  unfolding body_census
  census_still q i = omega (
    arith,
    total_same (λ l. of_held (of_scope q i).of_task (b.tasks.slots l)) (λ l. of_held (of_scope q i).of_task (a.tasks.slots l)) given.slots
        (λ l low. same_at (of_scope q i).of_task (λ old new g. ap (λ (c : ℕ). if_core i c (if_scope q new.scope 1)) g.counted ∙ ap (λ (s : ScopeId). if_core i old.origin (if_scope q s 1)) g.scope) l),
  )

  enrolling_still : (q : ScopeId) (l : ℕ) → of_slot (is_enrolling q) (b.tasks.slots l) ≡ of_slot (is_enrolling q) (a.tasks.slots l)
  enrolling_still q l = elim (stay l) [
    | inl e ↦ ap (of_slot (is_enrolling q)) e
    | inr ch ↦ ap (of_slot (is_enrolling q)) ch.is ∙ enrolling_calm q ch.new.waits (may_no_scope ch.new.action ch.new.waits ch.goes.waits)
        ∙ sym (ap (of_slot (is_enrolling q)) ch.was ∙ enrolling_calm q ch.old.waits ch.goes.waited)
  ]

  not_waiting : (w : Waits) (q : ScopeId) → w ≡ wait.Scope q → IsNoScope w → ⊥
  not_waiting w q e f = subst IsNoScope e f

  waiter_stays : (q : ScopeId) (x : Option Waiter) → WaiterStands a q x → WaiterStands b q x
  waiter_stays q None f = f
  waiter_stays q (Some waiter.Root) f = f
  waiter_stays q (Some (waiter.Task l)) f = elim (stay l) [
    | inl e ↦ record { task = f.task; there = e ∙ f.there; waits = f.waits; inner = f.inner }
    | inr ch ↦ absurd (not_waiting ch.old.waits q (ap (λ (u : Suspended). u.waits) (some_same ch.old f.task (sym ch.was ∙ f.there)) ∙ f.waits) ch.goes.waited)
  ]

  -- ---- the core

  module _ (names : Names) (tree : Tree) (me : ℕ) (same : b.scopes ≡ a.scopes) (old : CoreStands given names tree me a) where
    wait_still : (l : ℕ) (u : Suspended) (w : Waits) → WaitStands given a l u w → WaitStands given b l u w
    wait_still l u (wait.Enrolment q) f = f
    wait_still l u (wait.Scope q) f = record { outer = f.outer; opened = f.opened; master = f.master; there = ap (λ (x : Scopes). x.masters q) same ∙ f.there; waits = f.waits; action = f.action }
    wait_still l u _ f = f

    slot_still : (l : ℕ) (u : Suspended) → b.tasks.slots l ≡ Some u → SlotStands given names tree me b l u
    slot_still l u h = elim (stay l) [
      | inl e ↦
          let f = old.slots l u (sym e ∙ h) in
          record { held = f.held; homes = f.homes; depth = f.depth; waits = wait_still l u u.waits f.waits }
      | inr ch ↦ subst (SlotStands given names tree me b l) (some_same ch.new u (sym ch.is ∙ h))
          (let f = old.slots l ch.old ch.was in
          let g = ch.goes in
          record {
            held = record {
              holder = f.held.holder;
              there = ap tree.holders g.named ∙ f.held.there;
              inside = f.held.inside ∙ ap Some (sym g.scope);
              opens = f.held.opens ∙ ap (λ (ss : List ScopeId). map Some ss) (sym g.opened);
            };
            homes = subst (Each (λ (s : ScopeId). s.core ≡ me)) (sym g.opened) f.homes;
            depth = g.depth;
            waits = wait_from given b l ch.new ch.new.waits g.waits;
          })
    ]

    pub core_stays : CoreStands given names tree me b
    core_stays = record {
      counts = λ q. subst (λ (x : Scopes). CountIsSome (x.counts q)) (sym same) (old.counts q);
      masters = λ q m h. let f = old.masters q m (sym (ap (λ (x : Scopes). x.masters q) same) ∙ h) in record { home = f.home; alive = f.alive; waiter = waiter_stays q m.waiter f.waiter };
      owners = λ q. omega (arith, old.owners q, late_still q, ap (λ (x : Scopes). is_waited_for (x.masters q)) same, ap (λ (x : Scopes). is_there (x.masters q)) same);
      waiters = λ q l. ap (λ (x : Scopes). times l (slots_in (x.counts q))) same ∙ old.waiters q l ∙ sym (enrolling_still q l);
      slots = slot_still;
      fresh = λ n l. ap (λ (x : Scopes). x.masters (record { core = me; number = n })) same ∙ old.fresh n (subst (λ (x : Scopes). x.next ≤ n) same l);
    }

-- ---- messages

quiet : (q : ScopeId) (i from to : ℕ) (m : Msg) → IsOfNoScope m → completes q i from to m + leaves q from to m + acks q from to m + enrolments q i from to m ≡ 0
quiet q i from to (msg.Complete s n) f = absurd f
quiet q i from to (msg.Leave s) f = absurd f
quiet q i from to (msg.Enrol s) f = absurd f
quiet q i from to (msg.EnrolAck s) f = absurd f
quiet q i from to _ f = refl

module _ (q : ScopeId) (i me : ℕ) where
  letters_quiet : (ls : List Letter) → Each (λ (l : Letter). IsOfNoScope l.message) ls
      → of_letters (completes q i) me ls + of_letters (leaves q) me ls + of_letters (acks q) me ls + of_letters (enrolments q i) me ls ≡ 0
  letters_quiet [] f = refl
  letters_quiet (l ∷ ls) f = omega (arith, letters_quiet ls f.1, quiet q i l.from me l.message f.0)

  sends_quiet : (ss : List Send) → Each (λ (s : Send). IsOfNoScope s.message) ss
      → of_sends (completes q i) me ss + of_sends (leaves q) me ss + of_sends (acks q) me ss + of_sends (enrolments q i) me ss ≡ 0
  sends_quiet [] f = refl
  sends_quiet (s ∷ ss) f = omega (arith, sends_quiet ss f.1, quiet q i me s.to s.message f.0)

-- ---- the law

pub scopes_stay_put : laws.ScopesStayPut
scopes_stay_put given names w S me got e st here act v made =
    let a = bodies w me in
    let tree = tree_of S in
    let calm_sends : Each (λ (s : Send). IsOfNoScope s.message) e.sends = Each-map _ (λ (s : Send). IsOfNoScope s.message) (λ s f. f.0) e.sends act.sends in
    let sums : SumsAct given me a got e = record {
      counts = λ q. omega (
        arith,
        ap (λ (x : Scopes). counted (x.counts q)) act.scopes,
        late_still given a e.body act.slots q,
        census_still given a e.body act.slots q me,
        act.units q me,
        letters_quiet q me me got act.letters,
        sends_quiet q me me e.sends calm_sends,
      );
      others = λ q i ne. omega (arith, census_still given a e.body act.slots q i, act.units q i, letters_quiet q i me got act.letters, sends_quiet q i me e.sends calm_sends);
      active = λ q. omega (
        arith,
        ap (λ (x : Scopes). active_at (x.masters q)) act.scopes,
        ap (λ (x : Scopes). is_active (x.counts q)) act.scopes,
        letters_quiet q me me got act.letters,
        sends_quiet q me me e.sends calm_sends,
      );
      enrolling = λ q. omega (arith, ap (λ (x : Scopes). is_waiting (x.counts q)) act.scopes, letters_quiet q me me got act.letters, sends_quiet q me me e.sends calm_sends);
      elsewhere = λ q i ne. omega (arith, letters_quiet q i me got act.letters, sends_quiet q i me e.sends calm_sends);
    } in
    scopes_kept given names names tree tree w v me got e [] made (record {
      core = core_stays given a e.body act.slots names tree me act.scopes (st.scopes.cores me);
      private = act.private;
      public = act.public;
      sends = Each-map _ (λ (s : Send). MessageStands given names tree me s.to s.message) (λ s f. f.1) e.sends act.sends;
      sums = sums;
      kept = keeps_all names tree [];
      away = none_away given w S me st.stands.calls;
      named = named_same given names tree (bodies w) me e.body (ap (λ (x : Scopes). x.next) act.scopes) st.scopes.named;
      root = root_same tree (bodies w) me e.body (ap (λ (x : Scopes). is_there (x.masters root_scope)) act.scopes) act.passed st.scopes.root;
    }) st.scopes

-- ---- outcomes that leave units too

no_scope : (m : Msg) → IsOfNoWork m → IsOfNoScope m
no_scope (msg.Spawn u) f = absurd f
no_scope (msg.StealGive u) f = absurd f
no_scope _ f = f

stands_calm : (given : Given) (names : Names) (tree : Tree) (from to : ℕ) (m : Msg) → IsOfNoWork m → MessageStands given names tree from to m
stands_calm given names tree from to (msg.Spawn u) f = absurd f
stands_calm given names tree from to (msg.StealGive u) f = absurd f
stands_calm given names tree from to (msg.Complete s n) f = absurd f
stands_calm given names tree from to (msg.Leave s) f = absurd f
stands_calm given names tree from to (msg.Enrol s) f = absurd f
stands_calm given names tree from to (msg.EnrolAck s) f = absurd f
stands_calm given names tree from to _ f = tt

carries_none : (q : ScopeId) (i from to : ℕ) (m : Msg) → IsOfNoWork m → carried (of_unit q i) from to m ≡ 0
carries_none q i from to (msg.Spawn u) f = absurd f
carries_none q i from to (msg.StealGive u) f = absurd f
carries_none q i from to _ f = refl

pub leaves_kept : (given : Given) (names : Names) (w : World) (S : State) (me : ℕ) (got : List Letter) (e : Outcome) → StandsWith given names w S → me < given.setup.cores → LeavesScopes given (bodies w me) got e
    → KeepsScopes given w me got e names (tree_of S)
leaves_kept given names w S me got e st here act = scopes_stay_put given names w S me got e st here (record {
  slots = act.slots;
  scopes = act.scopes;
  passed = act.passed;
  private = subst (λ (x : Queues). Each (UnitStands given names (tree_of S)) x.private) (sym act.work) (st.scopes.private me here);
  public = subst (λ (x : Queues). Each (UnitStands given names (tree_of S)) x.public) (sym act.work) (st.scopes.public me here);
  letters = Each-map (λ (l : Letter). IsOfNoWork l.message) (λ (l : Letter). IsOfNoScope l.message) (λ l f. no_scope l.message f) got act.letters;
  sends = Each-map (λ (s : Send). IsOfNoWork s.message) (λ (s : Send). IsOfNoScope s.message × MessageStands given names (tree_of S) me s.to s.message)
      (λ s f. (no_scope s.message f, stands_calm given names (tree_of S) me s.to s.message f)) e.sends act.sends;
  units = λ q i. omega (
    arith,
    ap (λ (x : Queues). weigh (of_unit q i) x.private + weigh (of_unit q i) x.public) act.work,
    weigh_none (λ (l : Letter). carried (of_unit q i) l.from me l.message) got (Each-map (λ (l : Letter). IsOfNoWork l.message) (λ (l : Letter). carried (of_unit q i) l.from me l.message ≡ 0) (λ l f. carries_none q i l.from me l.message f) got act.letters),
    weigh_none (λ (s : Send). carried (of_unit q i) me s.to s.message) e.sends (Each-map (λ (s : Send). IsOfNoWork s.message) (λ (s : Send). carried (of_unit q i) me s.to s.message ≡ 0) (λ s f. carries_none q i me s.to s.message f) e.sends act.sends),
  );
})
