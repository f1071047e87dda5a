-- Outcomes that change the count and the master of one scope, in which a task arrives or a core leaves: what they owe to the part of scopes.
use Rattle.std.proofs.Common.{◌≡◌, ◌≢◌, ◌⊎◌, ℕ, zero, suc, ◌+◌, ◌<◌, ◌≤◌, Bool, true, false, List, [], ◌∷◌, inl, inr, sym, ◌∙◌, ap, subst, refl, arith, Option, Some, None}
use Rattle.gr_lang.specs.declared.action.TaskId.{TaskId}
use Rattle.gr_lang.specs.States.{State}
use Rattle.gr_view.specs.Places.{put}
use Rattle.gr_msg.specs.declared.message.ScopeId.{ScopeId}
use Rattle.gr_msg.specs.declared.message.Unit.{Unit as WorkUnit}
use Rattle.gr_event.specs.Scopes.{put_scope}
use Rattle.gr_event.specs.declared.counts.LocalCount.{LocalCount}
use Rattle.gr_event.specs.declared.masters.Master.{Master}
use Rattle.gr_net.specs.Sums.{weigh, Each}
use Rattle.gr_net.proofs.Spreads.{Each-weaker}
use Rattle.gr_work.specs.Queues.{Queues}
use Rattle.gr_machine.specs.declared.waits.Waits.TheVariants as wait
use Rattle.gr_machine.specs.States.{Letter, Suspended, Scopes, Body}
use Rattle.gr_machine.specs.Outcomes.{Outcome, Send}
use Rattle.gr_stands.specs.Worlds.{Given, World, bodies, of_letters, of_sends}
use Rattle.gr_stands.specs.Censuses.{of_held, carried}
use Rattle.gr_stands.specs.Calls.{of_slot, times}
use Rattle.gr_stands.specs.CallActs.{IsOther, IsOtherUnit}
use Rattle.gr_scopes.specs.Trees.{Tree, tree_of, Names}
use Rattle.gr_scopes.specs.Sums.{if_scope, counted, is_active, is_waiting, active_at, is_there, is_waited_for, is_enrolling, is_late, slots_in, of_unit, of_scope, completes, leaves, acks, enrolments}
use Rattle.gr_scopes.specs.Scopes.{IsWaiter, SlotStands, MasterStands, CountIsSome, CoreStands, UnitStands, MessageStands, NamesStand, RootStands, ScopesStand}
use Rattle.gr_scopes.specs.ScopeActs.{KeepsOthers, AreAway, counts_got, active_got}
use Rattle.gr_scopes.proofs.Counts.{cases_scope, units_weigh}
use Rattle.gr_scopes.proofs.Kept.{adds_scope, unit_still, scopes_kept}
use Rattle.gr_scopes_opens.specs.Keeping.{KeepsScopes, StandsWith}
use Rattle.gr_scopes_opens.proofs.Ones.{SlotIs, ScopeIs, master_off, put_scope_itself, OneAct, one_core, waiters_stay, OneSums, one_sums}

-- What was taken up is about no count and no enrolment, and says so many times that a core has left the scope.
pub record IsLeave (me : ℕ) (s : ScopeId) (got : List Letter) (z : ℕ) : Type 0 where
  pub counts : (q : ScopeId) (i : ℕ) → counts_got q i me got ≡ 0
  pub active : (q : ScopeId) → active_got q me got ≡ if_scope q s z
  pub enrols : (q : ScopeId) (i : ℕ) → of_letters (enrolments q i) me got ≡ 0

-- The scope has this count and this master afterwards, and one slot maybe another task; y owners arrive, and z cores have left.
pub record ReleaseAct (given : Given) (names : Names) (tree after : Tree) (w : World) (me : ℕ) (s : ScopeId) (e : Outcome) (k : ℕ) (o : Option Suspended) (c : Option LocalCount) (m : Option Master) (ids : List TaskId) (y z : ℕ) : Type 0 where
  pub slot : SlotIs given (bodies w me) e.body k o
  pub scopes : e.body.scopes ≡ record { counts = put_scope (bodies w me).scopes.counts s c; masters = put_scope (bodies w me).scopes.masters s m; next = (bodies w me).scopes.next }
  pub work : e.body.work ≡ (bodies w me).work
  pub sends : e.sends ≡ []
  pub new : (u : Suspended) → o ≡ Some u → SlotStands given names after me e.body k u
  pub others : (l : ℕ) (u : Suspended) → l ≢ k → (bodies w me).tasks.slots l ≡ Some u → IsOther ids u.id
  pub left : (u : Suspended) (q : ScopeId) → (bodies w me).tasks.slots k ≡ Some u → u.waits ≡ wait.Scope q → q ≡ s
  pub stays : (l : ℕ) (u : Suspended) → l ≢ k → (bodies w me).tasks.slots l ≡ Some u → IsWaiter (bodies w me) l u s → IsWaiter e.body l u s
  pub some : CountIsSome c
  pub master_is : (x : Master) → m ≡ Some x → MasterStands me e.body s x
  pub there : is_there ((bodies w me).scopes.masters s) ≡ 1
  pub same_slots : slots_in c ≡ slots_in ((bodies w me).scopes.counts s)
  pub same_waiting : is_waiting c ≡ is_waiting ((bodies w me).scopes.counts s)
  pub owing : counted c + y ≡ counted ((bodies w me).scopes.counts s)
  pub owner : is_waited_for m + is_there ((bodies w me).scopes.masters s) ≡ is_waited_for ((bodies w me).scopes.masters s) + y + is_there m
  pub late : (q : ScopeId) → of_held (is_late q) o + if_scope q s y ≡ of_held (is_late q) ((bodies w me).tasks.slots k)
  pub same_counted : (q : ScopeId) (i : ℕ) → of_held (of_scope q i).of_task o ≡ of_held (of_scope q i).of_task ((bodies w me).tasks.slots k)
  pub enrols : (q : ScopeId) → of_slot (is_enrolling q) o ≡ of_slot (is_enrolling q) ((bodies w me).tasks.slots k)
  pub less : active_at m + (is_active ((bodies w me).scopes.counts s) + z) ≡ active_at ((bodies w me).scopes.masters s) + is_active c
  pub keeps : KeepsOthers names names tree after ids
  pub away : AreAway given w me ids
  pub named : NamesStand given names (put (bodies w) me e.body) after
  pub root : RootStands (put (bodies w) me e.body) after

pub release_keeps : (given : Given) (names : Names) (w : World) (S : State) (after : Tree) (me : ℕ) (s : ScopeId) (got : List Letter) (e : Outcome) (k : ℕ) (o : Option Suspended) (c : Option LocalCount) (m : Option Master) (ids : List TaskId) (y z : ℕ)
    → StandsWith given names w S → me < given.setup.cores → IsLeave me s got z → ReleaseAct given names (tree_of S) after w me s e k o c m ids y z → KeepsScopes given w me got e names after
release_keeps given names w S after me s got e k o c m ids y z st here leave act v made =
    let a = bodies w me in
    let tree = tree_of S in
    let is : ScopeIs a e.body s c m = record { counts = ap (λ (x : Scopes). x.counts) act.scopes; masters = ap (λ (x : Scopes). x.masters) act.scopes } in
    let old = st.scopes.cores me in
    let core : CoreStands given names after me e.body = one_core given names names tree after ids me a e.body k o s c m act.keeps (record {
      slot = act.slot;
      scope = is;
      new = act.new;
      others = act.others;
      left = act.left;
      stays = act.stays;
      count = act.some;
      master = act.master_is;
      owners = λ q. omega (
        arith,
        act.late q,
        ap (if_scope q s) act.owner,
        adds_scope q s (is_waited_for m) (is_there (a.scopes.masters s)),
        adds_scope q s (is_waited_for (a.scopes.masters s) + y) (is_there m),
        adds_scope q s (is_waited_for (a.scopes.masters s)) y,
      );
      waiters_here = waiters_stay given names tree me a e.body k o s c m old is act.same_slots act.enrols;
      waiters_other = λ l ne. ap (times l) act.same_slots;
      fresh = λ number l. fresh_still number is (ap (λ (x : Scopes). x.next) act.scopes) l;
    }) old in
    let sums : OneSums given me a got e k o s c m = record {
      counts = λ q. omega (
        arith,
        act.late q,
        ap (if_scope q s) act.owing,
        adds_scope q s (counted c) y,
        act.same_counted q me,
        units_same q me,
        leave.counts q me,
        ap (λ (x : List Send). of_sends (carried (of_unit q me)) me x + of_sends (completes q me) me x) act.sends,
      );
      others = λ q i ne. omega (arith, act.same_counted q i, units_same q i, leave.counts q i, ap (λ (x : List Send). of_sends (carried (of_unit q i)) me x + of_sends (completes q i) me x) act.sends);
      active = λ q. omega (
        arith,
        ap (if_scope q s) act.less,
        adds_scope q s (active_at m) (is_active (a.scopes.counts s) + z),
        adds_scope q s (is_active (a.scopes.counts s)) z,
        adds_scope q s (active_at (a.scopes.masters s)) (is_active c),
        leave.active q,
        ap (λ (x : List Send). of_sends (leaves q) me x + of_sends (acks q) me x) act.sends,
      );
      enrolling = λ q. omega (arith, ap (if_scope q s) act.same_waiting, leave.enrols q me, ap (of_sends (enrolments q me) me) act.sends);
      elsewhere = λ q i ne. leave.enrols q i ∙ sym (ap (of_sends (enrolments q i) me) act.sends);
    } in
    scopes_kept given names names tree after w v me got e ids made (record {
      core = core;
      private = subst (λ (x : Queues). Each (UnitStands given names after) x.private) (sym act.work) (units_still a.work.private (st.scopes.private me here) (act.away.private me here));
      public = subst (λ (x : Queues). Each (UnitStands given names after) x.public) (sym act.work) (units_still a.work.public (st.scopes.public me here) (act.away.public me here));
      sends = subst (Each (λ (x : Send). MessageStands given names after me x.to x.message)) (sym act.sends) tt;
      sums = one_sums given me a got e k o s c m act.slot is sums;
      kept = act.keeps;
      away = act.away;
      named = act.named;
      root = act.root;
    }) st.scopes
  where
    units_same : (q : ScopeId) (i : ℕ) → units_weigh (of_scope q i) e.body ≡ units_weigh (of_scope q i) (bodies w me)
    units_same q i = ap (λ (x : Queues). weigh (of_unit q i) x.private + weigh (of_unit q i) x.public) act.work

    units_still : (us : List WorkUnit) → Each (UnitStands given names (tree_of S)) us → Each (IsOtherUnit ids) us → Each (UnitStands given names after) us
    units_still us f g = Each-weaker (UnitStands given names (tree_of S)) (IsOtherUnit ids) (UnitStands given names after) (unit_still given names names (tree_of S) after ids act.keeps) us f g

    fresh_still : (number : ℕ) → ScopeIs (bodies w me) e.body s c m → e.body.scopes.next ≡ (bodies w me).scopes.next → e.body.scopes.next ≤ number → e.body.scopes.masters (record { core = me; number = number }) ≡ None
    fresh_still number is n l =
        let none : (bodies w me).scopes.masters (record { core = me; number = number }) ≡ None = (st.scopes.cores me).fresh number (omega (arith, n)) in
        elim (cases_scope (record { core = me; number = number }) s) [
          | inl g ↦ absurd (omega (arith, act.there, ap is_there (sym (ap (bodies w me).scopes.masters g) ∙ none)))
          | inr g ↦ master_off (bodies w me) e.body s c m is (record { core = me; number = number }) g ∙ none
        ]
