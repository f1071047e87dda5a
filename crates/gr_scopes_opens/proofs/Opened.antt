-- A task opens a finish or a loop: the part of scopes is kept.
use Rattle.std.proofs.Common.{◌≡◌, ◌⊎◌, ◌≢◌, ℕ, zero, suc, ◌+◌, ◌-◌, ◌<◌, ◌≤◌, ◌==◌, ◌&&◌, Bool, true, false, if◌then◌else◌, List, [], ◌∷◌, map, length, inl, inr, sym, ◌∙◌, ap, subst, refl, arith, lt_irrefl, Option, Some, None, is_none, nat_lt}
use Rattle.std.proofs.lemmas.Bool.{cases_eq}
use Rattle.std.proofs.lemmas.Bool.Decides.{nat_tests}
use Rattle.gr_lang.specs.declared.action.Action.{Action}
use Rattle.gr_lang.specs.declared.action.Action.TheVariants as action
use Rattle.gr_lang.specs.declared.action.TaskId.{TaskId}
use Rattle.gr_lang.specs.Effects.{nothing}
use Rattle.gr_lang.specs.States.{Mode, Task, State, going}
use Rattle.gr_view.specs.Places.{put}
use Rattle.gr_msg.specs.Scopes.{same_scope}
use Rattle.gr_msg.specs.declared.message.ScopeId.{ScopeId}
use Rattle.gr_msg.specs.declared.message.Unit.{Unit as WorkUnit}
use Rattle.gr_msg.specs.declared.message.Unit.TheVariants as unit
use Rattle.gr_event.specs.Scopes.{put_scope}
use Rattle.gr_event.specs.declared.counts.LocalCount.{LocalCount}
use Rattle.gr_event.specs.declared.counts.LocalCount.TheVariants as count
use Rattle.gr_event.specs.declared.masters.Master.{Master}
use Rattle.gr_event.specs.declared.masters.Waiter.TheVariants as waiter
use Rattle.gr_event.specs.Masters.{new_master, wait_for}
use Rattle.gr_event.proofs.ScopePuts.{put_scope_at, put_scope_other}
use Rattle.gr_net.specs.Sums.{weigh, Each}
use Rattle.gr_net.proofs.Spreads.{put_same, put_at, put_other, put_each, put_field, Each-weaker}
use Rattle.gr_machine.specs.declared.waits.Waits.{Waits}
use Rattle.gr_machine.specs.declared.waits.Waits.TheVariants as wait
use Rattle.gr_machine.specs.States.{Suspended, Scopes, Stops, Body}
use Rattle.gr_machine.specs.Outcomes.{Outcome, Send}
use Rattle.gr_machine.specs.Openings.{root_scope}
use Rattle.gr_machine.specs.Slots.{same_id, dropped, goes_on}
use Rattle.gr_machine.specs.Runs.{acts, without_ready}
use Rattle.gr_machine.specs.ScopeRuns.{own_scope, is_new_scope, opens, finishes_in, loops_in, loops_over, loops_over_nothing}
use Rattle.gr_stands.specs.Worlds.{Given, machine_in, World, bodies, of_sends}
use Rattle.gr_stands.specs.Censuses.{of_held, going_on, carried}
use Rattle.gr_stands.specs.Calls.{StandsAt, of_slot, times}
use Rattle.gr_stands.specs.CallActs.{IsOther, IsOtherUnit}
use Rattle.gr_stands.proofs.Places.{cases_id}
use Rattle.gr_stands_calls.proofs.Common.{first_goes, first_stands, plain_goes}
use Rattle.gr_scopes.specs.Trees.{Holder, Tree, tree_of, with_opened, Rises, Names, IsHeld, IsScope}
use Rattle.gr_scopes.specs.Sums.{if_scope, if_core, counted, is_active, is_waiting, active_at, is_there, is_waited_for, is_enrolling, late_scopes, is_late, slots_in, of_unit, of_scope, completes, leaves, acks, enrolments}
use Rattle.gr_scopes.specs.Depths.{one_for_loop, at_loop, HasDepth}
use Rattle.gr_scopes.specs.Scopes.{IsWaiter, WaitStands, SlotStands, IsWaitedForBy, WaiterStands, MasterStands, CoreStands, UnitStands, MessageStands, NamesStand, RootStands, WaitsThere, ScopesStand}
use Rattle.gr_scopes.specs.ScopeActs.{KeepsOthers, AreAway, ScopesAct, counts_sent, active_sent}
use Rattle.gr_scopes.proofs.Counts.{cases_scope, not_itself, if_scope_self, if_scope_off, if_scope_zero, if_core_self, if_core_off, if_core_zero, units_weigh}
use Rattle.gr_scopes.proofs.Depths.{depth_after}
use Rattle.gr_scopes.proofs.Kept.{adds_scope, adds_core, held_still, unit_still, all_named, scopes_kept}
use Rattle.gr_scopes.proofs.Cores.{root_same}
use Rattle.gr_scopes_opens.specs.Keeping.{KeepsScopes, StandsWith, IsNext}
use Rattle.gr_scopes_opens.specs.Laws as laws
use Rattle.gr_scopes_opens.specs.Laws.{with_own}
use Rattle.gr_scopes_opens.proofs.Common.{some_same, none_some, others_here, one_away, no_count, holder_at, holder_other, rises_more}
use Rattle.gr_scopes_opens.proofs.Ones.{SlotIs, slot_put, ScopeIs, count_here, master_here, master_off, OneAct, one_core, waiters_stay, OneSums, one_sums}

module _ (given : Given) (names : Names) (w : World) (S : State) (me k : ℕ) (more : List ℕ) (t : Suspended) (holder : Holder) (st : StandsWith given names w S) (next : IsNext given w S me k more t holder) where
  abbrev pub a : Body
  a = bodies w me

  abbrev pub tree : Tree
  tree = tree_of S

  abbrev pub s : ScopeId
  s = own_scope me a

  abbrev pub named : Names
  named = with_own names S w me

  abbrev pub after : Tree
  after = with_opened tree t.id holder

  abbrev fits : SlotStands given names tree me a k t
  fits = (st.scopes.cores me).slots k t next.first.there

  goes : t.waits ≡ wait.Going
  goes = first_goes given w S me k more t st.stands next.first

  low : k < given.slots
  low = (st.stands.calls.tasks.slots me k t next.first.there).low

  abbrev plain : StandsAt S t
  plain = first_stands given w S me k more t st.stands next.first

  mode : going_on plain.plain.mode ≡ 1
  mode = ap going_on (plain_goes S t plain goes)

  same_holder : fits.held.holder ≡ holder
  same_holder = some_same fits.held.holder holder (sym fits.held.there ∙ next.held)

  -- ---- the scope is new

  no_master : a.scopes.masters s ≡ None
  no_master = (st.scopes.cores me).fresh a.scopes.next (omega arith)

  unnamed : (number : ℕ) → names number ≡ Some s → ⊥
  unnamed number e = lt_irrefl a.scopes.next (st.scopes.named.given_by number s e).1

  uncounted : a.scopes.counts s ≡ None
  uncounted = no_count given names w tree s st.scopes next.here (λ n. unnamed n.number n.named) no_master

  not_root : same_scope s root_scope ≡ false
  not_root = elim (cases_scope s root_scope) [
    | inl e ↦ absurd (unnamed 0 (st.scopes.named.root ∙ ap Some (sym e)))
    | inr e ↦ e
  ]

  low_number : (number : ℕ) (q : ScopeId) → names number ≡ Some q → number ≢ tree.count
  low_number number q h e = lt_irrefl tree.count (subst (λ (i : ℕ). i < tree.count) e (st.scopes.named.opened number q h))

  keeps : KeepsOthers names named tree after (t.id ∷ [])
  keeps = record {
    named = λ number q h. put_other names tree.count (Some s) number (low_number number q h) ∙ h;
    held = λ id x other h. holder_other tree.holders t.id (record holder { opened = tree.count ∷ holder.opened }) id other.0 ∙ h;
  }

  held_now : IsHeld named after t.id t.scope (s ∷ t.opened)
  held_now =
      let h = fits.held in
      let rest : map named holder.opened ≡ map Some t.opened = all_named given names named tree after (t.id ∷ []) keeps holder.opened t.opened
      (ap (λ (x : Holder). map names x.opened) (sym same_holder) ∙ h.opens) in
      let first : named tree.count ≡ Some s = put_same names tree.count (Some s) in
      record {
        holder = record holder { opened = tree.count ∷ holder.opened };
        there = holder_at tree.holders t.id (record holder { opened = tree.count ∷ holder.opened });
        inside = keeps.named holder.scope t.scope (ap (λ (x : Holder). names x.scope) (sym same_holder) ∙ h.inside);
        opens = cc;
      }

  named_now : (b : Body) → b.scopes.next ≡ a.scopes.next + 1 → NamesStand given named (put (bodies w) me b) after
  named_now b e = record {
    root = keeps.named 0 root_scope old.root;
    apart = λ one other q h g. elim (cases_eq one tree.count) [
      | inl x ↦ elim (cases_eq other tree.count) [
        | inl y ↦ x ∙ sym y
        | inr y ↦ absurd (unnamed other (old_name other q y g ∙ ap Some (sym (new_name one q x h))))
      ]
      | inr x ↦ elim (cases_eq other tree.count) [
        | inl y ↦ absurd (unnamed one (old_name one q x h ∙ ap Some (sym (new_name other q y g))))
        | inr y ↦ old.apart one other q (old_name one q x h) (old_name other q y g)
      ]
    ];
    opened = λ number q h. elim (cases_eq number tree.count) [
      | inl x ↦ omega arith
      | inr x ↦ omega (arith, old.opened number q (old_name number q x h))
    ];
    given_by = λ number q h. elim (cases_eq number tree.count) [
      | inl x ↦ subst (λ (r : ScopeId). (r.core < given.setup.cores) × (r.number < (put (bodies w) me b r.core).scopes.next)) (new_name number q x h)
          (next.here, omega (arith, e, ap (λ (x : Body). x.scopes.next) (put_same (bodies w) me b)))
      | inr x ↦ let f = old.given_by number q (old_name number q x h) in (
        f.0,
        put_each (λ (i : ℕ) (x : Body). i ≡ q.core → q.number < x.scopes.next) (bodies w) me b q.core
            (λ z y. omega (arith, e, f.1, ap (λ (i : ℕ). (bodies w i).scopes.next) z)) (λ z y. f.1) refl,
      )
    ];
    rises = λ id scope open_ones h. elim (cases_id id t.id) [
      | inl x ↦
          let same : record holder { opened = tree.count ∷ holder.opened } ≡ record { scope = scope; opened = open_ones }
          = some_same (record holder { opened = tree.count ∷ holder.opened }) (record { scope = scope; opened = open_ones }) (sym (ap after.holders x ∙ holder_at tree.holders t.id (record holder { opened = tree.count ∷ holder.opened })) ∙ h) in
          subst (λ (x : Holder). Rises x.scope (tree.count + 1) x.opened) same (omega arith, old.rises t.id holder.scope holder.opened next.held)
      | inr x ↦ rises_more scope tree.count (tree.count + 1) open_ones (omega arith)
          (old.rises id scope open_ones (sym (holder_other tree.holders t.id (record holder { opened = tree.count ∷ holder.opened }) id x) ∙ h))
    ];
  }
    where
      old : NamesStand given names (bodies w) tree
      old = st.scopes.named

      old_name : (number : ℕ) (q : ScopeId) → number ≢ tree.count → named number ≡ Some q → names number ≡ Some q
      old_name number q x h = sym (put_other names tree.count (Some s) number x) ∙ h

      new_name : (number : ℕ) (q : ScopeId) → number ≡ tree.count → named number ≡ Some q → s ≡ q
      new_name number q x h = some_same s q (sym (put_at names tree.count (Some s) number x) ∙ h)

  -- ---- what opening does: so many tasks are counted, of which y for the owner under way and z in a chunk

  pub record Opens (e : Outcome) (u : Suspended) (n y z : ℕ) (m : Master) : Type 0 where
    pub slots : e.body.tasks.slots ≡ put a.tasks.slots k (Some u)
    pub scopes : e.body.scopes ≡ record { counts = put_scope a.scopes.counts s (Some (count.Active n)); masters = put_scope a.scopes.masters s (Some m); next = a.scopes.next + 1 }
    pub stops : e.body.stops ≡ a.stops
    pub sends : e.sends ≡ []
    pub same_id : u.id ≡ t.id
    pub same_scope_of : u.scope ≡ t.scope
    pub same_origin : u.origin ≡ t.origin
    pub opened : u.opened ≡ s ∷ t.opened
    pub depth : HasDepth given.program u
    pub waits : WaitStands given e.body k u u.waits
    pub waiter : WaiterStands e.body s m.waiter
    pub active : m.active ≡ 1
    pub parts : n ≡ y + z
    pub some : 0 < n
    pub owner : is_waited_for (Some m) + y ≡ 1
    pub late : (q : ScopeId) → is_late q u ≡ weigh (λ other. if_scope q other 1) t.opened + if_scope q s y
    pub enrols : (q : ScopeId) → is_enrolling q u.waits ≡ 0
    pub units : (q : ScopeId) (i : ℕ) → units_weigh (of_scope q i) e.body ≡ units_weigh (of_scope q i) a + if_core i me (if_scope q s z)
    pub private : Each (UnitStands given named after) e.body.work.private
    pub public : Each (UnitStands given named after) e.body.work.public

  late_before : (q : ScopeId) → of_held (is_late q) (a.tasks.slots k) ≡ weigh (λ other. if_scope q other 1) t.opened
  late_before q = ap (of_held (is_late q)) next.first.there ∙ ap (λ (x : Waits). weigh (λ other. if_scope q other 1) (late_scopes x t.opened)) goes

  none_before : (q : ScopeId) → of_slot (is_enrolling q) (a.tasks.slots k) ≡ 0
  none_before q = ap (of_slot (is_enrolling q)) next.first.there ∙ ap (is_enrolling q) goes

  -- A number that is 0 where nothing is, at the count or the master of the scope before.
  zero_at : (q : ScopeId) (x : ℕ) → x ≡ 0 → if_scope q s x ≡ 0
  zero_at q x e = ap (if_scope q s) e ∙ if_scope_zero q s

  pub opens_keep : (e : Outcome) (u : Suspended) (n y z : ℕ) (m : Master) → Opens e u n y z m → KeepsScopes given w me [] e named after
  opens_keep e u n y z m o v made =
      let c : Option LocalCount = Some (count.Active n) in
      let is : ScopeIs a e.body s c (Some m) = record { counts = ap (λ (x : Scopes). x.counts) o.scopes; masters = ap (λ (x : Scopes). x.masters) o.scopes } in
      let slot = slot_put given a e.body k (Some u) low o.slots in
      let core : CoreStands given named after me e.body = one_core given names named tree after (t.id ∷ []) me a e.body k (Some u) s c (Some m) keeps (record {
        slot = slot;
        scope = is;
        new = λ x h. subst (SlotStands given named after me e.body k) (some_same u x h) (record {
          held = subst (λ (i : TaskId). IsHeld named after i u.scope u.opened) (sym o.same_id)
              (subst (λ (i : ScopeId). IsHeld named after t.id i u.opened) (sym o.same_scope_of) (subst (λ (i : List ScopeId). IsHeld named after t.id t.scope i) (sym o.opened) held_now));
          homes = subst (Each (λ (x : ScopeId). x.core ≡ me)) (sym o.opened) (refl, fits.homes);
          depth = o.depth;
          waits = o.waits;
        });
        others = others_here given w S me k t plain.plain st.stands.calls next.first.there plain.there mode;
        left = λ x q at h. absurd (goes_not q (sym goes ∙ ap (λ (y : Suspended). y.waits) (some_same t x (sym next.first.there ∙ at)) ∙ h));
        stays = λ l x ne at f. absurd (none_some f.master (sym no_master ∙ f.there));
        count = o.some;
        master = λ x h. subst (MasterStands me e.body s) (some_same m x h) (record { home = refl; alive = omega (arith, o.active); waiter = o.waiter });
        owners = λ q. omega (
          arith,
          o.late q,
          late_before q,
          zero_at q (is_there (a.scopes.masters s)) (ap is_there no_master),
          zero_at q (is_waited_for (a.scopes.masters s)) (ap is_waited_for no_master),
          adds_scope q s (is_waited_for (Some m)) y,
          ap (if_scope q s) o.owner,
        );
        waiters_here = waiters_stay given names tree me a e.body k (Some u) s c (Some m) (st.scopes.cores me) is (sym (ap slots_in uncounted)) (λ q. o.enrols q ∙ sym (none_before q));
        waiters_other = λ l ne. sym (ap (λ (x : Option LocalCount). times l (slots_in x)) uncounted);
        fresh = λ number l. fresh_still e.body number is (ap (λ (x : Scopes). x.next) o.scopes) l;
      }) (st.scopes.cores me) in
      let sums : OneSums given me a [] e k (Some u) s c (Some m) = record {
        counts = λ q. omega (
          arith,
          zero_at q (counted (a.scopes.counts s)) (ap counted uncounted),
          late_before q,
          o.late q,
          scope_before q me,
          ap (λ (x : ScopeId). if_core me u.origin (if_scope q x 1)) o.same_scope_of,
          ap (λ (x : ℕ). if_core me x (if_scope q t.scope 1)) o.same_origin,
          o.units q me,
          if_core_self me (if_scope q s z),
          adds_scope q s y z,
          ap (if_scope q s) o.parts,
          ap (λ (x : List Send). of_sends (carried (of_unit q me)) me x + of_sends (completes q me) me x) o.sends,
        );
        others = λ q i ne. omega (
          arith,
          scope_before q i,
          ap (λ (x : ScopeId). if_core i u.origin (if_scope q x 1)) o.same_scope_of,
          ap (λ (x : ℕ). if_core i x (if_scope q t.scope 1)) o.same_origin,
          o.units q i,
          if_core_off i me (if_scope q s z) ne,
          ap (λ (x : List Send). of_sends (carried (of_unit q i)) me x + of_sends (completes q i) me x) o.sends,
        );
        active = λ q. omega (
          arith,
          ap (if_scope q s) o.active,
          zero_at q (is_active (a.scopes.counts s)) (ap is_active uncounted),
          zero_at q (active_at (a.scopes.masters s)) (ap active_at no_master),
          ap (λ (x : List Send). of_sends (leaves q) me x + of_sends (acks q) me x) o.sends,
        );
        enrolling = λ q. omega (arith, if_scope_zero q s, zero_at q (is_waiting (a.scopes.counts s)) (ap is_waiting uncounted), ap (of_sends (enrolments q me) me) o.sends);
        elsewhere = λ q i ne. sym (ap (of_sends (enrolments q i) me) o.sends);
      } in
      scopes_kept given names named tree after w v me [] e (t.id ∷ []) made (record {
        core = core;
        private = o.private;
        public = o.public;
        sends = subst (Each (λ (x : Send). MessageStands given named after me x.to x.message)) (sym o.sends) tt;
        sums = one_sums given me a [] e k (Some u) s c (Some m) slot is sums;
        kept = keeps;
        away = one_away given w S me k t plain.plain st.stands.calls next.first.there plain.there mode;
        named = named_now e.body (ap (λ (x : Scopes). x.next) o.scopes);
        root = root_opened e.body is o.stops;
      }) st.scopes
    where
      goes_not : (q : ScopeId) → wait.Going ≡ wait.Scope q → ⊥
      goes_not q e = cc

      scope_before : (q : ScopeId) (i : ℕ) → of_held (of_scope q i).of_task (a.tasks.slots k) ≡ if_core i t.origin (if_scope q t.scope 1)
      scope_before q i = ap (of_held (of_scope q i).of_task) next.first.there

      fresh_still : (b : Body) (number : ℕ) → ScopeIs a b s (Some (count.Active n)) (Some m) → b.scopes.next ≡ a.scopes.next + 1 → b.scopes.next ≤ number → b.scopes.masters (record { core = me; number = number }) ≡ None
      fresh_still b number is e l = master_off a b s (Some (count.Active n)) (Some m) is (record { core = me; number = number }) (later number a.scopes.next (omega arith))
          ∙ (st.scopes.cores me).fresh number (omega arith)
        where
          later : (i j : ℕ) → j < i → (me == me && i == j) ≡ false
          later i j l = grind (arith, nat_tests)

      other_way : (q : ScopeId) → same_scope q root_scope ≡ false → same_scope root_scope q ≡ false
      other_way q e = elim (cases_scope root_scope q) [
        | inl f ↦ absurd (not_itself root_scope (ap (λ (r : ScopeId). same_scope r root_scope) f ∙ e))
        | inr f ↦ f
      ]

      root_opened : (b : Body) → ScopeIs a b s (Some (count.Active n)) (Some m) → b.stops ≡ a.stops → RootStands (put (bodies w) me b) after
      root_opened b is e =
          let r = root_same tree (bodies w) me b (ap is_there (master_off a b s (Some (count.Active n)) (Some m) is root_scope (other_way s not_root))) (ap (λ (x : Stops). x.passed) e) st.scopes.root in
          record { master = r.master; passed = r.passed }

  -- ---- a finish, and a loop

  units_still : (us : List WorkUnit) → Each (UnitStands given names tree) us → Each (IsOtherUnit (t.id ∷ [])) us → Each (UnitStands given named after) us
  units_still us f o = Each-weaker (UnitStands given names tree) (IsOtherUnit (t.id ∷ [])) (UnitStands given named after) (unit_still given names named tree after (t.id ∷ []) keeps) us f o

  abbrev away : AreAway given w me (t.id ∷ [])
  away = one_away given w S me k t plain.plain st.stands.calls next.first.there plain.there mode

  private_still : Each (UnitStands given named after) a.work.private
  private_still = units_still a.work.private (st.scopes.private me next.here) (away.private me next.here)

  public_still : Each (UnitStands given named after) a.work.public
  public_still = units_still a.work.public (st.scopes.public me next.here) (away.public me next.here)

  none_open : at_loop t.waits t.action ≡ 0
  none_open = ap (λ (x : Waits). at_loop x t.action) goes

  is_new : (is_none (a.scopes.counts s) && is_none (a.scopes.masters s)) ≡ true
  is_new = ap (λ (x : Option LocalCount). is_none x && is_none (a.scopes.masters s)) uncounted ∙ ap (λ (x : Option Master). is_none x) no_master

  abbrev finished : Outcome
  finished = finishes_in (machine_in given) (without_ready a) k t s

  finish_opens : t.action ≡ action.Finish → Opens finished (goes_on (machine_in given) (opens t s) nothing) 1 1 0 new_master
  finish_opens due = record {
    slots = refl;
    scopes = refl;
    stops = refl;
    sends = refl;
    same_id = refl;
    same_scope_of = refl;
    same_origin = refl;
    opened = refl;
    depth = depth_after given t (opens t s) nothing action.Finish fits.depth due (λ x. x) refl (omega (arith, none_open));
    waits = tt;
    waiter = not_root;
    active = refl;
    parts = refl;
    some = omega arith;
    owner = refl;
    late = λ q. omega arith;
    enrols = λ q. refl;
    units = λ q i. omega (arith, ap (if_core i me) (if_scope_zero q s), if_core_zero i me);
    private = private_still;
    public = public_still;
  }

  pub finishes_keep : t.action ≡ action.Finish → KeepsScopes given w me [] (acts (machine_in given) me (without_ready a) k t t.action) named after
  finishes_keep due = subst (λ (e : Outcome). KeepsScopes given w me [] e named after)
      (sym (ap (acts (machine_in given) me (without_ready a) k t) due ∙ ap (λ (b : Bool). if b then finished else dropped (without_ready a) k) is_new))
      (opens_keep finished (goes_on (machine_in given) (opens t s) nothing) 1 1 0 new_master (finish_opens due))

  module _ (lo hi grain target : ℕ) (args : List ℕ) (due : t.action ≡ action.Loop lo hi grain target args) (l : lo < hi) where
    abbrev looping : Outcome
    looping = loops_in me (without_ready a) k t lo hi grain target args s

    abbrev at_it : Suspended
    at_it = record (opens t s) { waits = wait.Scope s }

    abbrev master_of_loop : Master
    master_of_loop = wait_for (waiter.Task k) new_master

    loop_opens : Opens looping at_it (hi - lo) 0 (hi - lo) master_of_loop
    loop_opens = record {
      slots = refl;
      scopes = refl;
      stops = refl;
      sends = refl;
      same_id = refl;
      same_scope_of = refl;
      same_origin = refl;
      opened = refl;
      depth = record { first = fits.depth.first; depth = omega (arith, fits.depth.depth, none_open, ap one_for_loop due) };
      waits = record {
        outer = t.opened;
        opened = refl;
        master = master_of_loop;
        there = put_scope_at a.scopes.masters s (Some master_of_loop);
        waits = refl;
        action = subst WaitsThere (sym due) tt;
      };
      waiter = record { task = at_it; there = put_same a.tasks.slots k (Some at_it); waits = refl; inner = not_root };
      active = refl;
      parts = omega arith;
      some = omega (arith, l);
      owner = refl;
      late = λ q. omega (arith, if_scope_zero q s);
      enrols = λ q. refl;
      units = λ q i. omega arith;
      private = ((record { number = tree.count; named = put_same names tree.count (Some s) }, next.here), private_still);
      public = public_still;
    }

    below : (i j : ℕ) → i < j → nat_lt i j ≡ true
    below i j l = grind (arith, nat_tests, l)

    pub loops_keep : KeepsScopes given w me [] (acts (machine_in given) me (without_ready a) k t t.action) named after
    loops_keep = subst (λ (e : Outcome). KeepsScopes given w me [] e named after)
        (sym (ap (acts (machine_in given) me (without_ready a) k t) due
        ∙ ap (λ (b : Bool). if b then loops_over me (without_ready a) k t lo hi grain target args else loops_over_nothing (machine_in given) (without_ready a) k t lo hi grain target args) (below lo hi l)
        ∙ ap (λ (b : Bool). if b then looping else dropped (without_ready a) k) is_new))
        (opens_keep looping at_it (hi - lo) 0 (hi - lo) master_of_loop loop_opens)

pub finishes_keep_scopes : laws.FinishesKeepScopes
finishes_keep_scopes given names w S me k more t holder st next due = finishes_keep given names w S me k more t holder st next due

pub loops_keep_scopes : laws.LoopsKeepScopes
loops_keep_scopes given names w S me k more t holder lo hi grain target args st next due l = loops_keep given names w S me k more t holder st next lo hi grain target args due l
