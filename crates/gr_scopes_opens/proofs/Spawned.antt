-- A task makes a new one, or waits until its core may count it: the part of scopes is kept.
use Rattle.std.proofs.Common.{◌≡◌, ◌≢◌, ◌⊎◌, ℕ, zero, suc, ◌+◌, ◌<◌, ◌≤◌, ◌==◌, ◌&&◌, ◌^◌, Bool, true, false, if◌then◌else◌, List, [], ◌∷◌, ◌++◌, length, inl, inr, sym, ◌∙◌, ap, subst, refl, arith, Option, Some, None, nat_lt}
use Rattle.std.proofs.lemmas.Bool.Decides.{nat_tests}
use Rattle.gr_lang.specs.declared.action.Action.TheVariants as action
use Rattle.gr_lang.specs.declared.action.How.{How}
use Rattle.gr_lang.specs.declared.action.How.TheVariants as how
use Rattle.gr_lang.specs.declared.action.TaskId.{TaskId}
use Rattle.gr_lang.specs.declared.action.TrapKind.TheVariants as trap
use Rattle.gr_lang.specs.Effects.{nothing}
use Rattle.gr_lang.specs.States.{State}
use Rattle.gr_lang.specs.States as plain
use Rattle.gr_lang.specs.Steps.{has_core}
use Rattle.gr_view.specs.Places.{put}
use Rattle.gr_msg.specs.declared.message.ScopeId.{ScopeId}
use Rattle.gr_msg.specs.declared.message.Msg.{Msg}
use Rattle.gr_msg.specs.declared.message.Msg.TheVariants as msg
use Rattle.gr_msg.specs.declared.message.Unit.{Unit as WorkUnit}
use Rattle.gr_event.specs.Scopes.{put_scope}
use Rattle.gr_event.specs.declared.counts.LocalCount.{LocalCount}
use Rattle.gr_event.specs.declared.counts.LocalCount.TheVariants as count
use Rattle.gr_event.specs.declared.masters.Master.{Master}
use Rattle.gr_net.specs.Sums.{weigh, Each}
use Rattle.gr_net.proofs.Spreads.{weigh-append, Each-append, Each-weaker}
use Rattle.gr_work.specs.Queues.{Queues}
use Rattle.gr_machine.specs.Machines.{is_core}
use Rattle.gr_machine.specs.declared.waits.Waits.{Waits}
use Rattle.gr_machine.specs.declared.waits.Waits.TheVariants as wait
use Rattle.gr_machine.specs.States.{Suspended, Tasks, Scopes, Stops, Body}
use Rattle.gr_machine.specs.Outcomes.{Outcome, Send, to, marked, quietly}
use Rattle.gr_machine.specs.Openings.{root_scope}
use Rattle.gr_lang.specs.declared.action.Entry.TheVariants as entry
use Rattle.gr_machine.specs.Slots.{waiting, dropped, goes_on, own_id, innermost, innermost_of}
use Rattle.gr_machine.specs.Spawns.{trapped, private_last, placed, new_single, made_in, planted, with_count, asks_enrolment, waits_enrolment, can_enrol, enrols, spawns_under}
use Rattle.gr_machine.specs.Runs.{acts, without_ready}
use Rattle.gr_stands.specs.Worlds.{Given, machine_in, World, bodies, of_sends}
use Rattle.gr_stands.specs.Censuses.{of_held, carried}
use Rattle.gr_stands.specs.Calls.{of_slot, times}
use Rattle.gr_stands.specs.CallActs.{IsOtherUnit}
use Rattle.gr_stands.proofs.Places.{cases_id, times_last, times_before, other_than_none}
use Rattle.gr_stands_calls.specs.Acting.{IsFirst}
use Rattle.gr_stands_calls.proofs.Common.{first_goes}
use Rattle.gr_scopes.specs.Trees.{Holder, holder_of, Tree, tree_of, with_task, Rises, Names, IsHeld}
use Rattle.gr_scopes.specs.Sums.{if_scope, if_core, counted, is_active, is_waiting, active_at, is_there, is_enrolling, late_scopes, is_late, slots_in, of_unit, of_scope, completes, leaves, acks, enrolments}
use Rattle.gr_scopes.specs.Depths.{at_loop, HasDepth}
use Rattle.gr_scopes.specs.Scopes.{IsWaiter, WaitStands, SlotStands, MasterStands, CountIsSome, CoreStands, UnitStands, MessageStands, NamesStand, ScopesStand}
use Rattle.gr_scopes.specs.ScopeActs.{KeepsOthers, AreAway}
use Rattle.gr_scopes.proofs.Counts.{cases_scope, if_scope_self, if_scope_off, if_scope_zero, if_core_self, if_core_off, units_weigh}
use Rattle.gr_scopes.proofs.Depths.{depth_after}
use Rattle.gr_scopes.proofs.Kept.{adds_scope, held_still, unit_still, scopes_kept}
use Rattle.gr_scopes.proofs.Cores.{keeps_all, named_same, root_same}
use Rattle.gr_scopes_opens.specs.Keeping.{KeepsScopes, StandsWith, IsNext}
use Rattle.gr_scopes_opens.specs.SpawnLaws as laws
use Rattle.gr_scopes_opens.specs.SpawnLaws.{IsSpawning}
use Rattle.gr_scopes_opens.proofs.Common.{some_same, none_some, none_away, innermost_named, inner_named, holder_at, holder_other, waiter_other}
use Rattle.gr_scopes_opens.proofs.Placed.{Placing, places}
use Rattle.gr_scopes_opens.proofs.Ones.{SlotIs, slot_put, ScopeIs, count_here, count_off, put_scope_itself, OneAct, one_core, waiters_stay, OneSums, one_sums}

module _ (given : Given) (names : Names) (w : World) (S : State) (me k : ℕ) (more : List ℕ) (t : Suspended) (holder : Holder) (way : How) (target : ℕ) (args : List ℕ) (sp : IsSpawning given names w S me k more t holder way target args) where
  abbrev a : Body
  a = bodies w me

  abbrev tree : Tree
  tree = tree_of S

  abbrev s : ScopeId
  s = innermost t

  abbrev st : StandsWith given names w S
  st = sp.stands

  abbrev first : IsFirst w me k more t
  first = sp.next.first

  goes : t.waits ≡ wait.Going
  goes = first_goes given w S me k more t st.stands first

  low : k < given.slots
  low = (st.stands.calls.tasks.slots me k t first.there).low

  abbrev fits : SlotStands given names tree me a k t
  fits = (st.scopes.cores me).slots k t first.there

  none_open : at_loop t.waits t.action ≡ 0
  none_open = ap (λ (x : Waits). at_loop x t.action) goes

  not_waiting : (u : Suspended) (q : ScopeId) → a.tasks.slots k ≡ Some u → u.waits ≡ wait.Scope q → ⊥
  not_waiting u q at h = goes_not (sym goes ∙ ap (λ (y : Suspended). y.waits) (some_same t u (sym first.there ∙ at)) ∙ h)
    where
      goes_not : wait.Going ≡ wait.Scope q → ⊥
      goes_not e = cc

  late_before : (q : ScopeId) → of_held (is_late q) (a.tasks.slots k) ≡ weigh (λ other. if_scope q other 1) t.opened
  late_before q = ap (of_held (is_late q)) first.there ∙ ap (λ (x : Waits). weigh (λ other. if_scope q other 1) (late_scopes x t.opened)) goes

  none_before : (q : ScopeId) → of_slot (is_enrolling q) (a.tasks.slots k) ≡ 0
  none_before q = ap (of_slot (is_enrolling q)) first.there ∙ ap (is_enrolling q) goes

  scope_before : (q : ScopeId) (i : ℕ) → of_held (of_scope q i).of_task (a.tasks.slots k) ≡ if_core i t.origin (if_scope q t.scope 1)
  scope_before q i = ap (of_held (of_scope q i).of_task) first.there

  number_named : names (plain.innermost_of holder.scope holder.opened) ≡ Some s
  number_named =
      let same : fits.held.holder ≡ holder = some_same fits.held.holder holder (sym fits.held.there ∙ sp.next.held) in
      subst (λ (h : Holder). names (plain.innermost_of h.scope h.opened) ≡ Some s) same (inner_named names fits.held.holder.scope fits.held.holder.opened t.scope t.opened fits.held.inside fits.held.opens)

  home_is : s.core < given.setup.cores
  home_is = (st.scopes.named.given_by (plain.innermost_of holder.scope holder.opened) s number_named).0

  lower : (i j : ℕ) → i < j → nat_lt i j ≡ true
  lower i j l = grind (arith, nat_tests, l)

  -- ---- a task is made

  abbrev kid : TaskId
  kid = own_id me a

  abbrev number : ℕ
  number = plain.innermost_of holder.scope holder.opened

  abbrev after : Tree
  after = with_task tree kid number

  abbrev kid_holder : Holder
  kid_holder = record { scope = number; opened = [] }

  new_kid : tree.holders kid ≡ None
  new_kid = ap holder_of (st.stands.calls.tasks.fresh me a.tasks.next (omega arith))

  keeps : KeepsOthers names names tree after []
  keeps = record {
    named = λ n q h. h;
    held = λ id x other h. elim (cases_id id kid) [
      | inl e ↦ absurd (none_some x (sym new_kid ∙ ap tree.holders (sym e) ∙ h))
      | inr e ↦ holder_other tree.holders kid kid_holder id e ∙ h
    ];
  }

  named_after : (b : Body) → b.scopes.next ≡ a.scopes.next → NamesStand given names (put (bodies w) me b) after
  named_after b e =
      let old = named_same given names tree (bodies w) me b e st.scopes.named in
      record {
        root = old.root;
        apart = old.apart;
        opened = old.opened;
        given_by = old.given_by;
        rises = λ id scope open_ones h. elim (cases_id id kid) [
          | inl x ↦
              let same : kid_holder ≡ record { scope = scope; opened = open_ones } = some_same kid_holder (record { scope = scope; opened = open_ones }) (sym (ap after.holders x ∙ holder_at tree.holders kid kid_holder) ∙ h) in
              subst (λ (y : Holder). Rises y.scope tree.count y.opened) same (old.opened number s number_named)
          | inr x ↦ old.rises id scope open_ones (sym (holder_other tree.holders kid kid_holder id x) ∙ h)
        ];
      }

  abbrev single : WorkUnit
  single = new_single me a t target args

  single_stands : UnitStands given names after single
  single_stands = record { holder = kid_holder; there = holder_at tree.holders kid kid_holder; inside = number_named; opens = refl }

  units_still : (us : List WorkUnit) → Each (UnitStands given names tree) us → Each (UnitStands given names after) us
  units_still us f = Each-weaker (UnitStands given names tree) (UnitStands given names tree) (UnitStands given names after) (λ u g h. unit_still given names names tree after [] keeps u g (other_than_none u)) us f f

  module _ (n : ℕ) (was : a.scopes.counts s ≡ Some (count.Active n)) where
    abbrev counting : Body
    counting = with_count (without_ready a) s (Some (count.Active (n + 1)))

    abbrev making : How → Outcome
    making x = planted (machine_in given) me counting k t x target args

    private_still : Each (UnitStands given names after) a.work.private
    private_still = units_still a.work.private (st.scopes.private me sp.next.here)

    public_still : Each (UnitStands given names after) a.work.public
    public_still = units_still a.work.public (st.scopes.public me sp.next.here)

    abbrev made : Body
    made = made_in (machine_in given) me counting k t

    put_there : Placing given names after me made way single (placed me made way single)
    put_there = places given names after me made single way

    slots_are : (making way).body.tasks.slots ≡ put a.tasks.slots k (Some (goes_on (machine_in given) t nothing))
    slots_are = ap (λ (x : Tasks). x.slots) put_there.tasks

    spawn_keeps : KeepsScopes given w me [] (making way) names after
    spawn_keeps v ran =
        let e = making way in
        let c : Option LocalCount = Some (count.Active (n + 1)) in
        let m = a.scopes.masters s in
        let u = goes_on (machine_in given) t nothing in
        let is : ScopeIs a e.body s c m = record { counts = ap (λ (x : Scopes). x.counts) put_there.scopes; masters = ap (λ (x : Scopes). x.masters) put_there.scopes ∙ put_scope_itself a.scopes.masters s } in
        let slot = slot_put given a e.body k (Some u) low slots_are in
        let old = st.scopes.cores me in
        let core : CoreStands given names after me e.body = one_core given names names tree after [] me a e.body k (Some u) s c m keeps (record {
          slot = slot;
          scope = is;
          new = λ x h. subst (SlotStands given names after me e.body k) (some_same u x h) (record {
            held = held_still given names names tree after [] keeps t.id t.scope t.opened tt fits.held;
            homes = fits.homes;
            depth = depth_after given t t nothing (action.Spawn way target args) fits.depth sp.action (λ x. x) refl (omega (arith, none_open));
            waits = tt;
          });
          others = λ l x ne h. tt;
          left = λ x q at h. absurd (not_waiting x q at h);
          stays = λ l x ne at f. record { outer = f.outer; opened = f.opened; master = f.master; there = ap (λ (y : Scopes). y.masters s) put_there.scopes ∙ f.there; waits = f.waits; action = f.action };
          count = omega arith;
          master = λ y h. let f = old.masters s y h in record { home = f.home; alive = f.alive; waiter = waiter_other a e.body s k slot.same (λ x at f. not_waiting x s at f) y.waiter f.waiter };
          owners = λ q. omega (arith, late_before q);
          waiters_here = waiters_stay given names tree me a e.body k (Some u) s c m old is (sym (ap slots_in was)) (λ q. sym (none_before q));
          waiters_other = λ l ne. sym (ap (λ (x : Option LocalCount). times l (slots_in x)) was);
          fresh = λ j l. ap (λ (y : Scopes). y.masters (record { core = me; number = j })) put_there.scopes ∙ old.fresh j (subst (λ (y : Scopes). y.next ≤ j) put_there.scopes l);
        }) old in
        let sums : OneSums given me a [] e k (Some u) s c m = record {
          counts = λ q. omega (arith, late_before q, scope_before q me, ap (λ (x : Option LocalCount). if_scope q s (counted x)) was, adds_scope q s n 1, put_there.units (of_unit q me), if_core_self me (if_scope q s 1), put_there.calm q me);
          others = λ q i ne. omega (arith, scope_before q i, put_there.units (of_unit q i), if_core_off i me (if_scope q s 1) ne, put_there.calm q i);
          active = λ q. omega (arith, ap (λ (x : Option LocalCount). if_scope q s (is_active x)) was, put_there.calm q me);
          enrolling = λ q. omega (arith, ap (λ (x : Option LocalCount). if_scope q s (is_waiting x)) was, put_there.calm q me);
          elsewhere = λ q i ne. omega (arith, put_there.calm q i);
        } in
        scopes_kept given names names tree after w v me [] e [] ran (record {
          core = core;
          private = put_there.private private_still single_stands;
          public = put_there.public public_still single_stands;
          sends = put_there.sends single_stands;
          sums = one_sums given me a [] e k (Some u) s c m slot is sums;
          kept = keeps;
          away = none_away given w S me st.stands.calls;
          named = named_after e.body (ap (λ (y : Scopes). y.next) put_there.scopes);
          root =
              let r = root_same tree (bodies w) me e.body (ap (λ (y : Scopes). is_there (y.masters root_scope)) put_there.scopes) (ap (λ (y : Stops). y.passed) put_there.stops) st.scopes.root in
              record { master = r.master; passed = r.passed };
        }) st.scopes

    can : nat_lt n (2 ^ 127) ≡ true → (nat_lt s.core given.setup.cores && nat_lt n (2 ^ 127)) ≡ true
    can l = ap (λ (b : Bool). b && nat_lt n (2 ^ 127)) (lower s.core given.setup.cores home_is) ∙ l

    pub spawns_so : nat_lt n (2 ^ 127) ≡ true → KeepsScopes given w me [] (acts (machine_in given) me (without_ready a) k t t.action) names after
    spawns_so l = subst (λ (e : Outcome). KeepsScopes given w me [] e names after)
        (sym (ap (acts (machine_in given) me (without_ready a) k t) sp.action
        ∙ ap (λ (b : Bool). if b then spawns_under (machine_in given) me (without_ready a) k t way target args (a.scopes.counts s) else trapped (without_ready a) k t trap.Core) sp.core
        ∙ ap (spawns_under (machine_in given) me (without_ready a) k t way target args) was
        ∙ ap (λ (b : Bool). if b then making way else dropped (without_ready a) k) (can l)))
        spawn_keeps

  -- ---- a task waits until its core may count

  module _ (c0 : Option LocalCount) (ks : List ℕ) (sends : List Send) (was : a.scopes.counts s ≡ c0) (slots_are : slots_in c0 ≡ ks) (uncounted : counted c0 ≡ 0) (inactive : is_active c0 ≡ 0)
      (stands : Each (λ (y : Send). MessageStands given names tree me y.to y.message) sends)
      (asking : (q : ScopeId) → if_scope q s (is_waiting c0) + of_sends (enrolments q me) me sends ≡ if_scope q s 1)
      (elsewhere : (q : ScopeId) (i : ℕ) → i ≢ me → of_sends (enrolments q i) me sends ≡ 0)
      (calm : (q : ScopeId) (i : ℕ) → of_sends (carried (of_unit q i)) me sends + of_sends (completes q i) me sends + of_sends (leaves q) me sends + of_sends (acks q) me sends ≡ 0) where
    abbrev held : Suspended
    held = record t { waits = wait.Enrolment s }

    abbrev waits_so : Outcome
    waits_so = record { body = waiting (with_count (without_ready a) s (Some (count.Waits (ks ++ k ∷ [])))) k t (wait.Enrolment s); sends = sends; marks = [] }

    none_yet : times k ks ≡ 0
    none_yet = ap (times k) (sym (ap slots_in was ∙ slots_are)) ∙ (st.scopes.cores me).waiters s k ∙ none_before s

    enrols_keep : KeepsScopes given w me [] waits_so names tree
    enrols_keep v ran =
        let e = waits_so in
        let c : Option LocalCount = Some (count.Waits (ks ++ k ∷ [])) in
        let m = a.scopes.masters s in
        let is : ScopeIs a e.body s c m = record { counts = refl; masters = put_scope_itself a.scopes.masters s } in
        let slot = slot_put given a e.body k (Some held) low refl in
        let old = st.scopes.cores me in
        let core : CoreStands given names tree me e.body = one_core given names names tree tree [] me a e.body k (Some held) s c m (keeps_all names tree []) (record {
          slot = slot;
          scope = is;
          new = λ x h. subst (SlotStands given names tree me e.body k) (some_same held x h) (record {
            held = fits.held;
            homes = fits.homes;
            depth = record { first = fits.depth.first; depth = omega (arith, fits.depth.depth, none_open) };
            waits = record { under = refl; way = way; target = target; args = args; next = sp.action; core = sp.core };
          });
          others = λ l x ne h. tt;
          left = λ x q at h. absurd (not_waiting x q at h);
          stays = λ l x ne at f. record { outer = f.outer; opened = f.opened; master = f.master; there = f.there; waits = f.waits; action = f.action };
          count = longer ks;
          master = λ y h. let f = old.masters s y h in record { home = f.home; alive = f.alive; waiter = waiter_other a e.body s k slot.same (λ x at f. not_waiting x s at f) y.waiter f.waiter };
          owners = λ q. omega (arith, late_before q);
          waiters_here = λ q. elim (cases_scope q s) [
            | inl g ↦ subst (λ (r : ScopeId). times k (slots_in (e.body.scopes.counts r)) ≡ if_scope r s 1) (sym g)
                (ap (λ (x : Option LocalCount). times k (slots_in x)) (count_here a e.body s c m is) ∙ times_last k ks ∙ ap suc none_yet ∙ sym (if_scope_self s 1))
            | inr g ↦ ap (λ (x : Option LocalCount). times k (slots_in x)) (count_off a e.body s c m is q g) ∙ old.waiters q k ∙ none_before q ∙ sym (if_scope_off q s 1 g)
          ];
          waiters_other = λ l ne. times_before l k ks ne ∙ sym (ap (times l) (ap slots_in was ∙ slots_are));
          fresh = old.fresh;
        }) old in
        let sums : OneSums given me a [] e k (Some held) s c m = record {
          counts = λ q. omega (arith, late_before q, scope_before q me, ap (λ (x : Option LocalCount). if_scope q s (counted x)) was, ap (if_scope q s) uncounted, if_scope_zero q s, calm q me);
          others = λ q i ne. omega (arith, scope_before q i, calm q i);
          active = λ q. omega (arith, ap (λ (x : Option LocalCount). if_scope q s (is_active x)) was, ap (if_scope q s) inactive, if_scope_zero q s, calm q me);
          enrolling = λ q. omega (arith, ap (λ (x : Option LocalCount). if_scope q s (is_waiting x)) was, asking q);
          elsewhere = λ q i ne. sym (elsewhere q i ne);
        } in
        scopes_kept given names names tree tree w v me [] e [] ran (record {
          core = core;
          private = st.scopes.private me sp.next.here;
          public = st.scopes.public me sp.next.here;
          sends = stands;
          sums = one_sums given me a [] e k (Some held) s c m slot is sums;
          kept = keeps_all names tree [];
          away = none_away given w S me st.stands.calls;
          named = named_same given names tree (bodies w) me e.body refl st.scopes.named;
          root = root_same tree (bodies w) me e.body refl refl st.scopes.root;
        }) st.scopes
      where
        longer : (xs : List ℕ) → 0 < length (xs ++ k ∷ [])
        longer [] = omega arith
        longer (x ∷ xs) = omega arith

  waits_when : (c0 : Option LocalCount) → a.scopes.counts s ≡ c0 → can_enrol (machine_in given) s c0 ≡ true
      → acts (machine_in given) me (without_ready a) k t t.action ≡ enrols (machine_in given) me (without_ready a) k t way target args c0
  waits_when c0 was l =
      ap (acts (machine_in given) me (without_ready a) k t) sp.action
      ∙ ap (λ (b : Bool). if b then spawns_under (machine_in given) me (without_ready a) k t way target args (a.scopes.counts s) else trapped (without_ready a) k t trap.Core) sp.core
      ∙ ap (spawns_under (machine_in given) me (without_ready a) k t way target args) was
      ∙ ap (λ (b : Bool). if b then enrols (machine_in given) me (without_ready a) k t way target args c0 else dropped (without_ready a) k) l

  can_none : (nat_lt s.core given.setup.cores && nat_lt 0 (2 ^ 127)) ≡ true
  can_none = ap (λ (b : Bool). b && nat_lt 0 (2 ^ 127)) (lower s.core given.setup.cores home_is)

  pub asks_so : a.scopes.counts s ≡ None → KeepsScopes given w me [] (acts (machine_in given) me (without_ready a) k t t.action) names tree
  asks_so was = subst (λ (e : Outcome). KeepsScopes given w me [] e names tree) (sym (waits_when None was can_none))
      (enrols_keep None [] (to s.core (msg.Enrol s)) was refl refl refl ((refl, sp.next.here), tt)
      (λ q. omega (arith, if_scope_zero q s, if_core_self me (if_scope q s 1))) (λ q i ne. omega (arith, if_core_off i me (if_scope q s 1) ne)) (λ q i. refl))

  pub waits_behind : (ks : List ℕ) → a.scopes.counts s ≡ Some (count.Waits ks) → KeepsScopes given w me [] (acts (machine_in given) me (without_ready a) k t t.action) names tree
  waits_behind ks was = subst (λ (e : Outcome). KeepsScopes given w me [] e names tree) (sym (waits_when (Some (count.Waits ks)) was can_none))
      (enrols_keep (Some (count.Waits ks)) ks [] was refl refl refl tt (λ q. omega arith) (λ q i ne. refl) (λ q i. refl))

pub spawns_keep_scopes : laws.SpawnsKeepScopes
spawns_keep_scopes given names w S me k more t holder way target args n sp was l = spawns_so given names w S me k more t holder way target args sp n was l

pub enrolments_are_asked : laws.EnrolmentsAreAsked
enrolments_are_asked given names w S me k more t holder way target args sp was = asks_so given names w S me k more t holder way target args sp was

pub enrolments_wait : laws.EnrolmentsWait
enrolments_wait given names w S me k more t holder way target args slots sp was = waits_behind given names w S me k more t holder way target args sp slots was
