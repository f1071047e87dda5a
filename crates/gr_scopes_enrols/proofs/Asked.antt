-- A core asks whether it may count in a scope: the scope has a master, which counts one more active core; the part of scopes is kept.
use Rattle.std.proofs.Common.{◌≡◌, ℕ, ◌+◌, ◌<◌, ◌≤◌, ◌^◌, Bool, true, if◌then◌else◌, List, [], ◌∷◌, inl, inr, sym, ◌∙◌, ap, subst, refl, arith, Option, Some, None, nat_lt}
use Rattle.gr_lang.specs.States.{State}
use Rattle.gr_msg.specs.declared.message.ScopeId.{ScopeId}
use Rattle.gr_msg.specs.declared.message.Msg.TheVariants as msg
use Rattle.gr_event.specs.Masters.{enrol_one}
use Rattle.gr_event.specs.declared.counts.LocalCount.{LocalCount}
use Rattle.gr_event.specs.declared.counts.LocalCount.TheVariants as count
use Rattle.gr_event.specs.declared.masters.Master.{Master}
use Rattle.gr_event.proofs.ScopePuts.{put_scope_at, put_scope_other}
use Rattle.gr_net.specs.Sums.{weigh, Each}
use Rattle.gr_net.proofs.Spreads.{total_one}
use Rattle.gr_machine.specs.declared.waits.Waits.{Waits}
use Rattle.gr_machine.specs.declared.waits.Waits.TheVariants as wait
use Rattle.gr_machine.specs.States.{Letter, Suspended, Body}
use Rattle.gr_machine.specs.Outcomes.{Outcome}
use Rattle.gr_machine.specs.Openings.{root_scope}
use Rattle.gr_machine.specs.Serves.{serves}
use Rattle.gr_machine.specs.Slots.{innermost}
use Rattle.gr_machine.specs.ScopeServes.{core_enrolled, core_enrolled_at}
use Rattle.gr_stands.specs.Worlds.{Given, machine_in, World, bodies}
use Rattle.gr_stands.specs.Censuses.{Weights, of_held, body_census, census}
use Rattle.gr_stands.specs.Calls.{of_slot, times}
use Rattle.gr_stands.proofs.Places.{times_self}
use Rattle.gr_stands_calls.specs.Acting.{letter, IsFirstLetter}
use Rattle.gr_scopes.specs.Trees.{Tree, tree_of, Names}
use Rattle.gr_scopes.specs.Sums.{if_scope, counted, is_active, is_waiting, active_at, is_there, is_waited_for, is_enrolling, late_scopes, is_late, late_at, slots_in, of_scope, enrolments}
use Rattle.gr_scopes.specs.Scopes.{MasterStands, CountIsSome, CoreStands}
use Rattle.gr_scopes.proofs.Counts.{cases_scope, if_scope_self, if_core_self}
use Rattle.gr_scopes.proofs.Kept.{adds_scope, scopes_kept}
use Rattle.gr_scopes.proofs.Cores.{keeps_all, named_same, root_same}
use Rattle.gr_scopes_opens.specs.Keeping.{KeepsScopes, StandsWith}
use Rattle.gr_scopes_opens.proofs.Common.{some_same, none_some, none_away, waiter_same, enrols_at}
use Rattle.gr_scopes_opens.proofs.Ones.{slot_none, ScopeIs, put_scope_itself, one_core, waiters_stay, OneSums, one_sums}
use Rattle.gr_scopes_leaves.specs.Served.{KeepsMade}
use Rattle.gr_scopes_leaves.proofs.Letters.{letter_weighs, letter_stands, no_slot}
use Rattle.gr_scopes_leaves.proofs.Left.{active_if}
use Rattle.gr_scopes_enrols.specs.Laws as laws

-- ---- a scope with a task in it has a master

some_master : (o : Option Master) → 0 < active_at o → (master : Master) × (o ≡ Some master)
some_master None l = absurd (omega arith)
some_master (Some m) l = (m, refl)

master_there : (o : Option Master) → 0 < is_there o → (master : Master) × (o ≡ Some master)
master_there None l = absurd (omega arith)
master_there (Some m) l = (m, refl)

-- A task in a slot weighs on the census.
pub census_slot : (h : Weights) (given : Given) (w : World) (c k : ℕ) (u : Suspended) → c < given.setup.cores → k < given.slots → (bodies w c).tasks.slots k ≡ Some u → h.of_task u ≤ census h given w
unfolding census body_census
census_slot h given w c k u here low at =
    let W : ℕ → ℕ = λ l. of_held h.of_task ((bodies w c).tasks.slots l) in
    omega (arith, ap (of_held h.of_task) at, total_one W given.slots k low, total_one (λ d. body_census h given.slots (bodies w d)) given.setup.cores c here)

pub late_slot : (q : ScopeId) (m : ℕ) (b : Body) (k : ℕ) (u : Suspended) → k < m → b.tasks.slots k ≡ Some u → is_late q u ≤ late_at q m b
unfolding late_at
late_slot q m b k u low at = omega (arith, ap (of_held (is_late q)) at, total_one (λ l. of_held (is_late q) (b.tasks.slots l)) m k low)

module _ (given : Given) (names : Names) (w : World) (S : State) (st : StandsWith given names w S) where
  -- A scope of which a core counts something has a master.
  pub counted_master : (s : ScopeId) (c : ℕ) → c < given.setup.cores → 0 < counted ((bodies w c).scopes.counts s) → (master : Master) × ((bodies w s.core).scopes.masters s ≡ Some master)
  counted_master s c here l = some_master ((bodies w s.core).scopes.masters s)
      (omega (arith, st.scopes.active s, ap (λ (n : ℕ). n) (active_if ((bodies w c).scopes.counts s) l), total_one (λ i. is_active ((bodies w i).scopes.counts s)) given.setup.cores c here))

  -- The scope in which a task stands.
  pub own_master : (c k : ℕ) (u : Suspended) → (bodies w c).tasks.slots k ≡ Some u → (master : Master) × ((bodies w u.scope.core).scopes.masters u.scope ≡ Some master)
  own_master c k u at =
      let f = st.stands.calls.tasks.slots c k u at in
      counted_master u.scope u.origin f.counted
      (omega (arith, st.scopes.counts u.scope u.origin, census_slot (of_scope u.scope u.origin) given w c k u f.here f.low at, if_core_self u.origin (if_scope u.scope u.scope 1), if_scope_self u.scope 1))

  -- The innermost scope of a task that waits for an enrolment.
  pub inner_master : (c k : ℕ) (u : Suspended) (s : ScopeId) → (bodies w c).tasks.slots k ≡ Some u → u.waits ≡ wait.Enrolment s → innermost u ≡ s → (master : Master) × ((bodies w s.core).scopes.masters s ≡ Some master)
  inner_master c k u s at waits inner = go u.opened refl
    where
      go : (ss : List ScopeId) → u.opened ≡ ss → (master : Master) × ((bodies w s.core).scopes.masters s ≡ Some master)
      go [] none =
          let same : u.scope ≡ s = ap (λ (x : List ScopeId). innermost (record u { opened = x })) (sym none) ∙ inner in
          subst (λ (q : ScopeId). (master : Master) × ((bodies w q.core).scopes.masters q ≡ Some master)) same (own_master c k u at)
      go (x ∷ xs) some =
          let same : x ≡ s = ap (λ (y : List ScopeId). innermost (record u { opened = y })) (sym some) ∙ inner in
          let f = (st.scopes.cores c).slots k u at in
          let home : x.core ≡ c = (subst (Each (λ (y : ScopeId). y.core ≡ c)) some f.homes).0 in
          let late : is_late x u ≡ if_scope x x 1 + weigh (λ other. if_scope x other 1) xs = ap (λ (y : Waits). weigh (λ other. if_scope x other 1) (late_scopes y u.opened)) waits ∙ ap (weigh (λ other. if_scope x other 1)) some in
          let one : 0 < is_there ((bodies w c).scopes.masters x) =
          omega (arith, (st.scopes.cores c).owners x, late_slot x given.slots (bodies w c) k u (st.stands.calls.tasks.slots c k u at).low at, late, if_scope_self x 1) in
          subst (λ (q : ScopeId). (master : Master) × ((bodies w q.core).scopes.masters q ≡ Some master)) same
          (subst (λ (i : ℕ). (master : Master) × ((bodies w i).scopes.masters x ≡ Some master)) (sym home) (master_there ((bodies w c).scopes.masters x) one))

  -- A core where slots wait to count in a scope.
  pub waited_master : (s : ScopeId) (c : ℕ) → 0 < is_waiting ((bodies w c).scopes.counts s) → (master : Master) × ((bodies w s.core).scopes.masters s ≡ Some master)
  waited_master s c l = go ((bodies w c).scopes.counts s) refl l
    where
      old : CoreStands given names (tree_of S) c (bodies w c)
      old = st.scopes.cores c

      by : (ks : List ℕ) → (bodies w c).scopes.counts s ≡ Some (count.Waits ks) → (master : Master) × ((bodies w s.core).scopes.masters s ≡ Some master)
      by [] e = absurd (omega (arith, subst (λ (x : Option LocalCount). CountIsSome x) e (old.counts s)))
      by (k ∷ ks) e =
          let h = enrols_at given names (tree_of S) c (bodies w c) old s k (times k ks) (ap (λ (x : Option LocalCount). times k (slots_in x)) e ∙ times_self k ks) in
          inner_master c k h.task s h.there h.waits h.fits.under

      go : (x : Option LocalCount) → (bodies w c).scopes.counts s ≡ x → 0 < is_waiting x → (master : Master) × ((bodies w s.core).scopes.masters s ≡ Some master)
      go None e l = absurd (omega arith)
      go (Some (count.Active n)) e l = absurd (omega arith)
      go (Some (count.Waits ks)) e l = by ks e

-- ---- the event

module _ (given : Given) (names : Names) (w : World) (S : State) (me from : ℕ) (s : ScopeId) (st : StandsWith given names w S) (first : IsFirstLetter given w me from (msg.Enrol s)) where
  abbrev a : Body
  a = bodies w me

  abbrev tree : Tree
  tree = tree_of S

  abbrev got : List Letter
  got = letter from (msg.Enrol s) ∷ []

  fits : (me ≡ s.core) × (from < given.setup.cores)
  fits = letter_stands given w me from (msg.Enrol s) first names tree st.scopes

  pub asked_master : (master : Master) × (a.scopes.masters s ≡ Some master)
  asked_master = subst (λ (i : ℕ). (master : Master) × ((bodies w i).scopes.masters s ≡ Some master)) (sym fits.0)
      (waited_master given names w S st s from (omega (arith, st.scopes.enrolling s from, letter_weighs given w me from (msg.Enrol s) first (enrolments s from), if_core_self from (if_scope s s 1), if_scope_self s 1)))

  module _ (master : Master) (there : a.scopes.masters s ≡ Some master) where
    abbrev e : Outcome
    e = core_enrolled_at a from s (Some master)

    keeps_one : KeepsScopes given w me got e names tree
    keeps_one v made =
        let c = a.scopes.counts s in
        let m : Option Master = Some (enrol_one master) in
        let none = no_slot given w S me st.stands.calls in
        let is : ScopeIs a e.body s c m = record { counts = put_scope_itself a.scopes.counts s; masters = refl } in
        let slot = slot_none given a e.body given.slots none refl in
        let old = st.scopes.cores me in
        let stood = old.masters s master there in
        let core : CoreStands given names tree me e.body = one_core given names names tree tree [] me a e.body given.slots None s c m (keeps_all names tree []) (record {
          slot = slot;
          scope = is;
          new = λ u h. absurd (none_some u h);
          others = λ l u ne h. tt;
          left = λ u q at h. absurd (none_some u (sym none ∙ at));
          stays = λ l u ne at f. record {
            outer = f.outer;
            opened = f.opened;
            master = enrol_one master;
            there = put_scope_at a.scopes.masters s m;
            waits = ap (λ (x : Master). x.waiter) (some_same master f.master (sym there ∙ f.there)) ∙ f.waits;
            action = f.action;
          };
          count = old.counts s;
          master = λ y h. subst (MasterStands me e.body s) (some_same (enrol_one master) y h) (record { home = stood.home; alive = omega arith; waiter = waiter_same a e.body s refl master.waiter stood.waiter });
          owners = λ q. omega (arith, ap (λ (x : Option Master). if_scope q s (is_waited_for x)) there, ap (λ (x : Option Master). if_scope q s (is_there x)) there, ap (of_held (is_late q)) none);
          waiters_here = waiters_stay given names tree me a e.body given.slots None s c m old is refl (λ q. sym (ap (of_slot (is_enrolling q)) none));
          waiters_other = λ l ne. refl;
          fresh = λ j l. elim (cases_scope (record { core = me; number = j }) s) [
            | inl g ↦ absurd (none_some master (sym (ap a.scopes.masters (sym g) ∙ old.fresh j l) ∙ there))
            | inr g ↦ put_scope_other a.scopes.masters s m (record { core = me; number = j }) g ∙ old.fresh j l
          ];
        }) old in
        let sums : OneSums given me a got e given.slots None s c m = record {
          counts = λ q. omega (arith, ap (of_held (is_late q)) none, ap (of_held (of_scope q me).of_task) none);
          others = λ q i ne. omega (arith, ap (of_held (of_scope q i).of_task) none);
          active = λ q. omega (arith, ap (λ (x : Option Master). if_scope q s (active_at x)) there, adds_scope q s master.active 1);
          enrolling = λ q. omega arith;
          elsewhere = λ q i ne. omega arith;
        } in
        scopes_kept given names names tree tree w v me got e [] made (record {
          core = core;
          private = st.scopes.private me first.here;
          public = st.scopes.public me first.here;
          sends = (tt, tt);
          sums = one_sums given me a got e given.slots None s c m slot is sums;
          kept = keeps_all names tree [];
          away = none_away given w S me st.stands.calls;
          named = named_same given names tree (bodies w) me e.body refl st.scopes.named;
          root = root_same tree (bodies w) me e.body root_there refl st.scopes.root;
        }) st.scopes
      where
        root_there : is_there (e.body.scopes.masters root_scope) ≡ is_there (a.scopes.masters root_scope)
        root_there = elim (cases_scope root_scope s) [
          | inl h ↦ ap (λ (r : ScopeId). is_there (e.body.scopes.masters r)) h ∙ ap is_there (put_scope_at a.scopes.masters s (Some (enrol_one master))) ∙ sym (ap (λ (r : ScopeId). is_there (a.scopes.masters r)) h ∙ ap is_there there)
          | inr h ↦ ap is_there (put_scope_other a.scopes.masters s (Some (enrol_one master)) root_scope h)
        ]

    pub asks_kept : nat_lt master.active (2 ^ 63) ≡ true → KeepsMade given w me got (serves (machine_in given) me a from (msg.Enrol s)) names tree
    asks_kept l = record {
      outcome = e;
      acts = ap (core_enrolled a from s) there ∙ ap (λ (b : Bool). if b then Some e else None) l;
      sends = (fits.1, tt);
      keeps = keeps_one;
    }

pub enrols_find_masters : laws.EnrolsFindMasters
enrols_find_masters given names w S me from s st first = asked_master given names w S me from s st first

pub enrols_keep_scopes : laws.EnrolsKeepScopes
enrols_keep_scopes given names w S me from s master st first there l = asks_kept given names w S me from s st first master there l
