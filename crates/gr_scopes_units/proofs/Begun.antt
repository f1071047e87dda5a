-- A unit's task starts: a single, or the first index of a chunk. The part of scopes is kept.
use Rattle.std.proofs.Common.{◌≡◌, ◌≢◌, ◌⊎◌, ℕ, zero, suc, ◌+◌, ◌-◌, ◌<◌, ◌≤◌, Bool, true, false, nat_lt, if◌then◌else◌, List, [], ◌∷◌, ◌++◌, length, inl, inr, sym, ◌∙◌, ap, subst, refl, arith, Option, Some, None}
use Rattle.std.proofs.lemmas.Bool.Decides.{nat_tests}
use Rattle.gr_lang.specs.declared.action.TaskId.{TaskId}
use Rattle.gr_lang.specs.States.{State}
use Rattle.gr_view.specs.Places.{put}
use Rattle.gr_msg.specs.declared.message.ScopeId.{ScopeId}
use Rattle.gr_msg.specs.declared.message.Unit.{Unit as WorkUnit}
use Rattle.gr_msg.specs.declared.message.Unit.TheVariants as unit
use Rattle.gr_event.specs.declared.counts.LocalCount.{LocalCount}
use Rattle.gr_event.specs.declared.masters.Master.{Master}
use Rattle.gr_net.specs.Sums.{weigh, Each}
use Rattle.gr_net.proofs.Spreads.{Each-weaker}
use Rattle.gr_work.specs.Queues.{Queues, after_next}
use Rattle.gr_machine.specs.declared.waits.Waits.{Waits}
use Rattle.gr_machine.specs.declared.waits.Waits.TheVariants as wait
use Rattle.gr_machine.specs.Spawns.{private_first}
use Rattle.gr_machine.specs.States.{Suspended, Tasks, Scopes, Stops, Body}
use Rattle.gr_machine.specs.Outcomes.{Outcome, Send, quietly}
use Rattle.gr_machine.specs.Openings.{root_scope, new_task}
use Rattle.gr_machine.specs.Slots.{readied, numbered, own_id}
use Rattle.gr_machine.specs.Runs.{first_unit, without_unit, with_rest, starts, begins}
use Rattle.gr_stands.specs.Worlds.{Given, machine_in, World, Weight, bodies, of_sends}
use Rattle.gr_stands.specs.Censuses.{of_held, carried}
use Rattle.gr_stands.specs.Calls.{of_slot, times}
use Rattle.gr_stands.proofs.Places.{cases_id, other_than_none}
use Rattle.gr_scopes.specs.Trees.{Holder, holder_of, Tree, tree_of, with_task, Rises, Names, IsHeld}
use Rattle.gr_scopes.specs.Sums.{if_scope, if_core, is_there, is_enrolling, late_scopes, is_late, slots_in, of_unit, of_scope, completes, leaves, acks, enrolments}
use Rattle.gr_scopes.specs.Scopes.{SlotStands, MasterStands, CoreStands, UnitStands, MessageStands, NamesStand, RootStands, one_unless, ScopesStand}
use Rattle.gr_scopes.specs.ScopeActs.{KeepsOthers}
use Rattle.gr_scopes.proofs.Counts.{if_scope_zero, if_core_zero, units_weigh}
use Rattle.gr_scopes.proofs.Depths.{depth_new}
use Rattle.gr_scopes.proofs.Kept.{adds_scope, adds_core, unit_still, scopes_kept}
use Rattle.gr_scopes.proofs.Cores.{keeps_all, named_same, root_same}
use Rattle.gr_scopes_opens.specs.Keeping.{KeepsScopes, StandsWith}
use Rattle.gr_scopes_opens.proofs.Common.{some_same, none_some, none_away, holder_at, holder_other, waiter_other}
use Rattle.gr_scopes_opens.proofs.Ones.{slot_put, ScopeIs, put_scope_itself, OneAct, one_core, waiters_stay, OneSums, one_sums}
use Rattle.gr_scopes_opens.proofs.Taken.{TakenApart, taken_apart}
use Rattle.gr_scopes_units.specs.Laws as laws

-- A task that starts in a free slot, from a unit that weighs as much as it and what is left of it.
module _ (given : Given) (names : Names) (w : World) (S : State) (after : Tree) (me k : ℕ) (st : StandsWith given names w S) (here : me < given.setup.cores) (free : (bodies w me).tasks.slots k ≡ None) (low : k < given.slots)
    (t : Suspended) (e : Outcome) (keeps : KeepsOthers names names (tree_of S) after []) where
  abbrev a : Body
  a = bodies w me

  pub record Starts : Type 0 where
    slots : e.body.tasks.slots ≡ put a.tasks.slots k (Some t)
    scopes : e.body.scopes ≡ a.scopes
    stops : e.body.stops ≡ a.stops
    sends : e.sends ≡ []
    going : t.waits ≡ wait.Going
    opened : t.opened ≡ []
    stands : SlotStands given names after me e.body k t
    units : (q : ScopeId) (i : ℕ) → units_weigh (of_scope q i) a ≡ if_core i t.origin (if_scope q t.scope 1) + units_weigh (of_scope q i) e.body
    private : Each (UnitStands given names after) e.body.work.private
    public : Each (UnitStands given names after) e.body.work.public
    named : NamesStand given names (put (bodies w) me e.body) after
    passed : after.passed ≡ (tree_of S).passed

  pub starts_keep : Starts → KeepsScopes given w me [] e names after
  starts_keep act v made =
      let s = t.scope in
      let c = a.scopes.counts s in
      let m = a.scopes.masters s in
      let o : Option Suspended = Some t in
      let is : ScopeIs a e.body s c m = record { counts = ap (λ (x : Scopes). x.counts) act.scopes ∙ put_scope_itself a.scopes.counts s; masters = ap (λ (x : Scopes). x.masters) act.scopes ∙ put_scope_itself a.scopes.masters s } in
      let slot = slot_put given a e.body k o low act.slots in
      let old = st.scopes.cores me in
      let no_late : (q : ScopeId) → is_late q t ≡ 0 = λ q. late_none q t.waits act.going act.opened in
      let no_enrol : (q : ScopeId) → is_enrolling q t.waits ≡ 0 = λ q. ap (is_enrolling q) act.going in
      let core : CoreStands given names after me e.body = one_core given names names (tree_of S) after [] me a e.body k o s c m keeps (record {
        slot = slot;
        scope = is;
        new = λ u h. subst (SlotStands given names after me e.body k) (some_same t u h) act.stands;
        others = λ l u ne h. tt;
        left = λ u q at h. absurd (none_some u (sym free ∙ at));
        stays = λ l u ne at f. record { outer = f.outer; opened = f.opened; master = f.master; there = ap (λ (x : Scopes). x.masters s) act.scopes ∙ f.there; waits = f.waits; action = f.action };
        count = old.counts s;
        master = λ y h. let f = old.masters s y h in record { home = f.home; alive = f.alive; waiter = waiter_other a e.body s k slot.same (λ u at f. none_some u (sym free ∙ at)) y.waiter f.waiter };
        owners = λ q. omega (arith, no_late q, ap (of_held (is_late q)) free);
        waiters_here = waiters_stay given names (tree_of S) me a e.body k o s c m old is refl (λ q. no_enrol q ∙ sym (ap (of_slot (is_enrolling q)) free));
        waiters_other = λ l ne. refl;
        fresh = λ j l. ap (λ (x : Scopes). x.masters (record { core = me; number = j })) act.scopes ∙ old.fresh j (subst (λ (x : Scopes). x.next ≤ j) act.scopes l);
      }) old in
      let sent : (h : Weight) → of_sends h me e.sends ≡ 0 = λ h. ap (of_sends h me) act.sends in
      let sums : OneSums given me a [] e k o s c m = record {
        counts = λ q. omega (arith, no_late q, ap (of_held (is_late q)) free, ap (of_held (of_scope q me).of_task) free, act.units q me, sent (carried (of_unit q me)), sent (completes q me));
        others = λ q i ne. omega (arith, ap (of_held (of_scope q i).of_task) free, act.units q i, sent (carried (of_unit q i)), sent (completes q i));
        active = λ q. omega (arith, sent (leaves q), sent (acks q));
        enrolling = λ q. omega (arith, sent (enrolments q me));
        elsewhere = λ q i ne. sym (sent (enrolments q i));
      } in
      scopes_kept given names names (tree_of S) after w v me [] e [] made (record {
        core = core;
        private = act.private;
        public = act.public;
        sends = subst (Each (λ (y : Send). MessageStands given names after me y.to y.message)) (sym act.sends) tt;
        sums = one_sums given me a [] e k o s c m slot is sums;
        kept = keeps;
        away = none_away given w S me st.stands.calls;
        named = act.named;
        root =
            let r = root_same (tree_of S) (bodies w) me e.body (ap (λ (x : Scopes). is_there (x.masters root_scope)) act.scopes) (ap (λ (x : Stops). x.passed) act.stops) st.scopes.root in
            record { master = r.master ∙ ap one_unless (sym act.passed); passed = r.passed ∙ sym act.passed };
      }) st.scopes
    where
      late_none : (q : ScopeId) (x : Waits) → x ≡ wait.Going → t.opened ≡ [] → weigh (λ other. if_scope q other 1) (late_scopes x t.opened) ≡ 0
      late_none q x going none = ap (λ (y : Waits). weigh (λ other. if_scope q other 1) (late_scopes y t.opened)) going ∙ ap (weigh (λ other. if_scope q other 1)) none

-- ---- a single

pub singles_keep_scopes : laws.SinglesKeepScopes
singles_keep_scopes given names w S me k target args scope origin id st here is free low =
    let a = bodies w me in
    let tree = tree_of S in
    let P : WorkUnit → Type 0 = UnitStands given names tree in
    let machine = machine_in given in
    let u = unit.Single target args scope origin id in
    let t : Suspended = new_task id scope origin (machine.code.start target args) in
    let e = starts machine (without_unit a) k target args scope origin id in
    let taken : TakenApart P (record { private = a.work.private; public = a.work.public }) u = taken_apart P a.work.private a.work.public u is (st.scopes.private me here) (st.scopes.public me here) in
    starts_keep given names w S tree me k st here free low t e (keeps_all names tree []) (record {
      slots = refl;
      scopes = refl;
      stops = refl;
      sends = refl;
      going = refl;
      opened = refl;
      stands = record { held = taken.one; homes = tt; depth = depth_new given t target args refl refl refl refl; waits = tt };
      units = λ q i. omega (arith, taken.weighs (of_unit q i));
      private = taken.private;
      public = taken.public;
      named = named_same given names tree (bodies w) me e.body refl st.scopes.named;
      passed = refl;
    })

-- ---- an index

module _ (given : Given) (names : Names) (w : World) (S : State) (me k target : ℕ) (args : List ℕ) (scope : ScopeId) (number origin : ℕ) (owner : TaskId) (lo hi grain : ℕ)
    (st : StandsWith given names w S) (here : me < given.setup.cores) (named_so : names number ≡ Some scope)
    (is : first_unit (bodies w me) ≡ Some (unit.Chunk target args scope origin owner lo hi grain)) (some : lo < hi) where
  abbrev b : Body
  b = bodies w me

  abbrev tree : Tree
  tree = tree_of S

  abbrev kid : TaskId
  kid = own_id me b

  abbrev kid_holder : Holder
  kid_holder = record { scope = number; opened = [] }

  abbrev next_tree : Tree
  next_tree = with_task tree kid number

  new_kid : tree.holders kid ≡ None
  new_kid = ap holder_of (st.stands.calls.tasks.fresh me b.tasks.next (omega arith))

  kid_keeps : KeepsOthers names names tree next_tree []
  kid_keeps = record {
    named = λ n q h. h;
    held = λ id x other h. elim (cases_id id kid) [
      | inl z ↦ absurd (none_some x (sym new_kid ∙ ap tree.holders (sym z) ∙ h))
      | inr z ↦ holder_other tree.holders kid kid_holder id z ∙ h
    ];
  }

  named_next : (x : Body) → x.scopes.next ≡ b.scopes.next → NamesStand given names (put (bodies w) me x) next_tree
  named_next x e =
      let old = named_same given names tree (bodies w) me x e st.scopes.named in
      record {
        root = old.root;
        apart = old.apart;
        opened = old.opened;
        given_by = old.given_by;
        rises = λ id inside open_ones h. elim (cases_id id kid) [
          | inl z ↦
              let same : kid_holder ≡ record { scope = inside; opened = open_ones } = some_same kid_holder (record { scope = inside; opened = open_ones }) (sym (ap next_tree.holders z ∙ holder_at tree.holders kid kid_holder) ∙ h) in
              subst (λ (y : Holder). Rises y.scope tree.count y.opened) same (old.opened number scope named_so)
          | inr z ↦ old.rises id inside open_ones (sym (holder_other tree.holders kid kid_holder id z) ∙ h)
        ];
      }

  units_still : (us : List WorkUnit) → Each (UnitStands given names tree) us → Each (UnitStands given names next_tree) us
  units_still us f = Each-weaker (UnitStands given names tree) (UnitStands given names tree) (UnitStands given names next_tree) (λ u h i. unit_still given names names tree next_tree [] kid_keeps u h (other_than_none u)) us f f

  abbrev chunk : WorkUnit
  chunk = unit.Chunk target args scope origin owner lo hi grain

  taken : TakenApart (UnitStands given names tree) (record { private = b.work.private; public = b.work.public }) chunk
  taken = taken_apart (UnitStands given names tree) b.work.private b.work.public chunk is (st.scopes.private me here) (st.scopes.public me here)

  abbrev t : Suspended
  t = new_task kid scope origin ((machine_in given).code.start target (lo ∷ args))

  abbrev ready : Body
  ready = numbered (readied (without_unit b) k t)

  -- What is left of the chunk.
  record Left (x : Body) : Type 0 where
    tasks : x.tasks ≡ ready.tasks
    scopes : x.scopes ≡ b.scopes
    stops : x.stops ≡ b.stops
    units : (q : ScopeId) (i : ℕ) → units_weigh (of_scope q i) x ≡ units_weigh (of_scope q i) ready + if_core i origin (if_scope q scope (hi - (lo + 1)))
    private : Each (UnitStands given names next_tree) x.work.private
    public : Each (UnitStands given names next_tree) x.work.public

  rest_left : Left (with_rest ready target args scope origin owner (lo + 1) hi grain)
  rest_left = by (nat_lt (lo + 1) hi) refl
    where
      empty : nat_lt (lo + 1) hi ≡ false → hi - (lo + 1) ≡ 0
      empty e = grind (arith, nat_tests, e)

      by : (x : Bool) → nat_lt (lo + 1) hi ≡ x → Left (if x then private_first ready (unit.Chunk target args scope origin owner (lo + 1) hi grain) else ready)
      by true e = record {
        tasks = refl;
        scopes = refl;
        stops = refl;
        units = λ q i. omega arith;
        private = ((record { number = number; named = named_so }, taken.one.1), units_still ready.work.private taken.private);
        public = units_still ready.work.public taken.public;
      }
      by false e = record {
        tasks = refl;
        scopes = refl;
        stops = refl;
        units = λ q i. omega (arith, ap (λ (n : ℕ). if_core i origin (if_scope q scope n)) (empty e), ap (if_core i origin) (if_scope_zero q scope), if_core_zero i origin);
        private = units_still ready.work.private taken.private;
        public = units_still ready.work.public taken.public;
      }

  pub index_keeps : b.tasks.slots k ≡ None → k < given.slots → KeepsScopes given w me [] (begins (machine_in given) me (without_unit b) k target args scope origin owner lo hi grain) names next_tree
  index_keeps free low =
      let e = begins (machine_in given) me (without_unit b) k target args scope origin owner lo hi grain in
      let left = rest_left in
      starts_keep given names w S next_tree me k st here free low t e kid_keeps (record {
        slots = ap (λ (x : Tasks). x.slots) left.tasks;
        scopes = left.scopes;
        stops = left.stops;
        sends = refl;
        going = refl;
        opened = refl;
        stands = record {
          held = record { holder = kid_holder; there = holder_at tree.holders kid kid_holder; inside = named_so; opens = refl };
          homes = tt;
          depth = depth_new given t target (lo ∷ args) refl refl refl refl;
          waits = tt;
        };
        units = λ q i. omega (
          arith,
          taken.weighs (of_unit q i),
          left.units q i,
          ap (λ (n : ℕ). if_core i origin (if_scope q scope n)) one_less,
          ap (if_core i origin) (adds_scope q scope 1 (hi - (lo + 1))),
          adds_core i origin (if_scope q scope 1) (if_scope q scope (hi - (lo + 1))),
        );
        private = left.private;
        public = left.public;
        named = named_next e.body (ap (λ (x : Scopes). x.next) left.scopes);
        passed = refl;
      })
    where
      one_less : hi - lo ≡ 1 + (hi - (lo + 1))
      one_less = omega (arith, some)

pub indices_keep_scopes : laws.IndicesKeepScopes
indices_keep_scopes given names w S me k target args scope number origin owner lo hi grain st here named_so is some free low =
    index_keeps given names w S me k target args scope number origin owner lo hi grain st here named_so is some free low
