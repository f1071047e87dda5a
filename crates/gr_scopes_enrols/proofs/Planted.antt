-- Several tasks are made one after another at a core that may count in their scope. What holds between two of them: but for the slots that are left, the part of scopes.
use Rattle.std.proofs.Common.{◌≡◌, ◌≢◌, ℕ, suc, ◌+◌, ◌<◌, ◌≤◌, List, [], ◌∷◌, length, inl, inr, sym, ◌∙◌, ap, subst, refl, arith, lt_irrefl, Option, Some, None}
use mathlib.Core.Path.{fun_ext}
use Rattle.std.proofs.lemmas.Bool.{cases_eq}
use Rattle.gr_lang.specs.declared.action.Action.TheVariants as action
use Rattle.gr_lang.specs.declared.action.TaskId.{TaskId}
use Rattle.gr_lang.specs.Effects.{nothing}
use Rattle.gr_view.specs.Places.{put}
use Rattle.gr_msg.specs.declared.message.ScopeId.{ScopeId}
use Rattle.gr_msg.specs.declared.message.Msg.{Msg}
use Rattle.gr_msg.specs.declared.message.Msg.TheVariants as msg
use Rattle.gr_msg.specs.declared.message.Unit.{Unit as WorkUnit}
use Rattle.gr_event.specs.Scopes.{put_scope}
use Rattle.gr_event.proofs.ScopePuts.{put_scope_at, put_scope_other}
use Rattle.gr_event.specs.declared.counts.LocalCount.{LocalCount}
use Rattle.gr_event.specs.declared.counts.LocalCount.TheVariants as count
use Rattle.gr_net.specs.Sums.{weigh, Each}
use Rattle.gr_net.proofs.Spreads.{weigh-append, Each-append, Each-weaker}
use Rattle.gr_machine.specs.declared.waits.Waits.{Waits}
use Rattle.gr_machine.specs.declared.waits.Waits.TheVariants as wait
use Rattle.gr_machine.specs.States.{Suspended, Tasks, Scopes, Body}
use Rattle.gr_machine.specs.Outcomes.{Outcome, Send, followed}
use Rattle.gr_machine.specs.Slots.{goes_on, own_id, innermost}
use Rattle.gr_machine.specs.Spawns.{placed, new_single, made_in, planted}
use Rattle.gr_machine.specs.ScopeServes.{planted_by, planted_in, planted_all}
use Rattle.gr_stands.specs.Worlds.{Given, machine_in, World, Weight, bodies, of_sends}
use Rattle.gr_stands.specs.Censuses.{of_held, body_census, carried}
use Rattle.gr_stands.specs.Calls.{of_slot, times}
use Rattle.gr_stands.specs.CallActs.{IsOtherIn}
use Rattle.gr_stands.proofs.Places.{cases_id, times_self, times_other, other_than_none}
use Rattle.gr_scopes.specs.Trees.{Holder, Tree, with_task, Rises, Names}
use Rattle.gr_scopes.specs.Sums.{if_scope, is_enrolling, late_scopes, is_late, late_at, slots_in, of_unit, of_scope, completes, leaves, acks, enrolments}
use Rattle.gr_scopes.specs.Depths.{at_loop}
use Rattle.gr_scopes.specs.Scopes.{SlotStands, CountIsSome, CoreStands, UnitStands, MessageStands, NamesStand}
use Rattle.gr_scopes.specs.ScopeActs.{KeepsOthers}
use Rattle.gr_scopes.proofs.Counts.{cases_scope, if_scope_self, if_scope_off, if_core_self, if_core_off}
use Rattle.gr_scopes.proofs.Depths.{depth_after}
use Rattle.gr_scopes.proofs.Kept.{adds_scope, held_still, unit_still, message_still}
use Rattle.gr_scopes_opens.proofs.Common.{some_same, none_some, holder_at, holder_other, waiter_other, Enrols, enrols_at}
use Rattle.gr_scopes_opens.proofs.Placed.{Placing, places}
use Rattle.gr_scopes_opens.proofs.Ones.{SlotIs, slot_put, ScopeIs, count_here, count_off, put_scope_itself, one_core}
use Rattle.gr_scopes_enrols.specs.Several.{with_tasks}

-- The count of a scope in which these slots wait.
abbrev pub waits_of : List ℕ → Option LocalCount
waits_of [] = None
waits_of (k ∷ ks) = Some (count.Waits (k ∷ ks))

pub slots_of_waits : (ks : List ℕ) → slots_in (waits_of ks) ≡ ks
slots_of_waits [] = refl
slots_of_waits (k ∷ ks) = refl

waits_some : (ks : List ℕ) → CountIsSome (waits_of ks)
waits_some [] = tt
waits_some (k ∷ ks) = omega arith

-- Another put at the same scope.
pub put_twice : {X : Type 0} (f : ScopeId → X) (s : ScopeId) (x y : X) → put_scope f s y ≡ put_scope (put_scope f s x) s y
put_twice f s x y = fun_ext (λ q. elim (cases_scope q s) [
  | inl e ↦ ap (put_scope f s y) e ∙ put_scope_at f s y ∙ sym (put_scope_at (put_scope f s x) s y) ∙ ap (put_scope (put_scope f s x) s y) (sym e)
  | inr e ↦ put_scope_other f s y q e ∙ sym (put_scope_other f s x q e) ∙ sym (put_scope_other (put_scope f s x) s y q e)
])

none_in : (m : Msg) → IsOtherIn [] m
none_in (msg.Spawn u) = other_than_none u
none_in (msg.StealGive u) = other_than_none u
none_in _ = tt

module _ (given : Given) (names : Names) (w : World) (me : ℕ) (here : me < given.setup.cores) (s : ScopeId) (number : ℕ) (named_so : names number ≡ Some s) (tree : Tree) (total_new : ℕ) where
  abbrev a : Body
  a = bodies w me

  -- The scopes of the core, where these slots wait for the scope.
  abbrev pub scopes_for : List ℕ → Scopes
  scopes_for ks = record a.scopes { counts = put_scope a.scopes.counts s (waits_of ks) }

  abbrev pub scopes_now : Scopes
  scopes_now = record a.scopes { counts = put_scope a.scopes.counts s (Some (count.Active total_new)) }

  abbrev pub for_slots : Body → List ℕ → Body
  for_slots b ks = record b { scopes = scopes_for ks }

  -- These slots are left. The tree is that of the tasks so far.
  pub record Midway (e : Outcome) (T : Tree) (ks : List ℕ) : Type 0 where
    pub core : CoreStands given names T me (for_slots e.body ks)
    pub within : (l : ℕ) (u : Suspended) → e.body.tasks.slots l ≡ Some u → l < given.slots
    pub scopes : e.body.scopes ≡ scopes_now
    pub stops : e.body.stops ≡ a.stops
    pub private : Each (UnitStands given names T) e.body.work.private
    pub public : Each (UnitStands given names T) e.body.work.public
    pub sends : Each (λ (y : Send). MessageStands given names T me y.to y.message) e.sends
    pub low : Each (λ (y : Send). y.to < given.setup.cores) e.sends
    pub late : (q : ScopeId) → late_at q given.slots e.body ≡ late_at q given.slots a
    pub grew : (q : ScopeId) → body_census (of_scope q me) given.slots e.body + of_sends (carried (of_unit q me)) me e.sends + if_scope q s (length ks) ≡ body_census (of_scope q me) given.slots a + if_scope q s total_new
    pub others : (q : ScopeId) (i : ℕ) → i ≢ me → body_census (of_scope q i) given.slots e.body + of_sends (carried (of_unit q i)) me e.sends ≡ body_census (of_scope q i) given.slots a
    pub calm : (q : ScopeId) (i : ℕ) → of_sends (completes q i) me e.sends + of_sends (leaves q) me e.sends + of_sends (acks q) me e.sends + of_sends (enrolments q i) me e.sends ≡ 0
    pub kept : KeepsOthers names names tree T []
    pub named : NamesStand given names (bodies w) T
    pub passed : T.passed ≡ tree.passed
    pub fresh : (n : ℕ) → e.body.tasks.next ≤ n → T.holders (record { core = me; number = n }) ≡ None

  -- ---- one task is made

  module _ (e : Outcome) (T : Tree) (k : ℕ) (ks : List ℕ) (mid : Midway e T (k ∷ ks)) where
    abbrev b : Body
    b = e.body

    abbrev from : Body
    from = for_slots b (k ∷ ks)

    counts_before : from.scopes.counts s ≡ Some (count.Waits (k ∷ ks))
    counts_before = put_scope_at a.scopes.counts s (waits_of (k ∷ ks))

    waiting : times k (slots_in (from.scopes.counts s)) ≡ suc (times k ks)
    waiting = ap (λ (x : Option LocalCount). times k (slots_in x)) counts_before ∙ times_self k ks

    pub at_slot : Enrols given names T me from mid.core k s
    at_slot = enrols_at given names T me from mid.core s k (times k ks) waiting

    abbrev t : Suspended
    t = at_slot.task

    there : b.tasks.slots k ≡ Some t
    there = at_slot.there

    enrolls : (q : ScopeId) → of_slot (is_enrolling q) (b.tasks.slots k) ≡ if_scope q s 1
    enrolls q = ap (of_slot (is_enrolling q)) there ∙ ap (is_enrolling q) at_slot.waits

    once : times k ks ≡ 0
    once = omega (arith, waiting, mid.core.waiters s k, enrolls s, if_scope_self s 1)

    stood : SlotStands given names T me from k t
    stood = mid.core.slots k t there

    none_open : at_loop t.waits t.action ≡ 0
    none_open = ap (λ (x : Waits). at_loop x t.action) at_slot.waits

    not_waiting : (u : Suspended) (q : ScopeId) → b.tasks.slots k ≡ Some u → u.waits ≡ wait.Scope q → ⊥
    not_waiting u q at h = waits_not (sym at_slot.waits ∙ ap (λ (y : Suspended). y.waits) (some_same t u (sym there ∙ at)) ∙ h)
      where
        waits_not : wait.Enrolment s ≡ wait.Scope q → ⊥
        waits_not z = cc

    abbrev kid : TaskId
    kid = own_id me b

    abbrev kid_holder : Holder
    kid_holder = record { scope = number; opened = [] }

    abbrev next_tree : Tree
    next_tree = with_task T kid number

    new_kid : T.holders kid ≡ None
    new_kid = mid.fresh b.tasks.next (omega arith)

    keeps : KeepsOthers names names T next_tree []
    keeps = record {
      named = λ n q h. h;
      held = λ id x other h. elim (cases_id id kid) [
        | inl z ↦ absurd (none_some x (sym new_kid ∙ ap T.holders (sym z) ∙ h))
        | inr z ↦ holder_other T.holders kid kid_holder id z ∙ h
      ];
    }

    named_next : NamesStand given names (bodies w) next_tree
    named_next = record {
      root = mid.named.root;
      apart = mid.named.apart;
      opened = mid.named.opened;
      given_by = mid.named.given_by;
      rises = λ id scope open_ones h. elim (cases_id id kid) [
        | inl x ↦
            let same : kid_holder ≡ record { scope = scope; opened = open_ones } = some_same kid_holder (record { scope = scope; opened = open_ones }) (sym (ap next_tree.holders x ∙ holder_at T.holders kid kid_holder) ∙ h) in
            subst (λ (y : Holder). Rises y.scope T.count y.opened) same (mid.named.opened number s named_so)
        | inr x ↦ mid.named.rises id scope open_ones (sym (holder_other T.holders kid kid_holder id x) ∙ h)
      ];
    }

    abbrev g : Suspended
    g = goes_on (machine_in given) t nothing

    abbrev made : Body
    made = made_in (machine_in given) me b k t

    abbrev single : WorkUnit
    single = new_single me b t at_slot.fits.target at_slot.fits.args

    abbrev step : Outcome
    step = placed me made at_slot.fits.way single

    put_there : Placing given names next_tree me made at_slot.fits.way single step
    put_there = places given names next_tree me made single at_slot.fits.way

    single_stands : UnitStands given names next_tree single
    single_stands = record { holder = kid_holder; there = holder_at T.holders kid kid_holder; inside = named_so ∙ ap Some (sym at_slot.fits.under); opens = refl }

    abbrev to_body : Body
    to_body = for_slots step.body ks

    slots_are : step.body.tasks.slots ≡ put b.tasks.slots k (Some g)
    slots_are = ap (λ (x : Tasks). x.slots) put_there.tasks

    low_slot : k < given.slots
    low_slot = mid.within k t there

    slot : SlotIs given b step.body k (Some g)
    slot = slot_put given b step.body k (Some g) low_slot slots_are

    is : ScopeIs from to_body s (waits_of ks) (a.scopes.masters s)
    is = record { counts = put_twice a.scopes.counts s (waits_of (k ∷ ks)) (waits_of ks); masters = put_scope_itself a.scopes.masters s }

    late_before : (q : ScopeId) → of_held (is_late q) (b.tasks.slots k) ≡ weigh (λ other. if_scope q other 1) t.opened
    late_before q = ap (of_held (is_late q)) there ∙ ap (λ (x : Waits). weigh (λ other. if_scope q other 1) (late_scopes x t.opened)) at_slot.waits

    core_next : CoreStands given names next_tree me to_body
    core_next = one_core given names names T next_tree [] me from to_body k (Some g) s (waits_of ks) (a.scopes.masters s) keeps (record {
      slot = slot_put given from to_body k (Some g) low_slot slots_are;
      scope = is;
      new = λ x h. subst (SlotStands given names next_tree me to_body k) (some_same g x h) (record {
        held = held_still given names names T next_tree [] keeps t.id t.scope t.opened tt stood.held;
        homes = stood.homes;
        depth = depth_after given t t nothing (action.Spawn at_slot.fits.way at_slot.fits.target at_slot.fits.args) stood.depth at_slot.fits.next (λ x. x) refl (omega (arith, none_open));
        waits = tt;
      });
      others = λ l x ne h. tt;
      left = λ x q at h. absurd (not_waiting x q at h);
      stays = λ l x ne at f. record { outer = f.outer; opened = f.opened; master = f.master; there = f.there; waits = f.waits; action = f.action };
      count = waits_some ks;
      master = λ y h. let f = mid.core.masters s y h in record { home = f.home; alive = f.alive; waiter = waiter_other from to_body s k slot.same (λ x at f. not_waiting x s at f) y.waiter f.waiter };
      owners = λ q. omega (arith, late_before q);
      waiters_here = λ q. elim (cases_scope q s) [
        | inl z ↦ subst (λ (r : ScopeId). times k (slots_in (to_body.scopes.counts r)) ≡ 0) (sym z)
            (ap (λ (x : Option LocalCount). times k (slots_in x)) (count_here from to_body s (waits_of ks) (a.scopes.masters s) is) ∙ ap (times k) (slots_of_waits ks) ∙ once)
        | inr z ↦ ap (λ (x : Option LocalCount). times k (slots_in x)) (count_off from to_body s (waits_of ks) (a.scopes.masters s) is q z) ∙ mid.core.waiters q k ∙ enrolls q ∙ if_scope_off q s 1 z
      ];
      waiters_other = λ l ne. ap (times l) (slots_of_waits ks) ∙ sym (times_other l k ks ne) ∙ sym (ap (λ (x : Option LocalCount). times l (slots_in x)) counts_before);
      fresh = mid.core.fresh;
    }) mid.core

    abbrev next_outcome : Outcome
    next_outcome = followed e (planted (machine_in given) me b k t at_slot.fits.way at_slot.fits.target at_slot.fits.args)

    units_still : (us : List WorkUnit) → Each (UnitStands given names T) us → Each (UnitStands given names next_tree) us
    units_still us f = Each-weaker (UnitStands given names T) (UnitStands given names T) (UnitStands given names next_tree) (λ u h i. unit_still given names names T next_tree [] keeps u h (other_than_none u)) us f f

    sends_of : (h : Weight) → of_sends h me next_outcome.sends ≡ of_sends h me e.sends + of_sends h me step.sends
    sends_of h = weigh-append (λ (y : Send). h me y.to y.message) e.sends step.sends

    sends_still : (ys : List Send) → Each (λ (y : Send). MessageStands given names T me y.to y.message) ys → Each (λ (y : Send). MessageStands given names next_tree me y.to y.message) ys
    sends_still [] f = tt
    sends_still (y ∷ ys) f = (message_still given names names T next_tree [] keeps me y.to y.message f.0 (none_in y.message), sends_still ys f.1)

    longer : length (k ∷ ks) ≡ length ks + 1
    longer = omega arith

    pub goes_next : Midway next_outcome next_tree ks
    goes_next = record {
      core = core_next;
      within = λ l u h. elim (cases_eq l k) [
        | inl z ↦ subst (λ (i : ℕ). i < given.slots) (sym z) low_slot
        | inr z ↦ mid.within l u (sym (slot.same l z) ∙ h)
      ];
      scopes = put_there.scopes ∙ mid.scopes;
      stops = put_there.stops ∙ mid.stops;
      private = put_there.private (units_still b.work.private mid.private) single_stands;
      public = put_there.public (units_still b.work.public mid.public) single_stands;
      sends = Each-append (λ (y : Send). MessageStands given names next_tree me y.to y.message) e.sends step.sends (sends_still e.sends mid.sends) (put_there.sends single_stands);
      low = Each-append (λ (y : Send). y.to < given.setup.cores) e.sends step.sends mid.low (put_there.low at_slot.fits.core);
      late = λ q. omega (arith, slot.late q, late_before q, mid.late q);
      grew = λ q. omega (
        arith,
        mid.grew q,
        slot.census (of_scope q me),
        ap (of_held (of_scope q me).of_task) there,
        put_there.units (of_unit q me),
        if_core_self me (if_scope q (innermost t) 1),
        ap (λ (x : ScopeId). if_scope q x 1) at_slot.fits.under,
        sends_of (carried (of_unit q me)),
        ap (if_scope q s) longer,
        adds_scope q s (length ks) 1,
      );
      others = λ q i ne. omega (
        arith,
        mid.others q i ne,
        slot.census (of_scope q i),
        ap (of_held (of_scope q i).of_task) there,
        put_there.units (of_unit q i),
        if_core_off i me (if_scope q (innermost t) 1) ne,
        sends_of (carried (of_unit q i)),
      );
      calm = λ q i. omega (arith, mid.calm q i, put_there.calm q i, sends_of (completes q i), sends_of (leaves q), sends_of (acks q), sends_of (enrolments q i));
      kept = record {
        named = λ n q h. h;
        held = λ id x other h. keeps.held id x other (mid.kept.held id x other h);
      };
      named = named_next;
      passed = mid.passed;
      fresh = λ n l.
          let l2 : b.tasks.next + 1 ≤ n = subst (λ (x : Tasks). x.next ≤ n) put_there.tasks l in
          elim (cases_id (record { core = me; number = n }) kid) [
            | inl z ↦ absurd (lt_irrefl b.tasks.next (omega (arith, ap (λ (x : TaskId). x.number) z)))
            | inr z ↦ holder_other T.holders kid kid_holder (record { core = me; number = n }) z ∙ mid.fresh n (omega arith)
          ];
    }

    -- It is this that the machine does.
    pub does_so : planted_in (machine_in given) me b k (b.tasks.slots k) ≡ planted (machine_in given) me b k t at_slot.fits.way at_slot.fits.target at_slot.fits.args
    does_so = ap (planted_in (machine_in given) me b k) there ∙ ap (planted_by (machine_in given) me b k t) at_slot.fits.next

    pub next_number : next_outcome.body.tasks.next ≡ b.tasks.next + 1
    next_number = ap (λ (x : Tasks). x.next) put_there.tasks

  -- ---- all are made

  pub go_all : (ks : List ℕ) (e : Outcome) (T : Tree) → Midway e T ks → Midway (planted_all (machine_in given) me e ks) (with_tasks T me e.body.tasks.next number (length ks)) []
  go_all [] e T mid = mid
  go_all (k ∷ ks) e T mid =
      subst (λ (x : Outcome). Midway (planted_all (machine_in given) me (followed e x) ks) (with_tasks (with_task T (own_id me e.body) number) me (e.body.tasks.next + 1) number (length ks)) []) (sym (does_so e T k ks mid))
      (subst (λ (n : ℕ). Midway (planted_all (machine_in given) me (next_outcome e T k ks mid) ks) (with_tasks (next_tree e T k ks mid) me n number (length ks)) []) (next_number e T k ks mid)
      (go_all ks (next_outcome e T k ks mid) (next_tree e T k ks mid) (goes_next e T k ks mid)))
