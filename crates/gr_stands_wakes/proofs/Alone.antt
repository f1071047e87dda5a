-- The task of a slot is nowhere else.
use Rattle.std.proofs.Common.{◌≡◌, ◌≢◌, ℕ, zero, suc, ◌+◌, ◌<◌, ◌≤◌, List, [], ◌∷◌, map, inl, inr, sym, ◌∙◌, ap, subst, refl, arith, Option, Some, None}
use Rattle.std.specs.FinMap as fin
use Rattle.std.proofs.lemmas.Bool.{cases_eq}
use Rattle.gr_lang.specs.declared.action.TaskId.{TaskId}
use Rattle.gr_lang.specs.declared.action.WaitingCall.{WaitingCall}
use Rattle.gr_lang.specs.States.{Mode, going, at_loop, ended, trapped, Task, State}
use Rattle.gr_msg.specs.declared.message.Msg.{Msg}
use Rattle.gr_msg.specs.declared.message.Msg.TheVariants as msg
use Rattle.gr_msg.specs.declared.message.Unit.{Unit as WorkUnit}
use Rattle.gr_msg.specs.declared.message.Unit.TheVariants as unit
use Rattle.gr_net.specs.Sums.{weigh, Each}
use Rattle.gr_net.proofs.Spreads.{total_one, total_two, Each-zero, Each-map, Each-weaker}
use Rattle.gr_net.proofs.Flights.{every_zero, every_with}
use Rattle.gr_machine.specs.States.{Letter, Suspended}
use Rattle.gr_machine.specs.Nets.{messages_in}
use Rattle.gr_machine.specs.Events.{Packet}
use Rattle.gr_stands.specs.Worlds.{Given, World, bodies, in_flight}
use Rattle.gr_stands.specs.Censuses.{of_held, body_census, carried, census, is_named, is_single, is_task, going_on, is_unended}
use Rattle.gr_stands.specs.Calls.{MessageFits, CallsStand}
use Rattle.gr_stands.specs.CallActs.{Apart, IsOther, IsOtherUnit, IsOtherIn}
use Rattle.gr_stands.proofs.Places.{named_itself, unnamed, not_same, none_elsewhere}
use Rattle.gr_stands_wakes.specs.Alone.{AreNoUnits, StandsAlone, StandAlone, IsInNoSlot, CarriesNoSlot}
use Rattle.gr_stands_wakes.specs.Laws as laws

-- ---- one task

single_other : (id : TaskId) (u : WorkUnit) → is_single id u ≡ 0 → IsOtherUnit (id ∷ []) u
single_other id (unit.Single target args scope origin name) e = (unnamed id name e, tt)
single_other id (unit.Chunk target args scope origin owner lo hi grain) e = tt

carried_other : (id : TaskId) (from to : ℕ) (m : Msg) → carried (is_single id) from to m ≡ 0 → IsOtherIn (id ∷ []) m
carried_other id from to (msg.Spawn u) e = single_other id u e
carried_other id from to (msg.StealGive u) e = single_other id u e
carried_other id from to _ e = tt

going_most : (m : Mode) → going_on m ≤ 1
going_most ended = omega arith
going_most going = omega arith
going_most at_loop = omega arith
going_most trapped = omega arith

-- A task of which at least one is counted is there, and hasn't ended.
record Lives (state : State) (id : TaskId) : Type 0 where
  plain : Task
  there : fin.get state.tasks id ≡ Some plain
  lives : going_on plain.mode ≡ 1

lives_on : (state : State) (id : TaskId) (n : ℕ) → suc zero ≤ n → n ≡ is_unended (fin.get state.tasks id) → Lives state id
lives_on state id n l e = by (fin.get state.tasks id) refl e
  where
    by : (o : Option Task) → fin.get state.tasks id ≡ o → n ≡ is_unended o → Lives state id
    by None q e = absurd (omega (arith, e, l))
    by (Some t) q e = record { plain = t; there = q; lives = omega (arith, e, l, going_most t.mode) }

module _ (given : Given) (w : World) (S : State) (d k : ℕ) (s : Suspended) (old : CallsStand given w S) (there : (bodies w d).tasks.slots k ≡ Some s) where
  abbrev n : ℕ
  n = given.setup.cores

  abbrev m : ℕ
  m = given.slots

  abbrev F : ℕ → ℕ
  F c = body_census (is_task s.id) m (bodies w c)

  abbrev W : ℕ → ℕ → ℕ
  W c l = of_held (is_task s.id).of_task ((bodies w c).tasks.slots l)

  here : d < n
  here = (old.tasks.slots d k s there).here

  low : k < m
  low = (old.tasks.slots d k s there).low

  weighs : W d k ≡ 1
  weighs = ap (of_held (is_task s.id).of_task) there ∙ named_itself s.id

  in_core : suc zero ≤ F d
  unfolding body_census
  in_core = omega (arith, total_one (W d) m k low, weighs)

  counted : suc zero ≤ census (is_task s.id) given w
  unfolding census
  counted = omega (arith, total_one F n d here, in_core)

  lives : Lives S s.id
  lives = lives_on S s.id (census (is_task s.id) given w) counted (old.once s.id)

  once : census (is_task s.id) given w ≡ 1
  once = old.once s.id ∙ ap is_unended lives.there ∙ lives.lives

  apart : (c : ℕ) → c < n → c ≢ d → F c ≡ 0
  unfolding census
  apart c l ne = omega (arith, once, in_core, total_two F n c d l here ne)

  core_one : F d ≡ 1
  unfolding census
  core_one = omega (arith, once, in_core, total_one F n d here)

  units : (c : ℕ) → c < n → weigh (is_single s.id) (bodies w c).work.private + weigh (is_single s.id) (bodies w c).work.public ≡ 0
  unfolding body_census
  units c lc = elim (cases_eq c d) [
    | inl q ↦ ap (λ (i : ℕ). weigh (is_single s.id) (bodies w i).work.private + weigh (is_single s.id) (bodies w i).work.public) q ∙ omega (arith, core_one, total_one (W d) m k low, weighs)
    | inr q ↦ omega (arith, apart c lc q)
  ]

  no_message : in_flight (carried (is_single s.id)) n w ≡ 0
  unfolding census
  no_message = omega (arith, once, total_one F n d here, in_core)

  no_units : AreNoUnits given w (s.id ∷ [])
  no_units = record {
    private = λ c lc. Each-map (λ (u : WorkUnit). is_single s.id u ≡ 0) (IsOtherUnit (s.id ∷ [])) (single_other s.id) (bodies w c).work.private
        (Each-zero (is_single s.id) (bodies w c).work.private (omega (arith, units c lc)));
    public = λ c lc. Each-map (λ (u : WorkUnit). is_single s.id u ≡ 0) (IsOtherUnit (s.id ∷ [])) (single_other s.id) (bodies w c).work.public
        (Each-zero (is_single s.id) (bodies w c).work.public (omega (arith, units c lc)));
    messages =
        let z = every_zero messages_in (carried (is_single s.id)) n w no_message in
        every_with messages_in (λ from to x. carried (is_single s.id) from to x ≡ 0) (λ from to x. carried (is_single s.id) from to x ≡ 0) (λ from to x. IsOtherIn (s.id ∷ []) x) n w
        (λ from to x p q. carried_other s.id from to x p) z z;
  }

  slot_other : (c l : ℕ) (u : Suspended) → Apart d k c l → (bodies w c).tasks.slots l ≡ Some u → IsOther (s.id ∷ []) u.id
  unfolding body_census
  slot_other c l u ne at =
      let f = old.tasks.slots c l u at in
      let weight : W c l ≡ is_named s.id u.id = ap (of_held (is_task s.id).of_task) at in (
        unnamed s.id u.id (elim (cases_eq c d) [
          | inl q ↦ let in_d : W d l ≡ is_named s.id u.id = ap (λ (i : ℕ). W i l) (sym q) ∙ weight in
              omega (arith, in_d, core_one, weighs, total_two (W d) m l k f.low low (λ r. ne (q, r)))
          | inr q ↦ omega (arith, apart c f.here q, weight, total_one (W c) m l f.low)
        ]),
        tt,
      )

pub tasks_stand_alone : laws.TasksStandAlone
tasks_stand_alone given w S d k s old there =
    let l = lives given w S d k s old there in
    record {
      plain = l.plain;
      there = l.there;
      lives = l.lives;
      slots = slot_other given w S d k s old there;
      units = no_units given w S d k s old there;
    }

pub slots_of_one_name_are_one : laws.SlotsOfOneNameAreOne
slots_of_one_name_are_one given w S d k c l s u old there at e = elim (cases_eq c d) [
  | inl q ↦ elim (cases_eq l k) [
    | inl r ↦ (q, r)
    | inr r ↦ absurd (differ (λ p. r p.1))
  ]
  | inr q ↦ absurd (differ (λ p. q p.0))
]
  where
    differ : Apart d k c l → ⊥
    differ ne = not_same u.id s.id (slot_other given w S d k s old there c l u ne at).0 e

-- ---- units

each_all : {I X : Type 0} (P : I → X → Type 0) (xs : List X) → ((i : I) → Each (P i) xs) → Each (λ x. (i : I) → P i x) xs
each_all P [] f = tt
each_all P (x ∷ xs) f = (λ i. (f i).0, each_all P xs (λ i. (f i).1))

-- A slot with a task.
record Held (w : World) : Type 0 where
  one : ℕ
  number : ℕ
  task : Suspended
  there : (bodies w one).tasks.slots number ≡ Some task

pub units_are_in_no_slot : laws.UnitsAreInNoSlot
units_are_in_no_slot given w S old = (
  λ c lc. (
    each_held (bodies w c).work.private (λ h. (none h).private c lc),
    each_held (bodies w c).work.public (λ h. (none h).public c lc),
  ),
  record {
    inboxes = λ c lc. each_letter c (w.cores c).inbox (λ h. (none h).messages.inboxes c lc);
    buffers = λ c d lc ld. each_message ((w.cores c).buffers d) (λ h. (none h).messages.buffers c d lc ld);
    transits = λ c d lc ld. each_packet (w.transit c d) (λ h. (none h).messages.transits c d lc ld);
  },
)
  where
    none : (h : Held w) → AreNoUnits given w (h.task.id ∷ [])
    none h = no_units given w S h.one h.number h.task old h.there

    each_held : (us : List WorkUnit) → ((h : Held w) → Each (IsOtherUnit (h.task.id ∷ [])) us) → Each (IsInNoSlot w) us
    each_held [] f = tt
    each_held (u ∷ us) f = (λ one number task there. (f (record { one = one; number = number; task = task; there = there })).0, each_held us (λ h. (f h).1))

    each_message : (ms : List Msg) → ((h : Held w) → Each (IsOtherIn (h.task.id ∷ [])) ms) → Each (CarriesNoSlot w) ms
    each_message [] f = tt
    each_message (x ∷ xs) f = (λ one number task there. (f (record { one = one; number = number; task = task; there = there })).0, each_message xs (λ h. (f h).1))

    each_letter : (c : ℕ) (ls : List Letter) → ((h : Held w) → Each (λ (l : Letter). IsOtherIn (h.task.id ∷ []) l.message) ls) → Each (λ (l : Letter). CarriesNoSlot w l.message) ls
    each_letter c [] f = tt
    each_letter c (x ∷ xs) f = (λ one number task there. (f (record { one = one; number = number; task = task; there = there })).0, each_letter c xs (λ h. (f h).1))

    each_packet : (ps : List Packet) → ((h : Held w) → Each (λ (p : Packet). Each (IsOtherIn (h.task.id ∷ [])) (messages_in p)) ps) → Each (λ (p : Packet). Each (CarriesNoSlot w) (messages_in p)) ps
    each_packet [] f = tt
    each_packet (x ∷ xs) f = (each_message (messages_in x) (λ h. (f h).0), each_packet xs (λ h. (f h).1))

-- ---- several tasks

both_units : (id : TaskId) (ids : List TaskId) (u : WorkUnit) → IsOtherUnit (id ∷ []) u → IsOtherUnit ids u → IsOtherUnit (id ∷ ids) u
both_units id ids (unit.Single target args scope origin name) p q = (p.0, q)
both_units id ids (unit.Chunk target args scope origin owner lo hi grain) p q = tt

both_messages : (id : TaskId) (ids : List TaskId) (x : Msg) → IsOtherIn (id ∷ []) x → IsOtherIn ids x → IsOtherIn (id ∷ ids) x
both_messages id ids (msg.Spawn u) p q = both_units id ids u p q
both_messages id ids (msg.StealGive u) p q = both_units id ids u p q
both_messages id ids _ p q = tt

pub callers_stand_alone : laws.CallersStandAlone
callers_stand_alone given w S core [] old f =
    let none = none_elsewhere given w (MessageFits given (bodies w) S) 0 0 old.messages in
    record { slots = λ one number task apart there. tt; units = record { private = none.private; public = none.public; messages = none.messages } }
callers_stand_alone given w S core (call ∷ calls) old f =
    let first : StandsAlone given w S core call.slot call.id = subst (StandsAlone given w S core call.slot) f.0.named (tasks_stand_alone given w S core call.slot f.0.task old f.0.there) in
    let more : StandAlone given w core calls = callers_stand_alone given w S core calls old f.1 in
    let ids : List TaskId = map (λ (x : WaitingCall). x.id) calls in
    record {
      slots = λ one number task apart there. ((first.slots one number task apart.0 there).0, more.slots one number task apart.1 there);
      units = record {
        private = λ c lc. Each-weaker (IsOtherUnit (call.id ∷ [])) (IsOtherUnit ids) (IsOtherUnit (call.id ∷ ids)) (both_units call.id ids) (bodies w c).work.private (first.units.private c lc) (more.units.private c lc);
        public = λ c lc. Each-weaker (IsOtherUnit (call.id ∷ [])) (IsOtherUnit ids) (IsOtherUnit (call.id ∷ ids)) (both_units call.id ids) (bodies w c).work.public (first.units.public c lc) (more.units.public c lc);
        messages = every_with messages_in (λ from to x. IsOtherIn (call.id ∷ []) x) (λ from to x. IsOtherIn ids x) (λ from to x. IsOtherIn (call.id ∷ ids) x) given.setup.cores w
            (λ from to x p q. both_messages call.id ids x p q) first.units.messages more.units.messages;
      };
    }
