-- The machine's clocks tick.
use Rattle.std.proofs.Common.{◌≡◌, ℕ, ◌+◌, ◌*◌, ◌≤◌, ◌<◌, ◌==◌, max, List, [], ◌∷◌, length, Some, refl, sym, ap, ◌∙◌, subst, arith}
use Rattle.std.specs.Prelude.{Bool, true, false, Option, None, if◌then◌else◌, not, ◌&&◌, nat_lt, is_none}
use Rattle.std.specs.Option.{option_and_then}
use Rattle.std.proofs.lemmas.Bool.Decides.{nat_tests}
use Rattle.gr_machine.specs.declared.event.Event.{Event}
use Rattle.gr_machine.specs.declared.event.Event.TheVariants as event
use Rattle.gr_machine.specs.declared.journal.Stamped.{Stamped}
use Rattle.gr_machine.specs.Machines.{Machine, is_core}
use Rattle.gr_machine.specs.States.{Letter, Core}
use Rattle.gr_machine.specs.Outcomes.{Send, Outcome, sent, sent_all, acted}
use Rattle.gr_machine.specs.Closes.{closes}
use Rattle.gr_machine.specs.Serves.{serves, settles}
use Rattle.gr_machine.specs.Runs.{run_slot, run_unit, without_ready, without_unit, first_unit}
use Rattle.gr_machine.specs.Enabled.{enabled, can, is_halted}
use Rattle.gr_machine.specs.Openings.{opening_core, unused}
use Rattle.gr_machine.specs.Events.{Packet, Transition, with_body, asks, gives, ran_first, served_first, happens, ticked, received, begun, came_of, are_free, slots_needed, slot_of, steps_to, core_step}
use Rattle.gr_machine.specs.Steppers.{CountedCore, Went, stepper, entry_step, went_on, at_clock, unused_core}
use Rattle.gr_machine.specs.GlobalRuns.{Step, World, global_run, opening_world}
use Rattle.gr_machine.proofs.Clocks.{some_same, some_then, entry_made}
use Rattle.gr_clocks.specs.Ticking.{IsTicking}
use Rattle.gr_clocks.specs.Laws as laws
use Rattle.gr_clocks.specs.Laws.{IsRun}
use Rattle.gr_clocks.proofs.Ticks.{clocks_count, steps_few}

-- No outcome changes the clock.

choice : (P : Core → Type 0) (b : Bool) (x y : Core) → P x → P y → P (if b then x else y)
choice P true x y p q = p
choice P false x y p q = q

all_clock : (me : ℕ) (core : Core) (sends : List Send) → (sent_all me core sends).clock ≡ core.clock
all_clock me core [] = refl
all_clock me core (send ∷ sends) = all_clock me (sent me core send) sends ∙ choice (λ (after : Core). after.clock ≡ core.clock) (send.to == me) _ _ refl refl

acted_clock : (me : ℕ) (core : Core) (outcome : Option Outcome) → (acted me core outcome).clock ≡ core.clock
acted_clock me core None = refl
acted_clock me core (Some outcome) = all_clock me (record core { body = outcome.body }) outcome.sends

served_clock : (machine : Machine) (me : ℕ) (core : Core) (letters : List Letter) → (served_first machine me core letters).core.clock ≡ core.clock
served_clock machine me core [] = refl
served_clock machine me core (letter ∷ letters) =
    let first : Core = acted me (record core { inbox = letters }) (serves machine me core.body letter.from letter.message) in
    acted_clock me first (settles machine first.body letter.message) ∙ acted_clock me (record core { inbox = letters }) (serves machine me core.body letter.from letter.message)

ran_clock : (machine : Machine) (me : ℕ) (core : Core) (slot : ℕ) (ready : List ℕ) → (ran_first machine me core slot ready).core.clock ≡ core.clock
ran_clock machine me core slot [] = acted_clock me (with_body core (without_unit core.body)) (run_unit machine me (without_unit core.body) slot (first_unit core.body))
ran_clock machine me core slot (ready ∷ more) =
    acted_clock me (with_body core (without_ready core.body)) (run_slot machine me (without_ready core.body) ready (core.body.tasks.slots ready))

happens_clock : (machine : Machine) (me : ℕ) (core : Core) (slot : ℕ) (what : Event) → (happens machine me core slot what).core.clock ≡ core.clock
happens_clock machine me core slot event.Serve =
    let first : Core = (served_first machine me core core.inbox).core in acted_clock me first (Some (gives first.body)) ∙ served_clock machine me core core.inbox
happens_clock machine me core slot event.Run =
    let first : Core = (ran_first machine me core slot core.body.tasks.ready).core in acted_clock me first (Some (gives first.body)) ∙ ran_clock machine me core slot core.body.tasks.ready
happens_clock machine me core slot (event.Close object) = acted_clock me core (Some (closes machine core.body object))
happens_clock machine me core slot (event.Steal victim) = acted_clock me core (Some (asks victim core.body))
happens_clock machine me core slot (event.Ship dest) = refl
happens_clock machine me core slot (event.Take from) = refl

-- What comes of an event, by its clock.

record Ticks (core : Core) (taken : Option Packet) (after : Transition) : Type 0 where
  alone : taken ≡ None → after.core.clock ≡ core.clock + 1
  taking : (packet : Packet) → taken ≡ Some packet → after.core.clock ≡ max core.clock packet.clock + 1
  shipping : (packet : Packet) → taken ≡ None → after.packet ≡ Some packet → packet.clock ≡ core.clock + 1

ships_clock : (machine : Machine) (me : ℕ) (core : Core) (slot : ℕ) (what : Event) (packet : Packet)
    → (happens machine me (ticked core core.clock) slot what).packet ≡ Some packet → packet.clock ≡ core.clock + 1
ships_clock machine me core slot (event.Ship dest) packet e = ap (λ (one : Packet). one.clock) (sym (some_same e))
ships_clock machine me core slot event.Serve packet e = absurd (cc)
ships_clock machine me core slot event.Run packet e = absurd (cc)
ships_clock machine me core slot (event.Take from) packet e = absurd (cc)
ships_clock machine me core slot (event.Close object) packet e = absurd (cc)
ships_clock machine me core slot (event.Steal victim) packet e = absurd (cc)

happened : (machine : Machine) (me : ℕ) (core : Core) (what : Event) (slots : List ℕ) (after : Transition)
    → (if are_free core.body (slots_needed machine core what) slots then Some (happens machine me (ticked core core.clock) (slot_of slots) what) else None) ≡ Some after
    → Ticks core None after
happened machine me core what slots after h =
    let made : Transition = happens machine me (ticked core core.clock) (slot_of slots) what in
    let is : made ≡ after = some_same (some_then (are_free core.body (slots_needed machine core what) slots) (Some made) after h) in
    subst (Ticks core None) is (record {
      alone = λ e. happens_clock machine me (ticked core core.clock) (slot_of slots) what;
      taking = λ packet e. absurd (cc);
      shipping = λ packet n e. ships_clock machine me core (slot_of slots) what packet e;
    })

step_ticks : (machine : Machine) (me : ℕ) (core : Core) (what : Event) (slots : List ℕ) (taken : Option Packet) (after : Transition)
    → steps_to machine me core what slots taken ≡ Some after → Ticks core taken after
step_ticks machine me core (event.Take from) [] None after h = absurd (cc)
step_ticks machine me core (event.Take from) [] (Some packet) after h = subst (Ticks core (Some packet)) (some_same h) (record {
  alone = λ e. absurd (cc);
  taking = λ other e. ap (λ (one : Packet). max core.clock one.clock + 1) (some_same e);
  shipping = λ other n e. absurd (cc);
})
step_ticks machine me core (event.Take from) (slot ∷ slots) taken after h = absurd (cc)
step_ticks machine me core event.Serve slots None after h = happened machine me core event.Serve slots after h
step_ticks machine me core event.Run slots None after h = happened machine me core event.Run slots after h
step_ticks machine me core (event.Ship dest) slots None after h = happened machine me core (event.Ship dest) slots after h
step_ticks machine me core (event.Close object) slots None after h = happened machine me core (event.Close object) slots after h
step_ticks machine me core (event.Steal victim) slots None after h = happened machine me core (event.Steal victim) slots after h
step_ticks machine me core event.Serve slots (Some packet) after h = absurd (cc)
step_ticks machine me core event.Run slots (Some packet) after h = absurd (cc)
step_ticks machine me core (event.Ship dest) slots (Some packet) after h = absurd (cc)
step_ticks machine me core (event.Close object) slots (Some packet) after h = absurd (cc)
step_ticks machine me core (event.Steal victim) slots (Some packet) after h = absurd (cc)

-- What an entry has found: its core is one that there is, and the event was enabled.

less : (a b : ℕ) → nat_lt a b ≡ true → a < b
less a b e = grind (arith, nat_tests, e)

holds : (b : Bool) (X : Type 0) (o : Option X) (x : X) → (if b then o else None) ≡ Some x → b ≡ true
holds true X o x h = refl
holds false X o x h = absurd (cc)

both_hold : (a b : Bool) → (a && b) ≡ true → (a ≡ true) × (b ≡ true)
both_hold true true e = (refl, refl)
both_hold true false e = absurd (cc)
both_hold false b e = absurd (cc)

found : (machine : Machine) (me : ℕ) (before : CountedCore) (entry : Stamped) (taken : Option Packet) (went : Went)
    → entry_step machine me before entry taken ≡ Some went → (me < machine.setup.cores) × (before.core.clock < machine.setup.events)
found machine me before entry taken went h =
    let c = entry_made machine me before entry taken went h in
    (less me machine.setup.cores (holds (is_core machine me) Went (option_and_then (at_clock machine before entry) (core_step machine me before.core entry.event entry.slots taken)) went h), of_step (core_step machine me before.core entry.event entry.slots taken) refl (some_then (is_core machine me) _ went h))
  where
    can_be : (after : Transition) → core_step machine me before.core entry.event entry.slots taken ≡ Some after → before.core.clock < machine.setup.events
    can_be after s =
        let e = holds (enabled machine me before.core entry.event) Transition (steps_to machine me before.core entry.event entry.slots taken) after s in
        less before.core.clock machine.setup.events (both_hold (not (is_halted before.core)) (nat_lt before.core.clock machine.setup.events) (both_hold (not (is_halted before.core) && nat_lt before.core.clock machine.setup.events) (can machine me before.core entry.event) e).0).1

    of_step : (step : Option Transition) → core_step machine me before.core entry.event entry.slots taken ≡ step
        → option_and_then (at_clock machine before entry) step ≡ Some went → before.core.clock < machine.setup.events
    of_step None s k = absurd (cc)
    of_step (Some after) s k = can_be after s

-- What an entry has made.
record Made (before : CountedCore) (taken : Option Packet) (went : Went) : Type 0 where
  alone : taken ≡ None → went.state.core.clock ≡ before.core.clock + 1
  taking : (packet : Packet) → taken ≡ Some packet → went.state.core.clock ≡ max before.core.clock packet.clock + 1
  shipping : (packet : Packet) → taken ≡ None → went.packet ≡ Some packet → packet.clock ≡ before.core.clock + 1

made : (machine : Machine) (me : ℕ) (before : CountedCore) (entry : Stamped) (taken : Option Packet) (went : Went)
    → entry_step machine me before entry taken ≡ Some went → Made before taken went
made machine me before entry taken went h =
    let c = entry_made machine me before entry taken went h in
    let t = step_ticks machine me before.core entry.event entry.slots taken c.after c.steps in
    subst (Made before taken) c.same (record { alone = t.alone; taking = t.taking; shipping = t.shipping })

pub ticking : (machine : Machine) → IsTicking (stepper machine) (λ counted. counted.core.clock) machine.setup.cores machine.setup.events
ticking machine = record {
  below = λ me before entry taken went h. found machine me before entry taken went h;
  alone = λ me before entry went h. (made machine me before entry None went h).alone refl;
  taking = λ me before entry packet went h. (made machine me before entry (Some packet) went h).taking packet refl;
  shipping = λ me before entry packet went h e. let m = made machine me before entry None went h in m.shipping packet refl e ∙ sym (m.alone refl);
}

starts_at_zero : (machine : Machine) (slot me : ℕ) → (opening_core machine slot me).clock ≡ 0
starts_at_zero machine slot me = choice (λ (core : Core). core.clock ≡ 0) (me == 0) _ _ refl refl

run_of : (machine : Machine) (slot : ℕ) (steps : List Step) (end : World) → global_run machine slot steps ≡ Some end
    → IsRun (stepper machine) (λ counted. counted.core.clock) machine.setup.cores machine.setup.events steps end
run_of machine slot steps end h = record { ticking = ticking machine; states = unused_core machine slot; start = starts_at_zero machine slot; run = h }

pub clocks_low : laws.ClocksAreLow
clocks_low machine slot steps end h core = clocks_count (stepper machine) (λ counted. counted.core.clock) machine.setup.cores machine.setup.events steps end (run_of machine slot steps end h) core

pub runs_short : laws.RunsAreShort
runs_short machine slot steps end h = steps_few (stepper machine) (λ counted. counted.core.clock) machine.setup.cores machine.setup.events steps end (run_of machine slot steps end h)
