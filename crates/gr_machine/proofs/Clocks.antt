-- The machine's stepper is clocked.
use Rattle.std.proofs.Common.{◌≡◌, ℕ, ◌+◌, ◌<◌, ◌==◌, max, All, List, [], ◌∷◌, refl, sym, ap, ◌∙◌, subst, arith, eqb-true}
use Rattle.std.specs.Prelude.{Bool, true, false, Option, Some, None, if◌then◌else◌}
use Rattle.std.specs.Option.{option_and_then}
use Rattle.std.proofs.lemmas.List.Elements.{All-nil, All-cons}
use Rattle.gr_merge.specs.Machines.{takes, ships}
use Rattle.gr_machine.specs.declared.event.Event.{Event}
use Rattle.gr_machine.specs.declared.event.Event.TheVariants as event
use Rattle.gr_machine.specs.declared.mark.Mark.{Mark}
use Rattle.gr_machine.specs.declared.journal.Stamped.{Stamped}
use Rattle.gr_machine.specs.declared.journal.StampedMark.{StampedMark}
use Rattle.gr_machine.specs.Machines.{Machine, is_core}
use Rattle.gr_machine.specs.States.{Letter, Core}
use Rattle.gr_machine.specs.Outcomes.{Send, Outcome, sent, sent_all, acted}
use Rattle.gr_machine.specs.Closes.{closes}
use Rattle.gr_machine.specs.Serves.{serves, settles}
use Rattle.gr_machine.specs.Runs.{run_slot, run_unit, without_ready, without_unit, first_unit}
use Rattle.gr_machine.specs.Enabled.{enabled}
use Rattle.gr_machine.specs.Events.{Packet, Transition, begun, came_of, with_body, asks, gives, ran_first, served_first, happens, received, ticked, are_free, slots_needed, slot_of, steps_to, core_step}
use Rattle.gr_machine.specs.Steppers.{CountedCore, Went, kind_of, stamped, went_on, at_clock, entry_step}
use Rattle.gr_machine.specs.Laws as laws
use Rattle.gr_machine.proofs.ActionFacts.{choice}

-- No outcome changes the clock.

sent_clock : (me : ℕ) (core : Core) (send : Send) → (sent me core send).clock ≡ core.clock
sent_clock me core send = choice (λ (after : Core). after.clock ≡ core.clock) (send.to == me) _ _ refl refl

all_clock : (me : ℕ) (core : Core) (sends : List Send) → (sent_all me core sends).clock ≡ core.clock
all_clock me core [] = refl
all_clock me core (send ∷ sends) = all_clock me (sent me core send) sends ∙ sent_clock me core send

acted_clock : (me : ℕ) (core : Core) (outcome : Option Outcome) → (acted me core outcome).clock ≡ core.clock
acted_clock me core None = refl
acted_clock me core (Some outcome) = all_clock me (record core { body = outcome.body }) outcome.sends

served_clock : (machine : Machine) (me : ℕ) (core : Core) (letters : List Letter) → (served_first machine me core letters).core.clock ≡ core.clock
served_clock machine me core [] = refl
served_clock machine me core (letter ∷ letters) =
    let first : Core = acted me (record core { inbox = letters }) (serves machine me core.body letter.from letter.message) in
    acted_clock me first (settles machine first.body letter.message)
    ∙ acted_clock me (record core { inbox = letters }) (serves machine me core.body letter.from letter.message)

ran_clock : (machine : Machine) (me : ℕ) (core : Core) (slot : ℕ) (ready : List ℕ) → (ran_first machine me core slot ready).core.clock ≡ core.clock
ran_clock machine me core slot [] = acted_clock me (with_body core (without_unit core.body)) (run_unit machine me (without_unit core.body) slot (first_unit core.body))
ran_clock machine me core slot (ready ∷ more) =
    acted_clock me (with_body core (without_ready core.body)) (run_slot machine me (without_ready core.body) ready (core.body.tasks.slots ready))

happens_clock : (machine : Machine) (me : ℕ) (core : Core) (slot : ℕ) (what : Event) → (happens machine me core slot what).core.clock ≡ core.clock
happens_clock machine me core slot event.Serve =
    let first : Core = (served_first machine me core core.inbox).core in acted_clock me first (Some (gives first.body)) ∙ served_clock machine me core core.inbox
happens_clock machine me core slot event.Run =
    let first : Core = (ran_first machine me core slot core.body.tasks.ready).core in
    acted_clock me first (Some (gives first.body)) ∙ ran_clock machine me core slot core.body.tasks.ready
happens_clock machine me core slot (event.Close object) = acted_clock me core (Some (closes machine core.body object))
happens_clock machine me core slot (event.Steal victim) = acted_clock me core (Some (asks victim core.body))
happens_clock machine me core slot (event.Ship dest) = refl
happens_clock machine me core slot (event.Take from) = refl

-- What an entry has made.

pub some_same : {X : Type 0} {one other : X} → Some one ≡ Some other → one ≡ other
some_same e = cc

pub some_then : {X : Type 0} (b : Bool) (o : Option X) (x : X) → (if b then o else None) ≡ Some x → o ≡ Some x
some_then true o x h = h
some_then false o x h = absurd (cc)

-- An event that could be made, at the clock of its entry.
pub record Made (machine : Machine) (me : ℕ) (before : CountedCore) (entry : Stamped) (taken : Option Packet) (went : Went) : Type 0 where
  pub after : Transition
  pub steps : steps_to machine me before.core entry.event entry.slots taken ≡ Some after
  pub clock : after.core.clock ≡ entry.clock
  pub same : went_on machine before entry.event after ≡ went

pub entry_made : (machine : Machine) (me : ℕ) (before : CountedCore) (entry : Stamped) (taken : Option Packet) (went : Went)
    → entry_step machine me before entry taken ≡ Some went → Made machine me before entry taken went
entry_made machine me before entry taken went h = of_step (core_step machine me before.core entry.event entry.slots taken) refl
    (some_then (is_core machine me) (option_and_then (at_clock machine before entry) (core_step machine me before.core entry.event entry.slots taken)) went h)
  where
    of_clock : (after : Transition) (b : Bool) → (after.core.clock == entry.clock) ≡ b → core_step machine me before.core entry.event entry.slots taken ≡ Some after
        → (if b then Some (went_on machine before entry.event after) else None) ≡ Some went → Made machine me before entry taken went
    of_clock after true e s k = record {
      after = after;
      steps = some_then (enabled machine me before.core entry.event) (steps_to machine me before.core entry.event entry.slots taken) after s;
      clock = eqb-true after.core.clock entry.clock e;
      same = some_same k;
    }
    of_clock after false e s k = absurd (cc)

    of_step : (found : Option Transition) → core_step machine me before.core entry.event entry.slots taken ≡ found
        → option_and_then (at_clock machine before entry) found ≡ Some went → Made machine me before entry taken went
    of_step None s k = absurd (cc)
    of_step (Some after) s k = of_clock after (after.core.clock == entry.clock) refl s k

-- Clocks

-- What each event has at its end.
record Ticks (core : Core) (what : Event) (taken : Option Packet) (after : Transition) : Type 0 where
  later : core.clock < after.core.clock
  when_taken : (origin : ℕ) (packet : Packet) → kind_of what ≡ takes origin → taken ≡ Some packet → packet.clock < after.core.clock
  when_shipped : (dest : ℕ) (packet : Packet) → kind_of what ≡ ships dest → after.packet ≡ Some packet → packet.clock ≡ after.core.clock

takes_tick : (core : Core) (from : ℕ) (packet : Packet) → Ticks core (event.Take from) (Some packet)
    (came_of (begun (received (ticked core (max core.clock packet.clock)) from packet.messages)))
takes_tick core from packet = record {
  later = omega arith;
  when_taken = λ origin other k e. (let same : packet ≡ other = cc in subst (λ (p : Packet). p.clock < max core.clock packet.clock + 1) same (omega arith));
  when_shipped = λ dest other k e. absurd (cc);
}

-- No other event takes a packet, and a Ship ships one with the core's clock.
happen_ticks : (machine : Machine) (me : ℕ) (core : Core) (slot : ℕ) (what : Event)
    → ((dest : ℕ) (packet : Packet) → kind_of what ≡ ships dest → (happens machine me (ticked core core.clock) slot what).packet ≡ Some packet → packet.clock ≡ core.clock + 1)
    → Ticks core what None (happens machine me (ticked core core.clock) slot what)
happen_ticks machine me core slot what shipping =
    let clock = happens_clock machine me (ticked core core.clock) slot what in
    record {
      later = subst (λ n. core.clock < n) (sym clock) (omega arith);
      when_taken = λ origin packet k e. absurd (cc);
      when_shipped = λ dest packet k e. shipping dest packet k e ∙ sym clock;
    }

ships_clock : (machine : Machine) (me : ℕ) (core : Core) (slot : ℕ) (what : Event) (dest : ℕ) (packet : Packet) → kind_of what ≡ ships dest
    → (happens machine me (ticked core core.clock) slot what).packet ≡ Some packet → packet.clock ≡ core.clock + 1
ships_clock machine me core slot (event.Ship other) dest packet k e = ap (λ (one : Packet). one.clock) (sym (some_same e))
ships_clock machine me core slot event.Serve dest packet k e = absurd (cc)
ships_clock machine me core slot event.Run dest packet k e = absurd (cc)
ships_clock machine me core slot (event.Take from) dest packet k e = absurd (cc)
ships_clock machine me core slot (event.Close object) dest packet k e = absurd (cc)
ships_clock machine me core slot (event.Steal victim) dest packet k e = absurd (cc)

happened : (machine : Machine) (me : ℕ) (core : Core) (what : Event) (slots : List ℕ) (after : Transition)
    → (if are_free core.body (slots_needed machine core what) slots then Some (happens machine me (ticked core core.clock) (slot_of slots) what) else None) ≡ Some after
    → Ticks core what None after
happened machine me core what slots after h =
    let made : Transition = happens machine me (ticked core core.clock) (slot_of slots) what in
    subst (Ticks core what None) (some_same (some_then (are_free core.body (slots_needed machine core what) slots) (Some made) after h))
    (happen_ticks machine me core (slot_of slots) what (ships_clock machine me core (slot_of slots) what))

step_ticks : (machine : Machine) (me : ℕ) (core : Core) (what : Event) (slots : List ℕ) (taken : Option Packet) (after : Transition)
    → steps_to machine me core what slots taken ≡ Some after → Ticks core what taken after
step_ticks machine me core (event.Take from) [] None after h = absurd (cc)
step_ticks machine me core (event.Take from) [] (Some packet) after h = subst (Ticks core (event.Take from) (Some packet)) (some_same h) (takes_tick core from packet)
step_ticks machine me core (event.Take from) (slot ∷ slots) taken after h = absurd (cc)
step_ticks machine me core event.Serve slots None after h = happened machine me core event.Serve slots after h
step_ticks machine me core event.Run slots None after h = happened machine me core event.Run slots after h
step_ticks machine me core (event.Ship dest) slots None after h = happened machine me core (event.Ship dest) slots after h
step_ticks machine me core (event.Close object) slots None after h = happened machine me core (event.Close object) slots after h
step_ticks machine me core (event.Steal victim) slots None after h = happened machine me core (event.Steal victim) slots after h
step_ticks machine me core event.Serve slots (Some packet) after h = absurd (cc)
step_ticks machine me core event.Run slots (Some packet) after h = absurd (cc)
step_ticks machine me core (event.Ship dest) slots (Some packet) after h = absurd (cc)
step_ticks machine me core (event.Close object) slots (Some packet) after h = absurd (cc)
step_ticks machine me core (event.Steal victim) slots (Some packet) after h = absurd (cc)

stamps : (clock : ℕ) (marks : List Mark) → All (λ (mark : StampedMark). mark.clock ≡ clock) (stamped clock marks)
stamps clock [] = All-nil (λ (mark : StampedMark). mark.clock ≡ clock)
stamps clock (first ∷ marks) =
    All-cons (λ (mark : StampedMark). mark.clock ≡ clock) (record { clock = clock; mark = first }) (stamped clock marks) refl (stamps clock marks)

-- What each entry has made, by its clock.
record Stepped (machine : Machine) (before : CountedCore) (entry : Stamped) (taken : Option Packet) (went : Went) : Type 0 where
  later : before.core.clock < entry.clock
  clock : went.state.core.clock ≡ entry.clock
  when_taken : (origin : ℕ) (packet : Packet) → kind_of entry.event ≡ takes origin → taken ≡ Some packet → packet.clock < entry.clock
  when_shipped : (dest : ℕ) (packet : Packet) → kind_of entry.event ≡ ships dest → went.packet ≡ Some packet → packet.clock ≡ entry.clock
  marks : All (λ (mark : StampedMark). mark.clock ≡ entry.clock) went.marks

stepped : (machine : Machine) (me : ℕ) (before : CountedCore) (entry : Stamped) (taken : Option Packet) (went : Went)
    → entry_step machine me before entry taken ≡ Some went → Stepped machine before entry taken went
stepped machine me before entry taken went h =
    let c = entry_made machine me before entry taken went h in
    let t = step_ticks machine me before.core entry.event entry.slots taken c.after c.steps in
    subst (Stepped machine before entry taken) c.same (record {
      later = subst (λ n. before.core.clock < n) c.clock t.later;
      clock = c.clock;
      when_taken = λ origin packet k e. subst (λ n. packet.clock < n) c.clock (t.when_taken origin packet k e);
      when_shipped = λ dest packet k e. t.when_shipped dest packet k e ∙ c.clock;
      marks = subst (λ n. All (λ (mark : StampedMark). mark.clock ≡ n) (stamped c.after.core.clock c.after.marks)) c.clock (stamps c.after.core.clock c.after.marks);
    })

pub entries_tick : laws.EntriesTick
entries_tick machine = record {
  ticks = λ me before entry taken went h. let s = stepped machine me before entry taken went h in (s.later, s.clock);
  takes_before = λ me before entry origin packet went k h. (stepped machine me before entry (Some packet) went h).when_taken origin packet k refl;
  ships_then = λ me before entry dest packet went k h e. (stepped machine me before entry None went h).when_shipped dest packet k e;
  marks_then = λ me before entry taken went h. (stepped machine me before entry taken went h).marks;
}
