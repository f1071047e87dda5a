-- A run goes on by each core step.
use Rattle.std.proofs.Common.{◌≡◌, ℕ, List, [], ◌∷◌, ap, sym, refl, subst}
use Rattle.std.specs.Prelude.{Bool, true, false, Option, Some, None, if◌then◌else◌, max}
use Rattle.gr_merge.proofs.Joins.{inner_goes_on, take_goes_on, ship_goes_on}
use Rattle.gr_machine.specs.declared.event.Event.{Event}
use Rattle.gr_machine.specs.declared.event.Event.TheVariants as event
use Rattle.gr_machine.specs.declared.journal.Stamped.{Stamped}
use Rattle.gr_machine.specs.Machines.{Machine}
use Rattle.gr_machine.specs.States.{Core}
use Rattle.gr_machine.specs.Enabled.{enabled}
use Rattle.gr_machine.specs.Events.{Packet, Transition, are_free, begun, came_of, core_step, happens, packet_to, received, slot_of, slots_needed, steps_to, ticked}
use Rattle.gr_machine.specs.Steppers.{CountedCore, stepper, unused_core, went_on}
use Rattle.gr_courses.proofs.Steps.{inner_entry, ship_entry, take_entry}
use Rattle.gr_machine.specs.LocalRuns.{IsLocalRun}
use Rattle.gr_serves.specs.Heaps.{KnowsHeap}
use Rattle.gr_core.specs.Runs.{IsRun, Made, MadeOr, Run, end_of, stepped}

-- The entry of an event of which this came, and a core with what it has done.
abbrev entry_of : Event → List ℕ → Transition → Stamped
entry_of what slots next = record { clock = next.core.clock; event = what; slots = slots }

abbrev counted_core : Run → CountedCore
counted_core run = record { core = run.seen.core; counts = run.seen.counts }

-- What a step gives where its event is enabled.
step_of : (can : Bool) (steps : Option Transition) (next : Transition) → (if can then steps else None) ≡ Some next → steps ≡ Some next
step_of true steps next step = step
step_of false steps next step = absurd (cc)

some_of : (one next : Transition) → Some one ≡ Some next → one ≡ next
some_of one next e = cc

-- What an event but a Take gives where its slots are free.
happened : (free : Bool) (one next : Transition) → (if free then Some one else None) ≡ Some next → one ≡ next
happened true one next e = some_of one next e
happened false one next e = absurd (cc)

-- The run goes on by this event.
abbrev Goes : Run → Event → List ℕ → Option Packet → Transition → Type 0
Goes run what slots taken next =
    core_step run.seen.machine run.seen.me run.seen.core what slots taken ≡ Some next → IsRun (stepped run what slots taken next)

-- Nothing is no step.
no_step : (can : Bool) (next : Transition) → (if can then None else None) ≡ Some next → ⊥
no_step true next e = cc
no_step false next e = cc

module _ (run : Run) (is : IsRun run) (slots : List ℕ) where
  abbrev core_of : Core
  core_of = run.seen.core

  abbrev machine_of : Machine
  machine_of = run.seen.machine

  serve_goes : (next : Transition) → next.packet ≡ None → Goes run event.Serve slots None next
  serve_goes next none step = record {
    core = is.core;
    runs = inner_goes_on (stepper machine_of) run.seen.me (unused_core machine_of run.first run.seen.me) (counted_core run) run.received run.sent run.journal run.seen.marks
        (entry_of event.Serve slots next) (went_on machine_of (counted_core run) event.Serve next) is.runs refl
        (inner_entry machine_of run.seen.me (counted_core run) (entry_of event.Serve slots next) next is.core step refl none);
  }

  run_goes : (next : Transition) → next.packet ≡ None → Goes run event.Run slots None next
  run_goes next none step = record {
    core = is.core;
    runs = inner_goes_on (stepper machine_of) run.seen.me (unused_core machine_of run.first run.seen.me) (counted_core run) run.received run.sent run.journal run.seen.marks
        (entry_of event.Run slots next) (went_on machine_of (counted_core run) event.Run next) is.runs refl
        (inner_entry machine_of run.seen.me (counted_core run) (entry_of event.Run slots next) next is.core step refl none);
  }

  close_goes : (object : ℕ) (next : Transition) → next.packet ≡ None → Goes run (event.Close object) slots None next
  close_goes object next none step = record {
    core = is.core;
    runs = inner_goes_on (stepper machine_of) run.seen.me (unused_core machine_of run.first run.seen.me) (counted_core run) run.received run.sent run.journal run.seen.marks
        (entry_of (event.Close object) slots next) (went_on machine_of (counted_core run) (event.Close object) next) is.runs refl
        (inner_entry machine_of run.seen.me (counted_core run) (entry_of (event.Close object) slots next) next is.core step refl none);
  }

  steal_goes : (victim : ℕ) (next : Transition) → next.packet ≡ None → Goes run (event.Steal victim) slots None next
  steal_goes victim next none step = record {
    core = is.core;
    runs = inner_goes_on (stepper machine_of) run.seen.me (unused_core machine_of run.first run.seen.me) (counted_core run) run.received run.sent run.journal run.seen.marks
        (entry_of (event.Steal victim) slots next) (went_on machine_of (counted_core run) (event.Steal victim) next) is.runs refl
        (inner_entry machine_of run.seen.me (counted_core run) (entry_of (event.Steal victim) slots next) next is.core step refl none);
  }

  take_goes : (from : ℕ) (packet : Packet) (next : Transition) → next.packet ≡ None → Goes run (event.Take from) slots (Some packet) next
  take_goes from packet next none step = record {
    core = is.core;
    runs = take_goes_on (stepper machine_of) run.seen.me (unused_core machine_of run.first run.seen.me) (counted_core run) run.received run.sent run.journal run.seen.marks
        (entry_of (event.Take from) slots next) from packet (went_on machine_of (counted_core run) (event.Take from) next) is.runs refl
        (take_entry machine_of run.seen.me (counted_core run) (entry_of (event.Take from) slots next) packet next is.core step refl none);
  }

  -- A packet that was shipped is the last of those to its core.
  ship_goes : (dest : ℕ) (packet : Packet) (next : Transition) → next.packet ≡ Some packet → Goes run (event.Ship dest) slots None next
  ship_goes dest packet next some step =
      subst (λ (sent : Option Packet). IsRun (record (stepped run (event.Ship dest) slots None (record next { packet = sent })) { seen = (stepped run (event.Ship dest) slots None next).seen })) (sym some) (record {
        core = is.core;
        runs = ship_goes_on (stepper machine_of) run.seen.me (unused_core machine_of run.first run.seen.me) (counted_core run) run.received run.sent run.journal run.seen.marks
            (entry_of (event.Ship dest) slots next) dest packet (went_on machine_of (counted_core run) (event.Ship dest) next) is.runs refl
            (ship_entry machine_of run.seen.me (counted_core run) (entry_of (event.Ship dest) slots next) packet next is.core step refl some);
      })

  packet_of : (one next : Transition) → one ≡ next → next.packet ≡ one.packet
  packet_of one next e = ap (λ (other : Transition). other.packet) (sym e)

  -- What an event but a Take makes, at a core whose clock has ticked.
  abbrev now : Core
  now = ticked core_of core_of.clock

  abbrev is_enabled : Event → Bool
  is_enabled what = enabled machine_of run.seen.me core_of what

  abbrev is_free : Event → Bool
  is_free what = are_free core_of.body (slots_needed machine_of core_of what) slots

  goes_without : (what : Event) (next : Transition) → Goes run what slots None next
  goes_without event.Serve next step =
      serve_goes next (packet_of (happens machine_of run.seen.me now (slot_of slots) event.Serve) next (happened (is_free event.Serve) _ next (step_of (is_enabled event.Serve) _ next step))) step
  goes_without event.Run next step =
      run_goes next (packet_of (happens machine_of run.seen.me now (slot_of slots) event.Run) next (happened (is_free event.Run) _ next (step_of (is_enabled event.Run) _ next step))) step
  goes_without (event.Close object) next step =
      close_goes object next (packet_of (happens machine_of run.seen.me now (slot_of slots) (event.Close object)) next (happened (is_free (event.Close object)) _ next (step_of (is_enabled (event.Close object)) _ next step))) step
  goes_without (event.Steal victim) next step =
      steal_goes victim next (packet_of (happens machine_of run.seen.me now (slot_of slots) (event.Steal victim)) next (happened (is_free (event.Steal victim)) _ next (step_of (is_enabled (event.Steal victim)) _ next step))) step
  goes_without (event.Ship dest) next step =
      ship_goes dest (packet_to machine_of now dest) next (packet_of (happens machine_of run.seen.me now (slot_of slots) (event.Ship dest)) next (happened (is_free (event.Ship dest)) _ next (step_of (is_enabled (event.Ship dest)) _ next step))) step
  goes_without (event.Take from) next step = absurd (none_without slots next (step_of (is_enabled (event.Take from)) _ next step))
    where
      none_without : (slots : List ℕ) (next : Transition) → steps_to machine_of run.seen.me core_of (event.Take from) slots None ≡ Some next → ⊥
      none_without [] next e = cc
      none_without (slot ∷ more) next e = cc

-- A Take with its packet.
goes_with : (run : Run) (is : IsRun run) (slots : List ℕ) (what : Event) (packet : Packet) (next : Transition) → Goes run what slots (Some packet) next
goes_with run is [] (event.Take from) packet next step =
    take_goes run is [] from packet next
    (packet_of run is [] (came_of (begun (received (ticked run.seen.core (max run.seen.core.clock packet.clock)) from packet.messages))) next
    (some_of (came_of (begun (received (ticked run.seen.core (max run.seen.core.clock packet.clock)) from packet.messages))) next (step_of (enabled run.seen.machine run.seen.me run.seen.core (event.Take from)) (steps_to run.seen.machine run.seen.me run.seen.core (event.Take from) [] (Some packet)) next step))) step
goes_with run is (slot ∷ more) (event.Take from) packet next step = absurd (none_so (step_of (enabled run.seen.machine run.seen.me run.seen.core (event.Take from)) None next step))
  where
    none_so : None ≡ Some next → ⊥
    none_so e = cc
goes_with run is slots event.Serve packet next step = absurd (no_step (enabled run.seen.machine run.seen.me run.seen.core event.Serve) next step)
goes_with run is slots event.Run packet next step = absurd (no_step (enabled run.seen.machine run.seen.me run.seen.core event.Run) next step)
goes_with run is slots (event.Close object) packet next step = absurd (no_step (enabled run.seen.machine run.seen.me run.seen.core (event.Close object)) next step)
goes_with run is slots (event.Steal victim) packet next step = absurd (no_step (enabled run.seen.machine run.seen.me run.seen.core (event.Steal victim)) next step)
goes_with run is slots (event.Ship dest) packet next step = absurd (no_step (enabled run.seen.machine run.seen.me run.seen.core (event.Ship dest)) next step)

goes : (run : Run) (is : IsRun run) (what : Event) (slots : List ℕ) (taken : Option Packet) (next : Transition) → Goes run what slots taken next
goes run is what slots None next step = goes_without run is slots what next step
goes run is what slots (Some packet) next step = goes_with run is slots what packet next step

-- A run in which an event more was made is one.
pub made_runs : (run last : Run) (what : Event) → IsRun run → Made run what last → IsRun last
made_runs run last what is made = subst IsRun (sym made.run) (goes run is what made.slots made.taken made.next made.step)

-- So is one in which it was made or not; and where the heap is, is known.
pub made_or_runs : (run last : Run) (what : Event) (done : Bool) → IsRun run → MadeOr run what last done → IsRun last
made_or_runs run last what true is made = made_runs run last what is made
made_or_runs run last what false is same = subst IsRun (sym same) is

pub made_or_knows : (run last : Run) (what : Event) (done : Bool) → KnowsHeap run.seen → MadeOr run what last done → KnowsHeap last.seen
made_or_knows run last what true knows made = subst (λ (other : Run). KnowsHeap other.seen) (sym made.run) (record { is = knows.is })
made_or_knows run last what false knows same = subst (λ (other : Run). KnowsHeap other.seen) (sym same) knows

-- The end of a run is one of a local run.
pub ends_local : (run : Run) (core : ℕ) (received sent : ℕ → List Packet) → IsRun run → core ≡ run.seen.me → received ≡ run.received → sent ≡ run.sent
    → IsLocalRun run.seen.machine (record (end_of run) { core = core; received = received; sent = sent })
ends_local run core received sent is same same_received same_sent =
    subst (λ (number : ℕ). IsLocalRun run.seen.machine (record (end_of run) { core = number; received = received; sent = sent })) (sym same)
    (subst (λ (lists : ℕ → List Packet). IsLocalRun run.seen.machine (record (end_of run) { received = lists; sent = sent })) (sym same_received)
    (subst (λ (lists : ℕ → List Packet). IsLocalRun run.seen.machine (record (end_of run) { sent = lists })) (sym same_sent)
    (record { last = run.seen.core; clock = refl; run = is.runs })))
