-- The events that are inner to a core are core steps.
use Rattle.std.proofs.Common.{◌≡◌, ℕ, List, [], ◌∷◌, ◌++◌, ap, ◌∙◌, sym, refl, subst}
use Rattle.std.specs.Prelude.{Bool, true, Option, Some, None}
use Rattle.gr_machine.specs.declared.counts.Counts.{Counts}
use Rattle.gr_machine.specs.declared.event.Event.{Event}
use Rattle.gr_machine.specs.declared.event.Event.TheVariants as event
use Rattle.gr_machine.specs.States.{Letter}
use Rattle.gr_machine.specs.Enabled.{enabled}
use Rattle.gr_machine.specs.Closes.{closes}
use Rattle.gr_machine.specs.Outcomes.{Outcome}
use Rattle.gr_machine.specs.Serves.{serves, settles}
use Rattle.gr_machine.specs.Runs.{first_unit, run_slot, run_unit, without_ready, without_unit}
use Rattle.gr_machine.specs.Counting.{calls_next}
use Rattle.gr_machine.specs.Events.{Course, Transition, asks, gives, are_free, came_of, closed, happens, ran, served, slot_of, slots_needed, stolen}
use Rattle.gr_machine.specs.Steppers.{stamped}
use Rattle.gr_courses.specs.Courses.{gives_to, served_from, ran_from, without_letter}
use Rattle.gr_courses.specs.Seen.{Seen, after, does_to, done_by, ticked_to, with_body}
use Rattle.gr_courses.proofs.Courses.{served_is, ran_is, closed_is, stolen_is}
use Rattle.gr_courses.proofs.Doing.{does_clock}
use Rattle.gr_courses.proofs.Steps.{counted_is, step_is}
use Rattle.gr_serves.specs.Heaps.{KnowsHeap}
use Rattle.gr_core.specs.EntryWords.{noted, with_asks, with_calls, with_seen}
use Rattle.gr_core.specs.Runs.{Run, Made, received_with, sent_with, stepped}

-- A core whose clock has ticked.
abbrev going : Run → Seen
going run = ticked_to run.seen run.seen.core.clock

-- What is seen once an event has gone so.
abbrev once : Run → Event → Course → Seen
once run what course = record (after (going run) course) { counts = done_by run.seen what course }

-- An event but Take and Ship that goes so.
inner_made : (run : Run) (what : Event) (slots : List ℕ) (course : Course) (seen : Seen) (last : Run)
    → ((from : ℕ) → what ≡ event.Take from → ⊥)
    → enabled run.seen.machine run.seen.me run.seen.core what ≡ true
    → are_free run.seen.core.body (slots_needed run.seen.machine run.seen.core what) slots ≡ true
    → happens run.seen.machine run.seen.me (going run).core (slot_of slots) what ≡ came_of course
    → received_with run.received what None ≡ run.received → sent_with run.sent what None ≡ run.sent
    → course.core.clock ≡ (going run).core.clock
    → seen ≡ once run what course
    → last ≡ noted (with_seen run seen) what slots → Made run what last
inner_made run what slots course seen last other can free goes received sent clock is noted_so = record {
  slots = slots;
  taken = None;
  next = came_of course;
  step = step_is run.seen.machine run.seen.me run.seen.core what slots other can free ∙ ap (λ (next : Transition). Some next) goes;
  run = noted_so
      ∙ ap (λ (seen : Seen). noted (with_seen run seen) what slots) is
      ∙ ap (λ (now : ℕ). record (noted (with_seen run (record (once run what course) { marks = run.seen.marks ++ stamped now course.marks })) what slots) { received = run.received }) (sym clock)
      ∙ ap (λ (counts : Counts). record (stepped run what slots None (came_of course)) { seen = record (stepped run what slots None (came_of course)).seen { counts = counts }; received = run.received; sent = run.sent }) (sym (counted_is run.seen what course))
      ∙ ap (λ (lists : ℕ → List _). record (stepped run what slots None (came_of course)) { received = lists; sent = run.sent }) (sym received)
      ∙ ap (λ (lists : ℕ → List _). record (stepped run what slots None (came_of course)) { sent = lists }) (sym sent);
}

-- None of these takes a packet.
serve_is_no_take : (from : ℕ) → event.Serve ≡ event.Take from → ⊥
serve_is_no_take from e = cc

run_is_no_take : (from : ℕ) → event.Run ≡ event.Take from → ⊥
run_is_no_take from e = cc

close_is_no_take : (object from : ℕ) → event.Close object ≡ event.Take from → ⊥
close_is_no_take object from e = cc

steal_is_no_take : (victim from : ℕ) → event.Steal victim ≡ event.Take from → ⊥
steal_is_no_take victim from e = cc

-- The clock stays while a letter is served, and while a task acts.
served_keeps : (seen : Seen) (letters : List Letter) → (served_from seen letters).core.clock ≡ seen.core.clock
served_keeps seen [] = refl
served_keeps seen (letter ∷ letters) =
    let what : Option Outcome = serves seen.machine seen.me seen.core.body letter.from letter.message in
    let served : Seen = does_to (without_letter seen letters) what in
    does_clock served (settles served.machine served.core.body letter.message) ∙ does_clock (without_letter seen letters) what

ran_keeps : (seen : Seen) (slot : ℕ) (ready : List ℕ) → (ran_from seen slot ready).core.clock ≡ seen.core.clock
ran_keeps seen slot [] =
    does_clock (with_body seen (without_unit seen.core.body)) (run_unit seen.machine seen.me (without_unit seen.core.body) slot (first_unit seen.core.body))
ran_keeps seen slot (ready ∷ more) =
    does_clock (with_body seen (without_ready seen.core.body)) (run_slot seen.machine seen.me (without_ready seen.core.body) ready (seen.core.body.tasks.slots ready))

gives_keep : (seen : Seen) → (gives_to seen).core.clock ≡ seen.core.clock
gives_keep seen = does_clock seen (Some (gives seen.core.body))

clock_of : (one other : Seen) → one ≡ other → one.core.clock ≡ other.core.clock
clock_of one other = ap (λ (seen : Seen). seen.core.clock)

-- The heap is where it was.
pub heap_ticked : (run first : Run) → first ≡ with_seen run (going run) → KnowsHeap run.seen → KnowsHeap first.seen
heap_ticked run first ticks has = subst (λ (other : Run). KnowsHeap other.seen) (sym ticks) (record { is = has.is })

pub serve_made : (run first : Run) (seen : Seen) (last : Run)
    → enabled run.seen.machine run.seen.me run.seen.core event.Serve ≡ true
    → first ≡ with_seen run (going run)
    → seen ≡ gives_to (served_from first.seen first.seen.core.inbox)
    → last ≡ noted (with_seen first seen) event.Serve [] → Made run event.Serve last
serve_made run first seen last can ticks serves notes =
    let course : Course = served run.seen.machine run.seen.me (going run).core in
    let is : seen ≡ after (going run) course = serves ∙ ap (λ (other : Run). gives_to (served_from other.seen other.seen.core.inbox)) ticks ∙ sym (served_is (going run)) in
    inner_made run event.Serve [] course seen last serve_is_no_take can refl refl refl refl
    (clock_of (after (going run) course) (gives_to (served_from (going run) (going run).core.inbox)) (served_is (going run)) ∙ gives_keep (served_from (going run) (going run).core.inbox) ∙ served_keeps (going run) (going run).core.inbox)
    is
    (notes ∙ ap (λ (other : Run). noted (with_seen other seen) event.Serve []) ticks)

pub run_made : (run first middle : Run) (seen : Seen) (slots : List ℕ) (calls : Bool) (last : Run)
    → enabled run.seen.machine run.seen.me run.seen.core event.Run ≡ true
    → calls ≡ calls_next run.seen.core
    → first ≡ with_seen run (going run)
    → are_free first.seen.core.body (slots_needed first.seen.machine first.seen.core event.Run) slots ≡ true
    → seen ≡ gives_to (ran_from first.seen (slot_of slots) first.seen.core.body.tasks.ready)
    → middle ≡ with_calls (with_seen first seen) calls
    → last ≡ noted middle event.Run slots → Made run event.Run last
run_made run first middle seen slots calls last can calling ticks free runs counts notes =
    let course : Course = ran run.seen.machine run.seen.me (going run).core (slot_of slots) in
    let gone : seen ≡ after (going run) course =
    runs ∙ ap (λ (other : Run). gives_to (ran_from other.seen (slot_of slots) other.seen.core.body.tasks.ready)) ticks ∙ sym (ran_is (going run) (slot_of slots)) in
    let is : middle ≡ with_seen run (once run event.Run course) =
    counts
    ∙ ap (λ (other : Run). with_calls (with_seen other seen) calls) ticks
    ∙ ap (λ (other : Seen). with_calls (with_seen run other) calls) gone
    ∙ ap (λ (b : Bool). with_calls (with_seen run (after (going run) course)) b) calling in
    inner_made run event.Run slots course (once run event.Run course) last run_is_no_take can
    (subst (λ (other : Run). are_free other.seen.core.body (slots_needed other.seen.machine other.seen.core event.Run) slots ≡ true) ticks free)
    refl refl refl
    (clock_of (after (going run) course) (gives_to (ran_from (going run) (slot_of slots) (going run).core.body.tasks.ready)) (ran_is (going run) (slot_of slots)) ∙ gives_keep (ran_from (going run) (slot_of slots) (going run).core.body.tasks.ready) ∙ ran_keeps (going run) (slot_of slots) (going run).core.body.tasks.ready)
    refl
    (notes ∙ ap (λ (other : Run). noted other event.Run slots) is)

pub close_made : (run first : Run) (object : ℕ) (seen : Seen) (last : Run)
    → enabled run.seen.machine run.seen.me run.seen.core (event.Close object) ≡ true
    → first ≡ with_seen run (going run)
    → seen ≡ does_to first.seen (Some (closes first.seen.machine first.seen.core.body object))
    → last ≡ noted (with_seen first seen) (event.Close object) [] → Made run (event.Close object) last
close_made run first object seen last can ticks shuts notes =
    let course : Course = closed run.seen.machine run.seen.me (going run).core object in
    let is : seen ≡ after (going run) course =
    shuts ∙ ap (λ (other : Run). does_to other.seen (Some (closes other.seen.machine other.seen.core.body object))) ticks ∙ sym (closed_is (going run) object) in
    inner_made run (event.Close object) [] course seen last (close_is_no_take object) can refl refl refl refl
    (clock_of (after (going run) course) (does_to (going run) (Some (closes run.seen.machine (going run).core.body object))) (closed_is (going run) object) ∙ does_clock (going run) (Some (closes run.seen.machine (going run).core.body object)))
    is
    (notes ∙ ap (λ (other : Run). noted (with_seen other seen) (event.Close object) []) ticks)

pub steal_made : (run first middle : Run) (victim : ℕ) (seen : Seen) (last : Run)
    → enabled run.seen.machine run.seen.me run.seen.core (event.Steal victim) ≡ true
    → first ≡ with_seen run (going run)
    → seen ≡ does_to first.seen (Some (asks victim first.seen.core.body))
    → middle ≡ with_asks (with_seen first seen)
    → last ≡ noted middle (event.Steal victim) [] → Made run (event.Steal victim) last
steal_made run first middle victim seen last can ticks steals counts notes =
    let course : Course = stolen run.seen.me (going run).core victim in
    let gone : seen ≡ after (going run) course =
    steals ∙ ap (λ (other : Run). does_to other.seen (Some (asks victim other.seen.core.body))) ticks ∙ sym (stolen_is (going run) victim) in
    let is : middle ≡ with_seen run (once run (event.Steal victim) course) =
    counts ∙ ap (λ (other : Run). with_asks (with_seen other seen)) ticks ∙ ap (λ (other : Seen). with_asks (with_seen run other)) gone in
    inner_made run (event.Steal victim) [] course (once run (event.Steal victim) course) last (steal_is_no_take victim) can refl refl refl refl
    (clock_of (after (going run) course) (does_to (going run) (Some (asks victim (going run).core.body))) (stolen_is (going run) victim) ∙ does_clock (going run) (Some (asks victim (going run).core.body)))
    refl
    (notes ∙ ap (λ (other : Run). noted other (event.Steal victim) []) is)

-- The events that are inner to a core.
pub ruleset inner_events = (heap_ticked, serve_made, run_made, close_made, steal_made)
