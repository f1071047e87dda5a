-- The laws of events outcome by outcome, and of their entries in the journal.
use Rattle.std.specs.Prelude.{◌≡◌, ℕ, List, [], ◌∷◌, Some, None, true}
use Rattle.gr_msg.specs.declared.message.Msg.{Msg}
use Rattle.gr_msg.specs.declared.message.Unit.{Unit as WorkUnit}
use Rattle.gr_batch.specs.declared.combiner.Batch.{Batch}
use Rattle.gr_merge.specs.Machines.{inner_step, take_step, ship_step}
use Rattle.gr_machine.specs.declared.event.Event.{Event}
use Rattle.gr_machine.specs.declared.journal.Stamped.{Stamped}
use Rattle.gr_machine.specs.declared.mark.Mark.{Mark}
use Rattle.gr_machine.specs.Machines.{Machine, is_core}
use Rattle.gr_machine.specs.States.{Body}
use Rattle.gr_machine.specs.Outcomes.{Send, Outcome, followed, quietly}
use Rattle.gr_machine.specs.Closes.{batches_sent, closes}
use Rattle.gr_machine.specs.ScopeServes.{planted_all}
use Rattle.gr_machine.specs.Serves.{settles}
use Rattle.gr_machine.specs.Counting.{counted}
use Rattle.gr_machine.specs.Events.{Packet, Course, Transition, asks, served, ran, closed, stolen, came_of, core_step}
use Rattle.gr_machine.specs.Steppers.{CountedCore, went_on, stepper}
use Rattle.gr_courses.specs.Seen.{Seen, does_to, with_body, with_send, sends_to, marks_to, after, done_by}
use Rattle.gr_courses.specs.Folds.{batches_from, planted_from, gift_to}
use Rattle.gr_courses.specs.Courses.{settling, settled_by, gives_to, served_from, ran_from}

-- Outcomes

-- Nothing happens, or the body alone is new.
abbrev pub NothingHappens : Type 0
NothingHappens = (seen : Seen) → does_to seen None ≡ seen

abbrev pub BodiesAreNew : Type 0
BodiesAreNew = (seen : Seen) (body : Body) → does_to seen (Some (quietly body)) ≡ with_body seen body

-- One outcome, and then another one.
abbrev pub OutcomesFollow : Type 0
OutcomesFollow = (seen : Seen) (first second : Outcome) → does_to seen (Some (followed first second)) ≡ does_to (does_to seen (Some first)) (Some second)

-- Messages one by one; and marks one by one, and then a message.
abbrev pub MessagesGoOneByOne : Type 0
MessagesGoOneByOne =
    (seen : Seen) (body : Body) (sends : List Send) → does_to seen (Some (record { body = body; sends = sends; marks = [] })) ≡ sends_to (with_body seen body) sends

abbrev pub MarksAreLeftOneByOne : Type 0
MarksAreLeftOneByOne =
    (seen : Seen) (body : Body) (send : Send) (marks : List Mark)
    → does_to seen (Some (record { body = body; sends = send ∷ []; marks = marks })) ≡ with_send (marks_to (with_body seen body) marks) send

-- Batches go off one by one, and tasks make their units one by one.
abbrev pub BatchesGoOneByOne : Type 0
BatchesGoOneByOne =
    (seen : Seen) (object : ℕ) (outcome : Outcome) (batches : List Batch)
    → does_to seen (Some (batches_sent seen.machine object outcome batches)) ≡ batches_from object (does_to seen (Some outcome)) batches

abbrev pub UnitsAreMadeOneByOne : Type 0
UnitsAreMadeOneByOne =
    (seen : Seen) (outcome : Outcome) (slots : List ℕ)
    → does_to seen (Some (planted_all seen.machine seen.me outcome slots)) ≡ planted_from (does_to seen (Some outcome)) slots

-- Units are given one by one, while a core waits and a unit is there.
abbrev pub GiftsGoOneByOne : Type 0
GiftsGoOneByOne =
    (seen : Seen) (core : ℕ) (cores : List ℕ) (unit : WorkUnit) (units : List WorkUnit)
    → seen.core.body.steals.waiting ≡ core ∷ cores → seen.core.body.work.public ≡ unit ∷ units
    → gives_to seen ≡ gives_to (gift_to seen core cores unit units)

abbrev pub NobodyWaits : Type 0
NobodyWaits = (seen : Seen) → seen.core.body.steals.waiting ≡ [] → gives_to seen ≡ seen

abbrev pub NothingIsGiven : Type 0
NothingIsGiven = (seen : Seen) → seen.core.body.work.public ≡ [] → gives_to seen ≡ seen

-- Events

-- A turn may be finished after a Grant and an ElemAck alone.
abbrev pub SettlesByMessage : Type 0
SettlesByMessage = (machine : Machine) (body : Body) (message : Msg) → settles machine body message ≡ settled_by machine body (settling message)

-- Each event is these outcomes one after another.
abbrev pub ServesGoSo : Type 0
ServesGoSo = (seen : Seen) → after seen (served seen.machine seen.me seen.core) ≡ gives_to (served_from seen seen.core.inbox)

abbrev pub RunsGoSo : Type 0
RunsGoSo = (seen : Seen) (slot : ℕ) → after seen (ran seen.machine seen.me seen.core slot) ≡ gives_to (ran_from seen slot seen.core.body.tasks.ready)

abbrev pub ClosesGoSo : Type 0
ClosesGoSo = (seen : Seen) (object : ℕ) → after seen (closed seen.machine seen.me seen.core object) ≡ does_to seen (Some (closes seen.machine seen.core.body object))

abbrev pub StealsGoSo : Type 0
StealsGoSo = (seen : Seen) (victim : ℕ) → after seen (stolen seen.me seen.core victim) ≡ does_to seen (Some (asks victim seen.core.body))

-- Entries

-- What an event has done, in numbers, where it ships nothing.
abbrev pub EventsCountSo : Type 0
EventsCountSo = (seen : Seen) (what : Event) (course : Course) → counted seen.machine seen.counts seen.core what (came_of course) ≡ done_by seen what course

-- A core step is an entry of the journal with the clock after it: one that is inner to its core, that takes a packet, or that ships one.
abbrev pub StepsAreInner : Type 0
StepsAreInner =
    (machine : Machine) (me : ℕ) (before : CountedCore) (entry : Stamped) (next : Transition)
    → is_core machine me ≡ true → core_step machine me before.core entry.event entry.slots None ≡ Some next → next.core.clock ≡ entry.clock → next.packet ≡ None
    → inner_step (stepper machine) me before entry ≡ Some (went_on machine before entry.event next)

abbrev pub StepsTake : Type 0
StepsTake =
    (machine : Machine) (me : ℕ) (before : CountedCore) (entry : Stamped) (packet : Packet) (next : Transition)
    → is_core machine me ≡ true → core_step machine me before.core entry.event entry.slots (Some packet) ≡ Some next → next.core.clock ≡ entry.clock
    → next.packet ≡ None → take_step (stepper machine) me before entry packet ≡ Some (went_on machine before entry.event next)

abbrev pub StepsShip : Type 0
StepsShip =
    (machine : Machine) (me : ℕ) (before : CountedCore) (entry : Stamped) (packet : Packet) (next : Transition)
    → is_core machine me ≡ true → core_step machine me before.core entry.event entry.slots None ≡ Some next → next.core.clock ≡ entry.clock
    → next.packet ≡ Some packet → ship_step (stepper machine) me before entry ≡ Some (went_on machine before entry.event next, packet)
