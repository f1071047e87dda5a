-- What an event makes of a core and of what it has done is what an entry of the journal makes.
use Rattle.std.proofs.Common.{◌≡◌, ◌+◌, ℕ, cond, if◌then◌else◌, List, [], ◌∷◌, ap, ◌∙◌, sym, refl, arith, eq-eqb, count_by}
use Rattle.std.specs.Prelude.{Bool, true, false, Option, Some, None, is_none, max}
use Rattle.std.specs.Option.{option_and_then, option_map}
use Rattle.std.proofs.lemmas.List.Sums.{sum_by-cons}
use Rattle.gr_lang.specs.Expressions.{number_of}
use Rattle.gr_merge.specs.Machines.{quiet, shipping, inner_step, take_step, ship_step}
use Rattle.gr_machine.specs.declared.counts.Counts.{Counts}
use Rattle.gr_machine.specs.declared.event.Event.{Event}
use Rattle.gr_machine.specs.declared.event.Event.TheVariants as event
use Rattle.gr_machine.specs.declared.mark.Mark.{Mark}
use Rattle.gr_machine.specs.declared.journal.Stamped.{Stamped}
use Rattle.gr_machine.specs.Machines.{Machine, is_core}
use Rattle.gr_machine.specs.States.{Core}
use Rattle.gr_machine.specs.Outcomes.{Send}
use Rattle.gr_machine.specs.Enabled.{enabled}
use Rattle.gr_machine.specs.Counting.{is_closed, is_gift, makes_call, is_steal, counted}
use Rattle.gr_machine.specs.Events.{Packet, Course, Transition, came_of, begun, received, ticked, are_free, slots_needed, slot_of, happens, steps_to, core_step}
use Rattle.gr_machine.specs.Steppers.{CountedCore, Went, went_on, at_clock, entry_step, stepper}
use Rattle.gr_courses.specs.Seen.{Seen, batches_with, gives_with, done_by}

-- Numbers

batches_are : (count : ℕ) (marks : List Mark) → batches_with count marks ≡ count + count_by is_closed marks
batches_are count [] = omega arith
batches_are count (mark ∷ marks) = batches_are (if is_closed mark then count + 1 else count) marks ∙ one_more (is_closed mark) (count_by is_closed marks)
    ∙ ap (λ (all : ℕ). count + all) (sym (sum_by-cons (λ other. cond (is_closed other) 1 0) mark marks))
  where
    one_more : (b : Bool) (rest : ℕ) → (if b then count + 1 else count) + rest ≡ count + (cond b 1 0 + rest)
    one_more true rest = omega arith
    one_more false rest = omega arith

gives_are : (count : ℕ) (sends : List Send) → gives_with count sends ≡ count + count_by (λ send. is_gift send.message) sends
gives_are count [] = omega arith
gives_are count (send ∷ sends) = gives_are (if is_gift send.message then count + 1 else count) sends ∙ one_more (is_gift send.message) (count_by (λ other. is_gift other.message) sends)
    ∙ ap (λ (all : ℕ). count + all) (sym (sum_by-cons (λ (other : Send). cond (is_gift other.message) 1 0) send sends))
  where
    one_more : (b : Bool) (rest : ℕ) → (if b then count + 1 else count) + rest ≡ count + (cond b 1 0 + rest)
    one_more true rest = omega arith
    one_more false rest = omega arith

number_added : (count : ℕ) (b : Bool) → count + number_of b ≡ (if b then count + 1 else count)
number_added count true = refl
number_added count false = omega arith

nothing_added : (count : ℕ) → count + 0 ≡ count
nothing_added count = omega arith

abbrev counts_as : ℕ → ℕ → ℕ → ℕ → ℕ → ℕ → ℕ → Counts
counts_as calls messages packets short batches asks gives = record { calls = calls; messages = messages; packets = packets; short = short; batches = batches; asks = asks; gives = gives }

counts_same : (a b c d e f g a' b' c' d' e' f' g' : ℕ) → a ≡ a' → b ≡ b' → c ≡ c' → d ≡ d' → e ≡ e' → f ≡ f' → g ≡ g' → counts_as a b c d e f g ≡ counts_as a' b' c' d' e' f' g'
counts_same a b c d e f g a' b' c' d' e' f' g' p q r s t u v =
    ap (λ (n : ℕ). counts_as n b c d e f g) p ∙ ap (λ (n : ℕ). counts_as a' n c d e f g) q ∙ ap (λ (n : ℕ). counts_as a' b' n d e f g) r
    ∙ ap (λ (n : ℕ). counts_as a' b' c' n e f g) s ∙ ap (λ (n : ℕ). counts_as a' b' c' d' n f g) t ∙ ap (λ (n : ℕ). counts_as a' b' c' d' e' n g) u
    ∙ ap (λ (n : ℕ). counts_as a' b' c' d' e' f' n) v

pub counted_is : (seen : Seen) (what : Event) (course : Course) → counted seen.machine seen.counts seen.core what (came_of course) ≡ done_by seen what course
counted_is seen what course = counts_same _ _ _ _ _ _ _ _ _ _ _ _ _ _
    (number_added seen.counts.calls (makes_call seen.core what))
    (nothing_added seen.counts.messages)
    (nothing_added seen.counts.packets)
    (nothing_added seen.counts.short)
    (sym (batches_are seen.counts.batches course.marks))
    (number_added seen.counts.asks (is_steal what))
    (sym (gives_are seen.counts.gives course.sent))

-- Entries

abbrev counted_core : Seen → CountedCore
counted_core seen = record { core = seen.core; counts = seen.counts }

entry_is : (machine : Machine) (me : ℕ) (before : CountedCore) (entry : Stamped) (taken : Option Packet) (next : Transition)
    → is_core machine me ≡ true → core_step machine me before.core entry.event entry.slots taken ≡ Some next → next.core.clock ≡ entry.clock
    → entry_step machine me before entry taken ≡ Some (went_on machine before entry.event next)
entry_is machine me before entry taken next there step clock =
    ap (λ (b : Bool). if b then option_and_then (at_clock machine before entry) (core_step machine me before.core entry.event entry.slots taken) else None) there
    ∙ ap (option_and_then (at_clock machine before entry)) step
    ∙ ap (λ (b : Bool). if b then Some (went_on machine before entry.event next) else None) (eq-eqb next.core.clock entry.clock clock)

-- An entry that ships nothing, and one that ships this packet.
quiet_one : (o : Option Went) (went : Went) → o ≡ Some went → went.packet ≡ None → quiet o ≡ Some went
quiet_one o went made none = ap quiet made ∙ ap (λ (packet : Option Packet). if is_none packet then Some went else None) none

shipping_one : (o : Option Went) (went : Went) (packet : Packet) → o ≡ Some went → went.packet ≡ Some packet → shipping o ≡ Some (went, packet)
shipping_one o went packet made some = ap shipping made ∙ ap (λ (found : Option Packet). option_map (λ one. (went, one)) found) some

-- An entry that is inner to its core, that takes a packet, and that ships one.
pub inner_entry : (machine : Machine) (me : ℕ) (before : CountedCore) (entry : Stamped) (next : Transition)
    → is_core machine me ≡ true → core_step machine me before.core entry.event entry.slots None ≡ Some next → next.core.clock ≡ entry.clock → next.packet ≡ None
    → inner_step (stepper machine) me before entry ≡ Some (went_on machine before entry.event next)
inner_entry machine me before entry next there step clock none =
    quiet_one (entry_step machine me before entry None) (went_on machine before entry.event next) (entry_is machine me before entry None next there step clock) none

pub take_entry : (machine : Machine) (me : ℕ) (before : CountedCore) (entry : Stamped) (packet : Packet) (next : Transition)
    → is_core machine me ≡ true → core_step machine me before.core entry.event entry.slots (Some packet) ≡ Some next → next.core.clock ≡ entry.clock → next.packet ≡ None
    → take_step (stepper machine) me before entry packet ≡ Some (went_on machine before entry.event next)
take_entry machine me before entry packet next there step clock none =
    quiet_one (entry_step machine me before entry (Some packet)) (went_on machine before entry.event next) (entry_is machine me before entry (Some packet) next there step clock) none

pub ship_entry : (machine : Machine) (me : ℕ) (before : CountedCore) (entry : Stamped) (packet : Packet) (next : Transition)
    → is_core machine me ≡ true → core_step machine me before.core entry.event entry.slots None ≡ Some next → next.core.clock ≡ entry.clock → next.packet ≡ Some packet
    → ship_step (stepper machine) me before entry ≡ Some (went_on machine before entry.event next, packet)
ship_entry machine me before entry packet next there step clock some =
    shipping_one (entry_step machine me before entry None) (went_on machine before entry.event next) packet (entry_is machine me before entry None next there step clock) some

-- Steps

-- An enabled event but a Take, in slots that are free.
pub step_is : (machine : Machine) (me : ℕ) (core : Core) (what : Event) (slots : List ℕ) → ((from : ℕ) → what ≡ event.Take from → ⊥)
    → enabled machine me core what ≡ true → are_free core.body (slots_needed machine core what) slots ≡ true
    → core_step machine me core what slots None ≡ Some (happens machine me (ticked core core.clock) (slot_of slots) what)
step_is machine me core what slots other can free =
    ap (λ (b : Bool). if b then steps_to machine me core what slots None else None) can ∙ by what other free
  where
    by : (what : Event) → ((from : ℕ) → what ≡ event.Take from → ⊥) → are_free core.body (slots_needed machine core what) slots ≡ true
        → steps_to machine me core what slots None ≡ Some (happens machine me (ticked core core.clock) (slot_of slots) what)
    by event.Serve differs free = ap (λ (b : Bool). if b then Some (happens machine me (ticked core core.clock) (slot_of slots) event.Serve) else None) free
    by event.Run differs free = ap (λ (b : Bool). if b then Some (happens machine me (ticked core core.clock) (slot_of slots) event.Run) else None) free
    by (event.Close object) differs free = ap (λ (b : Bool). if b then Some (happens machine me (ticked core core.clock) (slot_of slots) (event.Close object)) else None) free
    by (event.Steal victim) differs free = ap (λ (b : Bool). if b then Some (happens machine me (ticked core core.clock) (slot_of slots) (event.Steal victim)) else None) free
    by (event.Ship dest) differs free = ap (λ (b : Bool). if b then Some (happens machine me (ticked core core.clock) (slot_of slots) (event.Ship dest)) else None) free
    by (event.Take from) differs free = absurd (differs from refl)

-- A Take of a packet.
pub take_is : (machine : Machine) (me : ℕ) (core : Core) (from : ℕ) (packet : Packet) → enabled machine me core (event.Take from) ≡ true
    → core_step machine me core (event.Take from) [] (Some packet) ≡ Some (came_of (begun (received (ticked core (max core.clock packet.clock)) from packet.messages)))
take_is machine me core from packet can = ap (λ (b : Bool). if b then steps_to machine me core (event.Take from) [] (Some packet) else None) can
