-- Each event that is inner to its core is one outcome there.
use Rattle.std.proofs.Common.{◌≡◌, ◌==◌, ℕ, List, [], ◌∷◌, ◌++◌, sym, ◌∙◌, ap, subst, refl}
use Rattle.std.specs.Prelude.{Bool, true, false, Option, Some, None, is_none, if◌then◌else◌}
use Rattle.std.specs.Option.{option_map, option_and_then}
use Rattle.std.proofs.lemmas.List.{append-nil}
use Rattle.gr_view.specs.Places.{put}
use Rattle.gr_msg.specs.declared.message.Msg.{Msg}
use Rattle.gr_agg.specs.Buffers.{add_last}
use Rattle.gr_merge.specs.Machines.{inner, inner_step, quiet}
use Rattle.gr_merge.specs.GlobalRuns.{world_with, of_core}
use Rattle.gr_net.specs.Worlds as net
use Rattle.gr_net.proofs.Views.{put_seen}
use Rattle.gr_machine.specs.declared.event.Event.{Event}
use Rattle.gr_machine.specs.declared.event.Event.TheVariants as event
use Rattle.gr_machine.specs.declared.mark.Mark.{Mark}
use Rattle.gr_machine.specs.declared.journal.Stamped.{Stamped}
use Rattle.gr_machine.specs.Machines.{Machine, is_core}
use Rattle.gr_machine.specs.States.{Letter, Body, Core}
use Rattle.gr_machine.specs.Outcomes.{Send, Outcome, followed, sent, sent_all, acted}
use Rattle.gr_machine.specs.Runs.{without_ready, run_slot, run_unit, first_unit, without_unit}
use Rattle.gr_machine.specs.Serves.{serves, settles}
use Rattle.gr_machine.specs.Closes.{closes}
use Rattle.gr_machine.specs.Enabled.{enabled}
use Rattle.gr_machine.specs.Events.{Packet, Transition, Course, begun, does, came_of, with_body, gives, asks, and_gives, ran_first, ran, served_first, served, happens, ticked, slot_of, are_free, slots_needed, steps_to, core_step}
use Rattle.gr_machine.specs.Steppers.{CountedCore, kind_of, entry_step, at_clock, went_on, stepper, stamped}
use Rattle.gr_machine.specs.Steppers as steppers
use Rattle.gr_machine.specs.GlobalRuns as runs
use Rattle.gr_machine.specs.Nets.{core_in, world_in}
use Rattle.gr_machine.proofs.Clocks.{some_same, some_then, entry_made}
use Rattle.gr_machine.proofs.ActionFacts.{choice}
use Rattle.gr_machine.proofs.Nets.{outcomes_are}
use Rattle.gr_stands.specs.Worlds.{World}
use Rattle.gr_stands.proofs.Events.{found}
use Rattle.gr_stands_chains.proofs.Follows.{first_acts, then_acts}
use Rattle.gr_stands_outcomes.specs.Inner.{outcome_of, with_gifts, run_outcome, serve_outcome, inner_outcome, first_of, taken_up_by}
use Rattle.gr_stands_outcomes.specs.Laws as laws
use Rattle.gr_stands_outcomes.specs.Laws.{core_at, IsOutcome, IsInner}

-- ---- a course as one outcome

sent_body : (me : ℕ) (core : Core) (s : Send) → (sent me core s).body ≡ core.body
sent_body me core s = choice (λ (after : Core). after.body ≡ core.body) (s.to == me) _ _ refl refl

all_sent_body : (me : ℕ) (core : Core) (ss : List Send) → (sent_all me core ss).body ≡ core.body
all_sent_body me core [] = refl
all_sent_body me core (s ∷ ss) = all_sent_body me (sent me core s) ss ∙ sent_body me core s

-- A body in the place of another one, before messages are sent or after.
body_sent : (me : ℕ) (core : Core) (b : Body) (s : Send) → with_body (sent me core s) b ≡ sent me (with_body core b) s
body_sent me core b s = by (s.to == me)
  where
    by : (t : Bool)
        → with_body (if t then record core { inbox = core.inbox ++ record { from = me; message = s.message } ∷ [] } else record core { buffers = put core.buffers s.to (add_last (core.buffers s.to) s.message) }) b
        ≡ (if t then record (with_body core b) { inbox = core.inbox ++ record { from = me; message = s.message } ∷ [] } else record (with_body core b) { buffers = put core.buffers s.to (add_last (core.buffers s.to) s.message) })
    by true = refl
    by false = refl

body_sent_all : (me : ℕ) (core : Core) (b : Body) (ss : List Send) → with_body (sent_all me core ss) b ≡ sent_all me (with_body core b) ss
body_sent_all me core b [] = refl
body_sent_all me core b (s ∷ ss) = body_sent_all me (sent me core s) b ss ∙ ap (λ (x : Core). sent_all me x ss) (body_sent me core b s)

sent_both : (me : ℕ) (core : Core) (xs ys : List Send) → sent_all me core (xs ++ ys) ≡ sent_all me (sent_all me core xs) ys
sent_both me core [] ys = refl
sent_both me core (x ∷ xs) ys = sent_both me (sent me core x) xs ys

-- The course has done this outcome at this core.
record IsDone (me : ℕ) (first : Core) (e : Outcome) (course : Course) : Type 0 where
  core : course.core ≡ acted me first (Some e)
  marks : course.marks ≡ e.marks

done_body : (me : ℕ) (first : Core) (e : Outcome) (course : Course) → IsDone me first e course → course.core.body ≡ e.body
done_body me first e course d = ap (λ (c : Core). c.body) d.core ∙ all_sent_body me (with_body first e.body) e.sends

-- The first outcome.
begins : (me : ℕ) (first : Core) (o : Option Outcome) → IsDone me first (outcome_of first.body o) (does me (begun first) o)
begins me first None = record { core = refl; marks = refl }
begins me first (Some e) = record { core = refl; marks = refl }

-- One outcome more.
then_done : (me : ℕ) (first : Core) (e : Outcome) (course : Course) → IsDone me first e course → (o : Option Outcome) → IsDone me first (followed e (outcome_of e.body o)) (does me course o)
then_done me first e course d None = record {
  core = d.core ∙ ap (sent_all me (with_body first e.body)) (sym (append-nil e.sends));
  marks = ap (λ (ms : List Mark). ms ++ []) d.marks;
}
then_done me first e course d (Some f) = record {
  core = ap (λ (c : Core). acted me c (Some f)) d.core
      ∙ ap (λ (c : Core). sent_all me c f.sends) (body_sent_all me (with_body first e.body) f.body e.sends)
      ∙ sym (sent_both me (with_body first f.body) e.sends f.sends);
  marks = ap (λ (ms : List Mark). ms ++ f.marks) d.marks;
}

-- One more of the body that the course has come to.
then_of_body : (me : ℕ) (first : Core) (e : Outcome) (course : Course) → IsDone me first e course → (f : Body → Option Outcome)
    → IsDone me first (followed e (outcome_of e.body (f e.body))) (does me course (f course.core.body))
then_of_body me first e course d f =
    subst (λ (b : Body). IsDone me first (followed e (outcome_of e.body (f e.body))) (does me course (f b))) (sym (done_body me first e course d))
    (then_done me first e course d (f e.body))

-- ---- each inner event

gifts_done : (me : ℕ) (first : Core) (e : Outcome) (course : Course) → IsDone me first e course → IsDone me first (with_gifts e) (and_gives me course)
gifts_done me first e course d = then_of_body me first e course d (λ b. Some (gives b))

ran_done : (machine : Machine) (me : ℕ) (core : Core) (slot : ℕ) (ready : List ℕ) → IsDone me core (run_outcome machine me core.body slot ready) (ran_first machine me core slot ready)
ran_done machine me core slot [] =
    let d = begins me (with_body core (without_unit core.body)) (run_unit machine me (without_unit core.body) slot (first_unit core.body)) in
    record { core = d.core; marks = d.marks }
ran_done machine me core slot (ready ∷ more) =
    let d = begins me (with_body core (without_ready core.body)) (run_slot machine me (without_ready core.body) ready (core.body.tasks.slots ready)) in
    record { core = d.core; marks = d.marks }

-- The core without the letters that it takes up.
abbrev left_by : Core → List Letter → Core
left_by core [] = core
left_by core (letter ∷ letters) = record core { inbox = letters }

served_done : (machine : Machine) (me : ℕ) (core : Core) (letters : List Letter) → IsDone me (left_by core letters) (serve_outcome machine me core.body letters) (served_first machine me core letters)
served_done machine me core [] = record { core = refl; marks = refl }
served_done machine me core (letter ∷ letters) =
    let first : Core = record core { inbox = letters } in
    let made = serves machine me core.body letter.from letter.message in
    then_of_body me first (outcome_of core.body made) (does me (begun first) made) (begins me first made) (λ b. settles machine b letter.message)

-- The core at which an event makes its outcome.
abbrev starts_at : Event → Core → Core
starts_at event.Serve core = left_by core core.inbox
starts_at _ core = core

record IsCame (machine : Machine) (me : ℕ) (core : Core) (slot : ℕ) (what : Event) : Type 0 where
  course : Course
  came : happens machine me core slot what ≡ came_of course
  done : IsDone me (starts_at what core) (inner_outcome machine me core slot what) course

came : (machine : Machine) (me : ℕ) (core : Core) (slot : ℕ) (what : Event) → kind_of what ≡ inner → IsCame machine me core slot what
came machine me core slot event.Run k = record {
  course = ran machine me core slot;
  came = refl;
  done = gifts_done me core (run_outcome machine me core.body slot core.body.tasks.ready) (ran_first machine me core slot core.body.tasks.ready) (ran_done machine me core slot core.body.tasks.ready);
}
came machine me core slot event.Serve k = record {
  course = served machine me core;
  came = refl;
  done = gifts_done me (left_by core core.inbox) (serve_outcome machine me core.body core.inbox) (served_first machine me core core.inbox) (served_done machine me core core.inbox);
}
came machine me core slot (event.Close object) k = record { course = does me (begun core) (Some (closes machine core.body object)); came = refl; done = record { core = refl; marks = refl } }
came machine me core slot (event.Steal victim) k = record { course = does me (begun core) (Some (asks victim core.body)); came = refl; done = record { core = refl; marks = refl } }
came machine me core slot (event.Ship dest) k = absurd (cc)
came machine me core slot (event.Take from) k = absurd (cc)

-- ---- an inner entry

holds : {X : Type 0} (b : Bool) (o : Option X) (x : X) → (if b then o else None) ≡ Some x → b ≡ true
holds true o x h = refl
holds false o x h = absurd (cc)

mapped_to : {X Y : Type 0} (f : X → Y) (o : Option X) (y : Y) → option_map f o ≡ Some y → (x : X) × (o ≡ Some x) × (f x ≡ y)
mapped_to f None y h = absurd (cc)
mapped_to f (Some x) y h = (x, refl, some_same h)

quiet_to : (o : Option steppers.Went) (x : steppers.Went) → quiet o ≡ Some x → o ≡ Some x
quiet_to None x h = absurd (cc)
quiet_to (Some went) x h = some_then (is_none went.packet) (Some went) x h

was_enabled : (machine : Machine) (me : ℕ) (before : CountedCore) (entry : Stamped) (taken : Option Packet) (went : steppers.Went)
    → entry_step machine me before entry taken ≡ Some went → enabled machine me before.core entry.event ≡ true
was_enabled machine me before entry taken went h =
    of_step (core_step machine me before.core entry.event entry.slots taken) refl
    (some_then (is_core machine me) (option_and_then (at_clock machine before entry) (core_step machine me before.core entry.event entry.slots taken)) went h)
  where
    of_step : (step : Option Transition) → core_step machine me before.core entry.event entry.slots taken ≡ step → option_and_then (at_clock machine before entry) step ≡ Some went
        → enabled machine me before.core entry.event ≡ true
    of_step None s k = absurd (cc)
    of_step (Some after) s k = holds (enabled machine me before.core entry.event) (steps_to machine me before.core entry.event entry.slots taken) after s

inner_steps : (machine : Machine) (me : ℕ) (core : Core) (what : Event) (slots : List ℕ) → kind_of what ≡ inner
    → steps_to machine me core what slots None
    ≡ (if are_free core.body (slots_needed machine core what) slots then Some (happens machine me (ticked core core.clock) (slot_of slots) what) else None)
inner_steps machine me core event.Run slots k = refl
inner_steps machine me core event.Serve slots k = refl
inner_steps machine me core (event.Close object) slots k = refl
inner_steps machine me core (event.Steal victim) slots k = refl
inner_steps machine me core (event.Ship dest) slots k = refl
inner_steps machine me core (event.Take from) slots k = absurd (cc)

without_taken : (world : World) (me : ℕ) (core : Core) (what : Event) → world.cores me ≡ core_in core
    → net.Without world me (record { body = core.body; inbox = (starts_at what core).inbox; buffers = (starts_at what core).buffers }) (taken_up_by what core.inbox)
without_taken world me core event.Serve e = of_letters core.inbox refl
  where
    of_letters : (letters : List Letter) → core.inbox ≡ letters
        → net.Without world me (record { body = core.body; inbox = (left_by core letters).inbox; buffers = (left_by core letters).buffers }) (first_of letters)
    of_letters [] i = record { body = ap (λ (c : net.Core Body Msg). c.body) (sym e); inbox = ap (λ (c : net.Core Body Msg). c.inbox) e; buffers = ap (λ (c : net.Core Body Msg). c.buffers) (sym e) }
    of_letters (letter ∷ letters) i =
        record { body = ap (λ (c : net.Core Body Msg). c.body) (sym e); inbox = ap (λ (c : net.Core Body Msg). c.inbox) e ∙ i; buffers = ap (λ (c : net.Core Body Msg). c.buffers) (sym e) }
without_taken world me core _ e =
    record { body = ap (λ (c : net.Core Body Msg). c.body) (sym e); inbox = ap (λ (c : net.Core Body Msg). c.inbox) e; buffers = ap (λ (c : net.Core Body Msg). c.buffers) (sym e) }

put_core_in : (world : runs.World) (me : ℕ) (counted : CountedCore) → (λ other. core_in (put world.states me counted other).core) ≡ put (λ other. core_in (world.states other).core) me (core_in counted.core)
put_core_in world me counted = put_seen (λ (one : CountedCore). core_in one.core) world.states me counted

abbrev net_of : (ℕ → ℕ → List Packet) → (ℕ → net.Core Body Msg) → World
net_of transit cores = record { cores = cores; transit = transit }

-- The clock plays no part in it.
same_outcome : (machine : Machine) (me : ℕ) (core : Core) (clock slot : ℕ) (what : Event) → inner_outcome machine me (ticked core clock) slot what ≡ inner_outcome machine me core slot what
same_outcome machine me core clock slot event.Run = refl
same_outcome machine me core clock slot event.Serve = refl
same_outcome machine me core clock slot (event.Close object) = refl
same_outcome machine me core clock slot (event.Steal victim) = refl
same_outcome machine me core clock slot _ = refl

-- The net's core after an outcome is the same, whatever body it had before.
acted_in : (me : ℕ) (core : Core) (clock : ℕ) (what : Event) (e : Outcome)
    → core_in (acted me (starts_at what (ticked core clock)) (Some e))
    ≡ net.acted add_last me (record { body = core.body; inbox = (starts_at what core).inbox; buffers = (starts_at what core).buffers }) (Some e)
acted_in me core clock event.Serve e = of_letters core.inbox
  where
    of_letters : (letters : List Letter) → core_in (acted me (left_by (ticked core clock) letters) (Some e))
        ≡ net.acted add_last me (record { body = core.body; inbox = (left_by core letters).inbox; buffers = (left_by core letters).buffers }) (Some e)
    of_letters [] = outcomes_are me (ticked core clock) e
    of_letters (letter ∷ letters) = outcomes_are me (record (ticked core clock) { inbox = letters }) e
acted_in me core clock _ e = outcomes_are me (ticked core clock) e

pub inner_events_are_outcomes : laws.InnerEventsAreOutcomes
inner_events_are_outcomes machine before after me entry kind h =
    let core : Core = (before.states me).core in
    let what : Event = entry.event in
    let slot : ℕ = slot_of entry.slots in
    let outcome : Outcome = inner_outcome machine me core slot what in
    let m = mapped_to (world_with before me before.transit) (inner_step (stepper machine) me (before.states me) entry) after h in
    let e = quiet_to (entry_step machine me (before.states me) entry None) m.0 m.1 in
    let c = entry_made machine me (before.states me) entry None m.0 e in
    let steps = sym (inner_steps machine me core what entry.slots kind) ∙ c.steps in
    let free = are_free core.body (slots_needed machine core what) entry.slots in
    let clocked : Core = ticked core core.clock in
    let made : Transition = happens machine me clocked slot what in
    let is : made ≡ c.after = some_same (some_then free (Some made) c.after steps) in
    let made_went : steppers.Went = went_on machine (before.states me) what made in
    let whole : world_with before me before.transit made_went ≡ after = ap (world_with before me before.transit) (ap (went_on machine (before.states me) what) is ∙ c.same) ∙ m.2 in
    let course = came machine me clocked slot what kind in
    let same : inner_outcome machine me clocked slot what ≡ outcome = same_outcome machine me core core.clock slot what in
    record {
      enabled = was_enabled machine me (before.states me) entry None m.0 e;
      free = holds free (Some made) c.after steps;
      made = record {
        here = (found machine me (before.states me) entry None m.0 e).here;
        acts = λ sends. record {
          here = (found machine me (before.states me) entry None m.0 e).here;
          core = record { body = core.body; inbox = (starts_at what core).inbox; buffers = (starts_at what core).buffers };
          without = without_taken (world_in before) me core what refl;
          sends = sends;
          world = ap world_in (sym whole) ∙ ap (net_of before.transit) (put_core_in before me made_went.state)
              ∙ ap (net.put_core (world_in before) me) (ap core_in (ap (λ (t : Transition). t.core) course.came ∙ course.done.core ∙ ap (λ (o : Outcome). acted me (starts_at what clocked) (Some o)) same) ∙ acted_in me core core.clock what outcome);
        };
        marks = ap (λ (w : runs.World). w.marks) (sym whole)
            ∙ ap (λ (n : ℕ). before.marks ++ of_core me (stamped n made.marks)) (ap (λ (t : Transition). t.core.clock) is ∙ c.clock)
            ∙ ap (λ (ms : List Mark). before.marks ++ of_core me (stamped entry.clock ms)) (ap (λ (t : Transition). t.marks) course.came ∙ course.done.marks ∙ ap (λ (o : Outcome). o.marks) same);
      };
    }

-- ---- two outcomes

pub outcomes_come_apart : laws.OutcomesComeApart
outcomes_come_apart n w v me got e f a = record { between = _; begins = first_acts n w v me got e f a; follows = then_acts n w v me got e f a }
