-- A Run and a Serve, outcome by outcome.
use Rattle.std.proofs.Common.{◌≡◌, ◌≢◌, ◌<◌, ℕ, List, [], ◌∷◌, ◌++◌, sym, ◌∙◌, ap, subst, refl, inl, inr}
use Rattle.std.specs.Prelude.{Bool, true, false, Option, Some, None, is_none, if◌then◌else◌}
use Rattle.std.specs.Option.{option_map}
use Rattle.gr_msg.specs.declared.message.Msg.{Msg}
use Rattle.std.proofs.lemmas.List.{append-nil}
use Rattle.std.proofs.lemmas.Bool.{cases_eq}
use mathlib.Core.Path.{fun_ext}
use Rattle.gr_view.specs.Places.{put}
use Rattle.gr_msg.specs.declared.message.Unit.{Unit as WorkUnit}
use Rattle.gr_agg.specs.Buffers.{add_last}
use Rattle.gr_merge.specs.Machines.{inner, inner_step, quiet}
use Rattle.gr_merge.specs.GlobalRuns.{goes_at, world_with, of_core}
use Rattle.gr_net.specs.Sums.{Each}
use Rattle.gr_net.specs.Worlds as net
use Rattle.gr_net.proofs.Spreads.{put_same, put_at, put_other}
use Rattle.gr_net.proofs.Views.{put_seen}
use Rattle.gr_machine.specs.declared.event.Event.{Event}
use Rattle.gr_machine.specs.declared.event.Event.TheVariants as event
use Rattle.gr_machine.specs.declared.mark.Mark.{Mark}
use Rattle.gr_machine.specs.declared.journal.Stamped.{Stamped}
use Rattle.gr_machine.specs.Machines.{Machine}
use Rattle.gr_machine.specs.States.{Letter, Suspended, Body, Core}
use Rattle.gr_machine.specs.Outcomes.{Outcome, acted}
use Rattle.gr_machine.specs.Runs.{acts, without_ready, run_slot, run_unit, first_unit, without_unit, is_sound, taken_up}
use Rattle.gr_machine.specs.Serves.{serves, settles}
use Rattle.gr_machine.specs.Events.{Packet, Transition, Course, begun, does, came_of, with_body, gives, and_gives, ran_first, ran, served_first, served, happens, ticked, slot_of, are_free, slots_needed, steps_to}
use Rattle.gr_machine.specs.Steppers.{CountedCore, entry_step, went_on, stepper, stamped}
use Rattle.gr_machine.specs.Steppers as steppers
use Rattle.gr_machine.specs.GlobalRuns as runs
use Rattle.gr_machine.specs.Nets.{core_in, world_in}
use Rattle.gr_machine.proofs.Clocks.{some_same, some_then, entry_made}
use Rattle.gr_machine.proofs.Nets.{outcomes_are}
use Rattle.gr_stands.specs.Worlds.{World, bodies, Acts}
use Rattle.gr_stands.proofs.Events.{found}
use Rattle.gr_stands_events.specs.Laws as laws
use Rattle.gr_stands_events.specs.Laws.{entry_of, ActsThenGives}

-- ---- cores in the places of others

put_twice : {X : Type 0} (f : ℕ → X) (k : ℕ) (x y : X) → put (put f k x) k y ≡ put f k y
put_twice f k x y = fun_ext (λ i. elim (cases_eq i k) [
  | inl e ↦ put_at (put f k x) k y i e ∙ sym (put_at f k y i e)
  | inr n ↦ put_other (put f k x) k y i n ∙ put_other f k x i n ∙ sym (put_other f k y i n)
])

abbrev with_core : World → ℕ → Core → World
with_core world me core = net.put_core world me (core_in core)

abbrev net_of : (ℕ → ℕ → List Packet) → (ℕ → net.Core Body Msg) → World
net_of transit cores = record { cores = cores; transit = transit }

-- The course of the first outcome, and of the gifts after it.
module _ (machine : Machine) (before after : runs.World) (me clock : ℕ) (got : List Letter) (first : Core) (e : Outcome) where
  abbrev start : Core
  start = (before.states me).core

  -- What is known of the event.
  record CourseIs : Type 0 where
    here : me < machine.setup.cores
    body : net.Without (world_in before) me (record { body = start.body; inbox = first.inbox; buffers = first.buffers }) got
    last : world_in after ≡ with_core (world_in before) me (acted me (acted me first (Some e)) (Some (gives (acted me first (Some e)).body)))
    marks : after.marks ≡ before.marks ++ of_core me (stamped clock e.marks)

  abbrev acted_core : Core
  acted_core = acted me first (Some e)

  abbrev middle : World
  middle = with_core (world_in before) me acted_core

  middle_body : bodies middle me ≡ acted_core.body
  middle_body = ap (λ (c : net.Core Body Msg). c.body) (put_same (world_in before).cores me (core_in acted_core))

  then_gives : CourseIs → ActsThenGives machine before after me clock got e
  then_gives c = record {
    here = c.here;
    middle = middle;
    acts = λ sends. record {
      here = c.here;
      core = record { body = start.body; inbox = first.inbox; buffers = first.buffers };
      without = c.body;
      sends = sends;
      world = ap (net.put_core (world_in before) me) (outcomes_are me first e);
    };
    gives = λ sends. record {
      here = c.here;
      core = core_in acted_core;
      without = record { body = sym middle_body; inbox = ap (λ (c : net.Core Body Msg). c.inbox) (put_same (world_in before).cores me (core_in acted_core)); buffers = ap (λ (c : net.Core Body Msg). c.buffers) (sym (put_same (world_in before).cores me (core_in acted_core))) };
      sends = sends;
      world = c.last
          ∙ ap (net.put_core (world_in before) me) (outcomes_are me acted_core (gives acted_core.body))
          ∙ ap (λ (b : Body). net.put_core (world_in before) me (net.acted add_last me (core_in acted_core) (Some (gives b)))) (sym middle_body)
          ∙ ap (net_of before.transit) (sym (put_twice (world_in before).cores me (core_in acted_core) (net.acted add_last me (core_in acted_core) (Some (gives (bodies middle me))))));
    };
    marks = c.marks;
  }

-- ---- an inner entry

put_core_in : (world : runs.World) (me : ℕ) (counted : CountedCore) → (λ other. core_in (put world.states me counted other).core) ≡ put (λ other. core_in (world.states other).core) me (core_in counted.core)
put_core_in world me counted = put_seen (λ (one : CountedCore). core_in one.core) world.states me counted

record Went (machine : Machine) (before after : runs.World) (me clock : ℕ) (made : Transition) : Type 0 where
  here : me < machine.setup.cores
  world : world_in after ≡ with_core (world_in before) me made.core
  marks : after.marks ≡ before.marks ++ of_core me (stamped clock made.marks)

mapped_to : {X Y : Type 0} (f : X → Y) (o : Option X) (y : Y) → option_map f o ≡ Some y → (x : X) × (o ≡ Some x) × (f x ≡ y)
mapped_to f None y h = absurd (cc)
mapped_to f (Some x) y h = (x, refl, some_same h)

quiet_to : (o : Option steppers.Went) (x : steppers.Went) → quiet o ≡ Some x → o ≡ Some x
quiet_to None x h = absurd (cc)
quiet_to (Some went) x h = some_then (is_none went.packet) (Some went) x h

module _ (machine : Machine) (before after : runs.World) (me clock : ℕ) (slots : List ℕ) (what : Event) where
  abbrev entry : Stamped
  entry = entry_of what clock slots

  abbrev core : Core
  core = (before.states me).core

  went_so : (made : Transition) (b : Bool) → steps_to machine me core what slots None ≡ (if b then Some made else None) → goes_at (stepper machine) inner me before entry ≡ Some after
      → Went machine before after me clock made
  went_so made b shape h =
      let m = mapped_to (world_with before me before.transit) (inner_step (stepper machine) me (before.states me) entry) after h in
      let e = quiet_to (entry_step machine me (before.states me) entry None) m.0 m.1 in
      let c = entry_made machine me (before.states me) entry None m.0 e in
      let is : made ≡ c.after = some_same (some_then b (Some made) c.after (sym shape ∙ c.steps)) in
      let made_went : steppers.Went = went_on machine (before.states me) what made in
      let went : made_went ≡ m.0 = ap (went_on machine (before.states me) what) is ∙ c.same in
      let whole : world_with before me before.transit made_went ≡ after = ap (world_with before me before.transit) went ∙ m.2 in
      record {
        here = (found machine me (before.states me) entry None m.0 e).here;
        world = ap world_in (sym whole) ∙ ap (net_of before.transit) (put_core_in before me made_went.state);
        marks = ap (λ (w : runs.World). w.marks) (sym whole)
            ∙ ap (λ (n : ℕ). before.marks ++ of_core me (stamped n made.marks)) (ap (λ (t : Transition). t.core.clock) is ∙ c.clock);
      }

-- The course of an outcome and then of gifts, where the outcome's course has these marks.
given_after : (machine : Machine) (before after : runs.World) (me clock : ℕ) (got : List Letter) (first : Core) (e : Outcome) (course : Course) → course.core ≡ acted me first (Some e) → course.marks ≡ e.marks
    → net.Without (world_in before) me (record { body = (before.states me).core.body; inbox = first.inbox; buffers = first.buffers }) got
    → Went machine before after me clock (came_of (and_gives me course)) → ActsThenGives machine before after me clock got e
given_after machine before after me clock got first e course core marks without went = then_gives machine before after me clock got first e (record {
  here = went.here;
  body = without;
  last = went.world ∙ ap (λ (c : Core). with_core (world_in before) me (acted me c (Some (gives c.body)))) core;
  marks = went.marks ∙ ap (λ (ms : List Mark). before.marks ++ of_core me (stamped clock ms)) (append-nil course.marks ∙ marks);
})

same_went : (machine : Machine) (before after : runs.World) (me clock : ℕ) (one other : Course) → one ≡ other → Went machine before after me clock (came_of (and_gives me one)) → Went machine before after me clock (came_of (and_gives me other))
same_went machine before after me clock one other e w = subst (λ (c : Course). Went machine before after me clock (came_of (and_gives me c))) e w

pub tasks_run : laws.TasksRun
tasks_run machine before after me clock slot more slots task h ready there =
    let core : Core = ticked (before.states me).core (before.states me).core.clock in
    let first : Core = with_body core (without_ready core.body) in
    let e : Outcome = acts machine me (without_ready core.body) slot task task.action in
    let course : Course = does me (begun first) (Some e) in
    let is : ran_first machine me core (slot_of slots) core.body.tasks.ready ≡ course =
    ap (ran_first machine me core (slot_of slots)) ready
    ∙ ap (λ (o : Option Suspended). does me (begun first) (run_slot machine me (without_ready core.body) slot o)) there in
    let went = went_so machine before after me clock slots event.Run (happens machine me core (slot_of slots) event.Run) (are_free core.body (slots_needed machine (before.states me).core event.Run) slots) refl h in
    given_after machine before after me clock [] first e course refl refl (record { body = refl; inbox = refl; buffers = refl })
    (same_went machine before after me clock (ran_first machine me core (slot_of slots) core.body.tasks.ready) course is went)

pub units_run : laws.UnitsRun
units_run machine before after me clock slots e h ready acts_so =
    let core : Core = ticked (before.states me).core (before.states me).core.clock in
    let first : Core = with_body core (without_unit core.body) in
    let course : Course = does me (begun first) (Some e) in
    let is : ran_first machine me core (slot_of slots) core.body.tasks.ready ≡ course =
    ap (ran_first machine me core (slot_of slots)) ready ∙ ap (does me (begun first)) acts_so in
    let went = went_so machine before after me clock slots event.Run (happens machine me core (slot_of slots) event.Run) (are_free core.body (slots_needed machine (before.states me).core event.Run) slots) refl h in
    given_after machine before after me clock [] first e course refl refl (record { body = refl; inbox = refl; buffers = refl })
    (same_went machine before after me clock (ran_first machine me core (slot_of slots) core.body.tasks.ready) course is went)

pub messages_serve : laws.MessagesServe
messages_serve machine before after me clock slots letter letters e h inbox acts_so no_turn =
    let core : Core = ticked (before.states me).core (before.states me).core.clock in
    let first : Core = record core { inbox = letters } in
    let one : Course = does me (begun first) (Some e) in
    let course : Course = does me one None in
    let is : served_first machine me core core.inbox ≡ course =
    ap (served_first machine me core) inbox
    ∙ ap (λ (o : Option Outcome). does me (does me (begun first) o) (settles machine (does me (begun first) o).core.body letter.message)) acts_so
    ∙ ap (does me one) (no_turn one.core.body) in
    let went = went_so machine before after me clock slots event.Serve (happens machine me core (slot_of slots) event.Serve) (are_free core.body (slots_needed machine (before.states me).core event.Serve) slots) refl h in
    given_after machine before after me clock (letter ∷ []) first e course refl (append-nil e.marks) (record { body = refl; inbox = inbox; buffers = refl })
    (same_went machine before after me clock (served_first machine me core core.inbox) course is went)
