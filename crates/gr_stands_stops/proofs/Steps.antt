-- What each step tells of the stops of its core; and what is kept by each step of a run.
use Rattle.std.proofs.Common.{◌≡◌, ◌<◌, ℕ, List, [], ◌∷◌, ◌++◌, sym, ◌∙◌, ap, subst, refl, arith}
use Rattle.std.specs.Prelude.{Bool, true, false, nat_lt, Option, Some, None, if◌then◌else◌}
use Rattle.std.specs.Option.{option_map, option_and_then}
use Rattle.std.proofs.lemmas.Bool.Decides.{nat_tests}
use Rattle.gr_view.specs.Places.{put}
use Rattle.gr_merge.specs.Machines.{inner, takes, ships, quiet, shipping, with_first, take_step}
use Rattle.gr_merge.specs.GlobalRuns.{goes_at, put_pair, world_with, of_core, fold_global}
use Rattle.gr_machine.specs.declared.event.Event.{Event}
use Rattle.gr_machine.specs.declared.event.Event.TheVariants as event
use Rattle.gr_machine.specs.declared.mark.Mark.{Mark}
use Rattle.gr_machine.specs.declared.journal.Stamped.{Stamped}
use Rattle.gr_machine.specs.Machines.{Machine, is_core}
use Rattle.gr_machine.specs.States.{Letter, Core}
use Rattle.gr_machine.specs.Closes.{closes}
use Rattle.gr_machine.specs.Runs.{run_slot, run_unit, without_ready, without_unit, first_unit}
use Rattle.gr_machine.specs.Serves.{serves, settles}
use Rattle.gr_machine.specs.Events.{Packet, Transition, Course, begun, does, with_body, gives, asks, ran_first, served_first}
use Rattle.gr_machine.specs.Events.{happens, ticked, slot_of, are_free, slots_needed, steps_to, core_step}
use Rattle.gr_machine.specs.Steppers.{CountedCore, kind_of, stepper, stamped, entry_step, at_clock, went_on}
use Rattle.gr_machine.specs.Steppers as steppers
use Rattle.gr_machine.specs.GlobalRuns.{Step, World}
use Rattle.gr_machine.proofs.Clocks.{some_same, some_then, entry_made}
use Rattle.gr_stands_stops.proofs.Marks.{RootWaits, Told, Comes, told_calm, does_tell}
use Rattle.gr_stands_stops.proofs.Runs.{slot_tells, unit_tells, settles_tell, closes_tell}
use Rattle.gr_stands_stops.proofs.Serves.{serves_tell}

-- ---- events

module _ (machine : Machine) (me : ℕ) where
  -- The root's end waits at a master of the core.
  abbrev Waits : Core → Type 0
  Waits core = RootWaits core.body

  -- The transition tells so of a core.
  abbrev Came : Core → Transition → Type 0
  Came core after = Told (Waits core) core.body.stops after.core.body.stops after.marks

  still : (core : Core) → Told (Waits core) core.body.stops core.body.stops []
  still core = told_calm (Waits core) core.body.stops [] refl

  gifts_tell : (core : Core) (course : Course) → Comes (Waits core) core.body.stops course
      → Comes (Waits core) core.body.stops (does me course (Some (gives course.core.body)))
  gifts_tell core course told = does_tell (Waits core) me core.body.stops course (Some (gives course.core.body)) told
      (told_calm (Waits core) course.core.body.stops [] refl)

  ran_tell : (core : Core) (slot : ℕ) (ready : List ℕ) → Comes (Waits core) core.body.stops (ran_first machine me core slot ready)
  ran_tell core slot [] = does_tell (Waits core) me core.body.stops (begun (with_body core (without_unit core.body)))
      (run_unit machine me (without_unit core.body) slot (first_unit core.body)) (still core)
      (unit_tells (Waits core) machine me (without_unit core.body) slot (first_unit core.body))
  ran_tell core slot (ready ∷ more) = does_tell (Waits core) me core.body.stops (begun (with_body core (without_ready core.body)))
      (run_slot machine me (without_ready core.body) ready (core.body.tasks.slots ready)) (still core)
      (slot_tells (Waits core) machine me (without_ready core.body) ready (core.body.tasks.slots ready))

  served_tell : (core : Core) (letters : List Letter) → Comes (Waits core) core.body.stops (served_first machine me core letters)
  served_tell core [] = still core
  served_tell core (letter ∷ letters) =
      let first : Course = does me (begun (record core { inbox = letters })) (serves machine me core.body letter.from letter.message) in
      does_tell (Waits core) me core.body.stops first (settles machine first.core.body letter.message)
      (does_tell (Waits core) me core.body.stops (begun (record core { inbox = letters })) (serves machine me core.body letter.from letter.message) (still core)
      (serves_tell machine me letter.from core.body letter.message))
      (settles_tell (Waits core) machine first.core.body letter.message)

  happens_tell : (core : Core) (slot : ℕ) (what : Event) → Came core (happens machine me core slot what)
  happens_tell core slot event.Serve = gifts_tell core (served_first machine me core core.inbox) (served_tell core core.inbox)
  happens_tell core slot event.Run = gifts_tell core (ran_first machine me core slot core.body.tasks.ready) (ran_tell core slot core.body.tasks.ready)
  happens_tell core slot (event.Close object) = does_tell (Waits core) me core.body.stops (begun core) (Some (closes machine core.body object)) (still core)
      (closes_tell (Waits core) machine core.body object (core.body.vectors.vectors object))
  happens_tell core slot (event.Steal victim) = does_tell (Waits core) me core.body.stops (begun core) (Some (asks victim core.body)) (still core) (still core)
  happens_tell core slot (event.Ship dest) = still core
  happens_tell core slot (event.Take from) = still core

  -- What an event other than a Take has made.
  abbrev made_by : Core → Event → List ℕ → Transition
  made_by core what slots = happens machine me (ticked core core.clock) (slot_of slots) what

  happened : (core : Core) (what : Event) (slots : List ℕ) (after : Transition)
      → (if are_free core.body (slots_needed machine core what) slots then Some (made_by core what slots) else None) ≡ Some after → Came core after
  happened core what slots after h =
      subst (Came core) (some_same (some_then (are_free core.body (slots_needed machine core what) slots) (Some (made_by core what slots)) after h))
      (happens_tell (ticked core core.clock) (slot_of slots) what)

  step_tells : (core : Core) (what : Event) (slots : List ℕ) (taken : Option Packet) (after : Transition)
      → steps_to machine me core what slots taken ≡ Some after → Came core after
  step_tells core (event.Take from) [] None after h = absurd (cc)
  step_tells core (event.Take from) [] (Some packet) after h = subst (Came core) (some_same h) (still core)
  step_tells core (event.Take from) (slot ∷ slots) taken after h = absurd (cc)
  step_tells core event.Serve slots None after h = happened core event.Serve slots after h
  step_tells core event.Run slots None after h = happened core event.Run slots after h
  step_tells core (event.Ship dest) slots None after h = happened core (event.Ship dest) slots after h
  step_tells core (event.Close object) slots None after h = happened core (event.Close object) slots after h
  step_tells core (event.Steal victim) slots None after h = happened core (event.Steal victim) slots after h
  step_tells core event.Serve slots (Some packet) after h = absurd (cc)
  step_tells core event.Run slots (Some packet) after h = absurd (cc)
  step_tells core (event.Ship dest) slots (Some packet) after h = absurd (cc)
  step_tells core (event.Close object) slots (Some packet) after h = absurd (cc)
  step_tells core (event.Steal victim) slots (Some packet) after h = absurd (cc)

-- ---- entries

less : (a b : ℕ) → nat_lt a b ≡ true → a < b
less a b e = grind (arith, nat_tests, e)

holds : {X : Type 0} (b : Bool) (o : Option X) (x : X) → (if b then o else None) ≡ Some x → b ≡ true
holds true o x h = refl
holds false o x h = absurd (cc)

-- What an entry of a core has made: the core is one that there is, and its stops are told.
record Wrote (machine : Machine) (me : ℕ) (before : CountedCore) (went : steppers.Went) : Type 0 where
  here : me < machine.setup.cores
  clock : ℕ
  marks : List Mark
  left : went.marks ≡ stamped clock marks
  told : Told (RootWaits before.core.body) before.core.body.stops went.state.core.body.stops marks

wrote : (machine : Machine) (me : ℕ) (before : CountedCore) (entry : Stamped) (taken : Option Packet) (went : steppers.Went)
    → entry_step machine me before entry taken ≡ Some went → Wrote machine me before went
wrote machine me before entry taken went h =
    let c = entry_made machine me before entry taken went h in
    record {
      here = less me machine.setup.cores (holds (is_core machine me)
          (option_and_then (at_clock machine before entry) (core_step machine me before.core entry.event entry.slots taken)) went h);
      clock = c.after.core.clock;
      marks = c.after.marks;
      left = ap (λ (x : steppers.Went). x.marks) (sym c.same);
      told = subst (λ (x : steppers.Went). Told (RootWaits before.core.body) before.core.body.stops x.state.core.body.stops c.after.marks) c.same
          (step_tells machine me before.core entry.event entry.slots taken c.after c.steps);
    }

-- ---- worlds

-- A step of a core has led from one world to the next.
pub record TellsOfStep (machine : Machine) (before after : World) (me : ℕ) : Type 0 where
  pub here : me < machine.setup.cores
  pub core : CountedCore
  pub states : after.states ≡ put before.states me core
  pub clock : ℕ
  pub marks : List Mark
  pub longer : after.marks ≡ before.marks ++ of_core me (stamped clock marks)
  pub told : Told (RootWaits (before.states me).core.body) (before.states me).core.body.stops core.core.body.stops marks

module _ (machine : Machine) (before after : World) (me : ℕ) (entry : Stamped) where
  stepped : (transit : ℕ → ℕ → List Packet) (went : steppers.Went) → Wrote machine me (before.states me) went
      → world_with before me transit went ≡ after → TellsOfStep machine before after me
  stepped transit went w e = record {
    here = w.here;
    core = went.state;
    states = ap (λ (x : World). x.states) (sym e);
    clock = w.clock;
    marks = w.marks;
    longer = ap (λ (x : World). x.marks) (sym e) ∙ ap (λ ms. before.marks ++ of_core me ms) w.left;
    told = w.told;
  }

  quiet_steps : (transit : ℕ → ℕ → List Packet) (taken : Option Packet) (o : Option steppers.Went) → entry_step machine me (before.states me) entry taken ≡ o
      → option_map (world_with before me transit) (quiet o) ≡ Some after → TellsOfStep machine before after me
  quiet_steps transit taken None e h = absurd (cc)
  quiet_steps transit taken (Some went) e h = by (quiet (Some went)) refl h
    where
      by : (q : Option steppers.Went) → quiet (Some went) ≡ q → option_map (world_with before me transit) q ≡ Some after → TellsOfStep machine before after me
      by None r k = absurd (cc)
      by (Some other) r k = stepped transit other
          (subst (Wrote machine me (before.states me)) (some_same (some_then _ (Some went) other r)) (wrote machine me (before.states me) entry taken went e))
          (some_same k)

  -- The world once the core has shipped a packet.
  abbrev shipped_world : ℕ → steppers.Went × Packet → World
  shipped_world dest sent = world_with before me (put_pair before.transit me dest (before.transit me dest ++ sent.1 ∷ [])) sent.0

  ship_steps : (dest : ℕ) (o : Option steppers.Went) → entry_step machine me (before.states me) entry None ≡ o
      → option_map (shipped_world dest) (shipping o) ≡ Some after
      → TellsOfStep machine before after me
  ship_steps dest None e h = absurd (cc)
  ship_steps dest (Some went) e h = by went.packet h
    where
      by : (packet : Option Packet)
          → option_map (shipped_world dest) (option_map (λ packet. (went, packet)) packet) ≡ Some after
          → TellsOfStep machine before after me
      by None k = absurd (cc)
      by (Some packet) k = stepped (put_pair before.transit me dest (before.transit me dest ++ packet ∷ [])) went
          (wrote machine me (before.states me) entry None went e) (some_same k)

  take_steps : (from : ℕ) (packets : List Packet)
      → with_first packets (λ packet rest. option_map (world_with before me (put_pair before.transit from me rest))
      (take_step (stepper machine) me (before.states me) entry packet)) ≡ Some after
      → TellsOfStep machine before after me
  take_steps from [] h = absurd (cc)
  take_steps from (packet ∷ packets) h =
      quiet_steps (put_pair before.transit from me packets) (Some packet) (entry_step machine me (before.states me) entry (Some packet)) refl h

  pub steps_tell : (kind : _) → goes_at (stepper machine) kind me before entry ≡ Some after → TellsOfStep machine before after me
  steps_tell inner h = quiet_steps before.transit None (entry_step machine me (before.states me) entry None) refl h
  steps_tell (takes from) h = take_steps from (before.transit from me) h
  steps_tell (ships dest) h = ship_steps dest (entry_step machine me (before.states me) entry None) refl h

-- ---- runs

-- A fact that each step keeps, where another fact holds before it, is kept by all steps.
module _ (machine : Machine) (Tells Kept : World → Type 0)
    (keeps : (before after : World) (me : ℕ) → Tells before → TellsOfStep machine before after me → Kept before → Kept after) where
  -- The other fact holds at each world on the way.
  abbrev TellOn : World → List Step → Type 0
  TellOn world steps =
      (first later : List Step) (between : World) → steps ≡ first ++ later → fold_global (stepper machine) world first ≡ Some between → Tells between

  then_kept : (step : Step) (steps : List Step) (world end : World) (next : Option World)
      → ((after : World) → fold_global (stepper machine) after steps ≡ Some end → TellOn after steps → Kept after → Kept end)
      → goes_at (stepper machine) (kind_of step.1.event) step.0 world step.1 ≡ next
      → option_and_then (λ (after : World). fold_global (stepper machine) after steps) next ≡ Some end → TellOn world (step ∷ steps) → Kept world → Kept end
  then_kept step steps world end None more e h told old = absurd (cc)
  then_kept step steps world end (Some after) more e h told old = more after h
      (λ first later between is f. told (step ∷ first) later between (ap (λ (xs : List Step). step ∷ xs) is)
      (ap (option_and_then (λ (w : World). fold_global (stepper machine) w first)) e ∙ f))
      (keeps world after step.0 (told [] (step ∷ steps) world refl refl) (steps_tell machine world after step.0 step.1 (kind_of step.1.event) e) old)

  pub all_kept : (steps : List Step) (world end : World) → fold_global (stepper machine) world steps ≡ Some end → TellOn world steps → Kept world → Kept end
  all_kept [] world end h told old = subst Kept (some_same h) old
  all_kept (step ∷ steps) world end h told old = then_kept step steps world end (goes_at (stepper machine) (kind_of step.1.event) step.0 world step.1)
      (λ after. all_kept steps after end) refl h told old
