-- Each step.
use Rattle.std.proofs.Common.{◌≡◌, ◌<◌, ◌==◌, ◌&&◌, ℕ, not, List, [], ◌∷◌, ◌++◌, sym, ◌∙◌, ap, subst, refl, arith}
use Rattle.std.specs.Prelude.{true, nat_lt, Option, Some, None, is_none}
use Rattle.std.specs.Option.{option_map}
use Rattle.std.proofs.lemmas.Bool.{and_parts}
use Rattle.std.proofs.lemmas.Bool.Decides.{nat_tests}
use Rattle.gr_lang.specs.States.{State}
use Rattle.gr_lang.specs.Histories.{after}
use Rattle.gr_msg.specs.declared.message.Unit.{Unit as WorkUnit}
use Rattle.gr_batch.specs.declared.combiner.Batch.{Batch}
use Rattle.gr_batch.specs.Batches.{batches_of, rest_of}
use Rattle.gr_merge.specs.Machines.{inner, take_step, ship_step, quiet, shipping, with_first}
use Rattle.gr_merge.specs.GlobalRuns.{goes_at, put_pair, world_with, of_core}
use Rattle.gr_net.specs.Sums.{Each}
use Rattle.gr_net.proofs.Spreads.{put_each, Each-append}
use Rattle.gr_machine.specs.declared.event.Event.{Event}
use Rattle.gr_machine.specs.declared.event.Event.TheVariants as event
use Rattle.gr_machine.specs.declared.journal.Stamped.{Stamped}
use Rattle.gr_machine.specs.declared.journal.StampedMark.{StampedMark}
use Rattle.gr_machine.specs.Machines.{Machine, is_core}
use Rattle.gr_machine.specs.States.{Letter, Vector, Body, Core}
use Rattle.gr_machine.specs.Outcomes.{Outcome, quietly, followed}
use Rattle.gr_machine.specs.Histories.{Sent}
use Rattle.gr_machine.specs.Closes.{batch_sent, batches_sent, closes_as, closes, with_combiner}
use Rattle.gr_machine.specs.Enabled.{can, is_halted, is_other, is_idle}
use Rattle.gr_machine.specs.Events.{Packet, Transition, asks, still_waiting, slot_of, are_free, steps_to}
use Rattle.gr_machine.specs.Steppers.{CountedCore, kind_of, entry_step, went_on, stepper, stamped}
use Rattle.gr_machine.specs.Steppers as steppers
use Rattle.gr_machine.specs.GlobalRuns as runs
use Rattle.gr_machine.specs.Nets.{world_in}
use Rattle.gr_machine.proofs.Clocks.{some_same, some_then, entry_made}
use Rattle.gr_stands.specs.Worlds.{Given, machine_in, World, bodies, Acts, Moves}
use Rattle.gr_stands.specs.Stands.{IsSound}
use Rattle.gr_stands_calls.specs.Acting.{Keeps}
use Rattle.gr_stands.proofs.Worlds.{acted_bodies, moved_bodies}
use Rattle.gr_stands.proofs.Events.{found, ships_move, takes_move}
use Rattle.gr_stands.proofs.Memories.{words_moved}
use Rattle.gr_stands.proofs.Calls.{calls_moved}
use Rattle.gr_stands_chains.proofs.Senders.{senders_stay, senders_move}
use Rattle.gr_stands_changes.proofs.Units.{steals_are_asked}
use Rattle.gr_stands_closes.specs.Closing.{ActsInside}
use Rattle.gr_stands_closes.proofs.Closes.{calls_go_off}
use Rattle.gr_stands_events.specs.Laws.{WaitersAreCores}
use Rattle.gr_stands_outcomes.specs.Inner.{with_gifts, run_outcome, serve_outcome, first_of}
use Rattle.gr_stands_outcomes.specs.Laws.{IsOutcome, IsInner}
use Rattle.gr_stands_outcomes.proofs.Inner.{inner_events_are_outcomes}
use Rattle.gr_stands_steps.specs.Entries.{ActsWithMarks, StandsAmongCores, StepStands}
use Rattle.gr_stands_steps.specs.Telling.{PartsTell, SlotsFit}
use Rattle.gr_stands_steps.specs.Laws as laws
use Rattle.gr_stands_steps.proofs.Waiters.{runs_keep_waiters, serves_keep_waiters, closes_keep_waiters}
use Rattle.gr_stands_steps.proofs.Marks.{IsClosed, closed_entries, of_quiet, gifts_follow}
use Rattle.gr_stands_steps.proofs.Runs.{runs_act}
use Rattle.gr_stands_steps.proofs.Serves.{serves_act}

pub lower : (a b : ℕ) → nat_lt a b ≡ true → a < b
lower a b e = grind (arith, nat_tests, e)

-- ---- a Close

sent_marks : (machine : Machine) (object : ℕ) (batches : List Batch) (e : Outcome) → Each IsClosed e.marks → Each IsClosed (batches_sent machine object e batches).marks
sent_marks machine object [] e f = f
sent_marks machine object (batch ∷ batches) e f =
    sent_marks machine object batches (followed e (batch_sent machine e.body object batch)) (Each-append IsClosed e.marks (batch_sent machine e.body object batch).marks f (tt, tt))

closes_marks : (machine : Machine) (body : Body) (object : ℕ) (vector : Option Vector) → Each IsClosed (closes_as machine body object vector).marks
closes_marks machine body object None =
    sent_marks machine object (batches_of (body.batches.combiners object)) (quietly (with_combiner body object (rest_of (body.batches.combiners object)))) tt
closes_marks machine body object (Some vector) = tt

pub closes_act : laws.ClosesAct
closes_act given sent w S me object sound st tells here =
    let row : ActsInside given w S me [] (closes (machine_in given) (bodies w me) object) = calls_go_off given w S me object sound st here (tells.closes object) in
    record {
      sends = row.sends;
      next = S;
      leads = ap (after given.program given.setup.cores given.setup.steps S)
          (closed_entries sent me (closes (machine_in given) (bodies w me) object).marks (closes_marks (machine_in given) (bodies w me) object ((bodies w me).vectors.vectors object)));
      keeps = row.keeps;
    }

-- ---- an outcome

pub still_cores : (n : ℕ) (cores : List ℕ) (units : List WorkUnit) → Each (λ core. core < n) cores → Each (λ core. core < n) (still_waiting cores units)
still_cores n [] units f = tt
still_cores n (core ∷ cores) [] f = f
still_cores n (core ∷ cores) (unit ∷ units) f = still_cores n cores units f.1

-- The world stands after an outcome that keeps words and calls.
pub stands_after : (given : Given) (w v : World) (S T : State) (me : ℕ) (got : List Letter) (e : Outcome)
    → StandsAmongCores given w S → Acts given.setup.cores w v me got e → Keeps given w me got e T → WaitersAreCores given e.body → StandsAmongCores given v T
stands_after given w v S T me got e all acts keeps waiters =
    let both = keeps v acts in
    record {
      stands = record { words = both.1; calls = both.0 };
      senders = senders_stay given w v me got e acts all.senders;
      waiters = λ core. subst (λ (B : ℕ → Body). WaitersAreCores given (B core)) (sym (acted_bodies given.setup.cores w v me got e acts))
          (put_each (λ (i : ℕ) (b : Body). WaitersAreCores given b) (bodies w) me e.body core (λ q. waiters) (λ q. all.waiters core));
    }

outcome_stands : (given : Given) (sent : Sent) (before later : runs.World) (S : State) (me clock : ℕ) (got : List Letter) (e : Outcome)
    → StandsAmongCores given (world_in before) S → IsOutcome (machine_in given) before later me clock got e → ActsWithMarks given sent (world_in before) S me got e
    → WaitersAreCores given e.body → StepStands given before later me clock S sent
outcome_stands given sent before later S me clock got e all made row waiters = record {
  marks = e.marks;
  longer = made.marks;
  next = row.next;
  leads = row.leads;
  stands = stands_after given (world_in before) (world_in later) S row.next me got e all (made.acts row.sends) row.keeps waiters;
}

with_gifts_stands : (given : Given) (sent : Sent) (before later : runs.World) (S : State) (me clock : ℕ) (got : List Letter) (e : Outcome)
    → StandsAmongCores given (world_in before) S → IsOutcome (machine_in given) before later me clock got (with_gifts e) → ActsWithMarks given sent (world_in before) S me got e
    → WaitersAreCores given e.body → StepStands given before later me clock S sent
with_gifts_stands given sent before later S me clock got e all made row waiters =
    outcome_stands given sent before later S me clock got (with_gifts e) all made (gifts_follow given sent (world_in before) S me got e made.here waiters row)
    (still_cores given.setup.cores e.body.steals.waiting e.body.work.public waiters)

-- ---- a Ship or a Take

mapped_to : {X Y : Type 0} (f : X → Y) (o : Option X) (y : Y) → option_map f o ≡ Some y → (x : X) × (o ≡ Some x) × (f x ≡ y)
mapped_to f None y h = absurd (cc)
mapped_to f (Some x) y h = (x, refl, some_same h)

shipped_to : (o : Option steppers.Went) (x : steppers.Went × Packet) → shipping o ≡ Some x → o ≡ Some x.0
shipped_to None x h = absurd (cc)
shipped_to (Some went) x h =
    let m = mapped_to (λ (packet : Packet). (went, packet)) went.packet x h in
    ap (λ (y : steppers.Went × Packet). Some y.0) m.2

quiet_to : (o : Option steppers.Went) (x : steppers.Went) → quiet o ≡ Some x → o ≡ Some x
quiet_to None x h = absurd (cc)
quiet_to (Some went) x h = some_then (is_none went.packet) (Some went) x h

abbrev pub entry_of : ℕ → Event → List ℕ → Stamped
entry_of clock what slots = record { clock = clock; event = what; slots = slots }

-- Neither leaves a mark.
ship_marks : (machine : Machine) (me : ℕ) (before : CountedCore) (dest clock : ℕ) (slots : List ℕ) (went : steppers.Went)
    → entry_step machine me before (entry_of clock (event.Ship dest) slots) None ≡ Some went → went.marks ≡ []
ship_marks machine me before dest clock slots went h =
    let c = entry_made machine me before (entry_of clock (event.Ship dest) slots) None went h in
    ap (λ (x : steppers.Went). x.marks) (sym c.same)
    ∙ ap (λ (t : Transition). stamped t.core.clock t.marks) (sym (some_same (some_then (are_free before.core.body 0 slots) _ c.after c.steps)))

take_marks : (machine : Machine) (me : ℕ) (before : CountedCore) (from clock : ℕ) (slots : List ℕ) (packet : Packet) (went : steppers.Went)
    → entry_step machine me before (entry_of clock (event.Take from) slots) (Some packet) ≡ Some went → went.marks ≡ []
take_marks machine me before from clock slots packet went h =
    let c = entry_made machine me before (entry_of clock (event.Take from) slots) (Some packet) went h in
    ap (λ (x : steppers.Went). x.marks) (sym c.same) ∙ ap (stamped c.after.core.clock) (none slots c.after c.steps)
  where
    none : (some : List ℕ) (after : Transition) → steps_to machine me before.core (event.Take from) some (Some packet) ≡ Some after → after.marks ≡ []
    none [] after e = ap (λ (t : Transition). t.marks) (sym (some_same e))
    none (slot ∷ more) after e = absurd (cc)

module _ (given : Given) (before later : runs.World) (me clock : ℕ) (slots : List ℕ) where
  abbrev pub GoesBy : Event → Type 0
  GoesBy what = goes_at (stepper (machine_in given)) (kind_of what) me before (entry_of clock what slots) ≡ Some later

  pub ship_leaves : (dest : ℕ) → GoesBy (event.Ship dest) → later.marks ≡ before.marks ++ []
  ship_leaves dest h =
      let entry : Stamped = entry_of clock (event.Ship dest) slots in
      let m = mapped_to (λ (x : steppers.Went × Packet). world_with before me (put_pair before.transit me dest (before.transit me dest ++ x.1 ∷ [])) x.0)
      (ship_step (stepper (machine_in given)) me (before.states me) entry) later h in
      let made = shipped_to (entry_step (machine_in given) me (before.states me) entry None) m.0 m.1 in
      ap (λ (x : runs.World). x.marks) (sym m.2)
      ∙ ap (λ (ms : List StampedMark). before.marks ++ of_core me ms) (ship_marks (machine_in given) me (before.states me) dest clock slots m.0.0 made)

  pub take_leaves : (from : ℕ) → GoesBy (event.Take from) → later.marks ≡ before.marks ++ []
  take_leaves from h = has (before.transit from me) h
    where
      entry : Stamped
      entry = entry_of clock (event.Take from) slots

      has : (packets : List Packet)
          → with_first packets (λ packet rest. option_map (world_with before me (put_pair before.transit from me rest)) (take_step (stepper (machine_in given)) me (before.states me) entry packet)) ≡ Some later
          → later.marks ≡ before.marks ++ []
      has [] k = absurd (cc)
      has (packet ∷ packets) k =
          let m = mapped_to (world_with before me (put_pair before.transit from me packets)) (take_step (stepper (machine_in given)) me (before.states me) entry packet) later k in
          let made = quiet_to (entry_step (machine_in given) me (before.states me) entry (Some packet)) m.0 m.1 in
          ap (λ (x : runs.World). x.marks) (sym m.2)
          ∙ ap (λ (ms : List StampedMark). before.marks ++ of_core me ms) (take_marks (machine_in given) me (before.states me) from clock slots packet m.0 made)

pub steps_are_of_cores : laws.StepsAreOfCores
steps_are_of_cores given before later me entry h = by entry.event h
  where
    entry_here : (what : Event) (taken : Option Packet) (went : steppers.Went) → entry_step (machine_in given) me (before.states me) (entry_of entry.clock what entry.slots) taken ≡ Some went → me < given.setup.cores
    entry_here what taken went e = (found (machine_in given) me (before.states me) (entry_of entry.clock what entry.slots) taken went e).here

    inner_here : (what : Event) → kind_of what ≡ inner → goes_at (stepper (machine_in given)) inner me before (entry_of entry.clock what entry.slots) ≡ Some later → me < given.setup.cores
    inner_here what kind k = (inner_events_are_outcomes (machine_in given) before later me (entry_of entry.clock what entry.slots) kind k).made.here

    take_here : (from : ℕ) (packets : List Packet)
        → with_first packets (λ packet rest. option_map (world_with before me (put_pair before.transit from me rest)) (take_step (stepper (machine_in given)) me (before.states me) (entry_of entry.clock (event.Take from) entry.slots) packet)) ≡ Some later
        → me < given.setup.cores
    take_here from [] k = absurd (cc)
    take_here from (packet ∷ packets) k =
        let m = mapped_to (world_with before me (put_pair before.transit from me packets)) (take_step (stepper (machine_in given)) me (before.states me) (entry_of entry.clock (event.Take from) entry.slots) packet) later k in
        entry_here (event.Take from) (Some packet) m.0 (quiet_to (entry_step (machine_in given) me (before.states me) (entry_of entry.clock (event.Take from) entry.slots) (Some packet)) m.0 m.1)

    by : (what : Event) → GoesBy given before later me entry.clock entry.slots what → me < given.setup.cores
    by event.Run k = inner_here event.Run refl k
    by event.Serve k = inner_here event.Serve refl k
    by (event.Close object) k = inner_here (event.Close object) refl k
    by (event.Steal victim) k = inner_here (event.Steal victim) refl k
    by (event.Ship dest) k =
        let m = mapped_to (λ (x : steppers.Went × Packet). world_with before me (put_pair before.transit me dest (before.transit me dest ++ x.1 ∷ [])) x.0)
        (ship_step (stepper (machine_in given)) me (before.states me) (entry_of entry.clock (event.Ship dest) entry.slots)) later k in
        entry_here (event.Ship dest) None m.0.0 (shipped_to (entry_step (machine_in given) me (before.states me) (entry_of entry.clock (event.Ship dest) entry.slots) None) m.0 m.1)
    by (event.Take from) k = take_here from (before.transit from me) k

moved_stands : (given : Given) (sent : Sent) (before later : runs.World) (S : State) (me clock : ℕ)
    → StandsAmongCores given (world_in before) S → Moves given.setup.cores (world_in before) (world_in later) → later.marks ≡ before.marks ++ []
    → StepStands given before later me clock S sent
moved_stands given sent before later S me clock all moves marks = record {
  marks = [];
  longer = marks;
  next = S;
  leads = refl;
  stands = record {
    stands = record {
      words = words_moved (machine_in given) given.setup.cores (world_in before) (world_in later) S.objects moves all.stands.words;
      calls = calls_moved given (world_in before) (world_in later) S moves all.stands.calls;
    };
    senders = senders_move given (world_in before) (world_in later) moves all.senders;
    waiters = λ core. subst (λ (B : ℕ → Body). WaitersAreCores given (B core)) (sym (moved_bodies given.setup.cores (world_in before) (world_in later) moves)) (all.waiters core);
  };
}

-- ---- each event

module _ (given : Given) (sent : Sent) (before later : runs.World) (S : State) (me clock : ℕ) (slots : List ℕ) (sound : IsSound given)
    (all : StandsAmongCores given (world_in before) S) (tells : PartsTell given sent (world_in before) S me) (fit : SlotsFit given slots) where
  abbrev machine : Machine
  machine = machine_in given

  abbrev w : World
  w = world_in before

  abbrev core : Core
  core = (before.states me).core

  abbrev Goes : Event → Type 0
  Goes what = goes_at (stepper machine) (kind_of what) me before (entry_of clock what slots) ≡ Some later

  abbrev Done : Type 0
  Done = StepStands given before later me clock S sent

  run : Goes event.Run → Done
  run h =
      let i : IsInner machine before later me (entry_of clock event.Run slots) = inner_events_are_outcomes machine before later me (entry_of clock event.Run slots) refl h in
      let e : Outcome = run_outcome machine me (bodies w me) (slot_of slots) (bodies w me).tasks.ready in
      with_gifts_stands given sent before later S me clock [] e all i.made (runs_act given sent w S me slots sound all.stands tells i.made.here fit i.free)
      (runs_keep_waiters given me (slot_of slots) (bodies w me).tasks.ready (bodies w me) (all.waiters me))

  served_cores : (inbox : List Letter) → core.inbox ≡ inbox → me < given.setup.cores → WaitersAreCores given (serve_outcome machine me (bodies w me) inbox).body
  served_cores [] e here = all.waiters me
  served_cores (l ∷ ls) e here = serves_keep_waiters given me l.from l.message (bodies w me) (all.waiters me)
      (subst (Each (λ (x : Letter). x.from < given.setup.cores)) e (all.senders.inboxes me here)).0

  serve : Goes event.Serve → Done
  serve h =
      let i : IsInner machine before later me (entry_of clock event.Serve slots) = inner_events_are_outcomes machine before later me (entry_of clock event.Serve slots) refl h in
      with_gifts_stands given sent before later S me clock (first_of core.inbox) (serve_outcome machine me (bodies w me) core.inbox) all i.made
      (serves_act given sent w S me sound all tells i.made.here) (served_cores core.inbox refl i.made.here)

  close : (object : ℕ) → Goes (event.Close object) → Done
  close object h =
      let i : IsInner machine before later me (entry_of clock (event.Close object) slots) = inner_events_are_outcomes machine before later me (entry_of clock (event.Close object) slots) refl h in
      outcome_stands given sent before later S me clock [] (closes machine (bodies w me) object) all i.made (closes_act given sent w S me object sound all.stands tells i.made.here)
      (closes_keep_waiters given (bodies w me) object (all.waiters me))

  steal : (victim : ℕ) → Goes (event.Steal victim) → Done
  steal victim h =
      let i : IsInner machine before later me (entry_of clock (event.Steal victim) slots) = inner_events_are_outcomes machine before later me (entry_of clock (event.Steal victim) slots) refl h in
      let may = (and_parts (not (is_halted core) && nat_lt core.clock given.setup.events) (can machine me core (event.Steal victim)) i.enabled).1 in
      let other = (and_parts (is_other machine me victim && is_idle machine core) (not (core.body.steals.asked victim)) may).0 in
      let there = lower victim given.setup.cores (and_parts (not (victim == me)) (is_core machine victim) (and_parts (is_other machine me victim) (is_idle machine core) other).0).1 in
      outcome_stands given sent before later S me clock [] (asks victim (bodies w me)) all i.made
      (of_quiet given sent w S me [] (bodies w me) (Some (asks victim (bodies w me))) (steals_are_asked given w S me victim all.stands i.made.here there)) (all.waiters me)

  ship : (dest : ℕ) → Goes (event.Ship dest) → Done
  ship dest h = moved_stands given sent before later S me clock all (ships_move machine before later me dest clock slots h) (ship_leaves given before later me clock slots dest h)

  take : (from : ℕ) → Goes (event.Take from) → Done
  take from h = moved_stands given sent before later S me clock all (takes_move machine before later me from clock slots h) (take_leaves given before later me clock slots from h)

  step : (what : Event) → Goes what → Done
  step event.Run h = run h
  step event.Serve h = serve h
  step (event.Close object) h = close object h
  step (event.Steal victim) h = steal victim h
  step (event.Ship dest) h = ship dest h
  step (event.Take from) h = take from h

pub steps_stand : laws.StepsStand
steps_stand given sent before later S me entry sound all tells fit h = step given sent before later S me entry.clock entry.slots sound all tells fit entry.event h
