-- What a Run, a Close and the end of a turn tell of their core's stops.
use Rattle.std.proofs.Common.{◌≡◌, ◌==◌, inl, ℕ, List, [], ◌∷◌, ◌∙◌, refl}
use Rattle.std.specs.Prelude.{Option, Some, None}
use Rattle.gr_lang.specs.declared.action.Action.{Action}
use Rattle.gr_lang.specs.declared.action.Entry.TheVariants as entry
use Rattle.gr_lang.specs.declared.action.How.{How}
use Rattle.gr_lang.specs.declared.action.How.TheVariants as how
use Rattle.gr_lang.specs.declared.action.Reply.{Reply}
use Rattle.gr_lang.specs.declared.action.WaitingCall.{WaitingCall}
use Rattle.gr_msg.specs.declared.message.Msg.{Msg}
use Rattle.gr_msg.specs.declared.message.Msg.TheVariants as msg
use Rattle.gr_msg.specs.declared.message.Unit.{Unit as WorkUnit}
use Rattle.gr_msg.specs.declared.message.Unit.TheVariants as unit
use Rattle.gr_batch.specs.declared.combiner.Batch.{Batch}
use Rattle.gr_batch.specs.declared.wakes.Woken.{Woken}
use Rattle.gr_batch.specs.Batches.{batches_of, rest_of}
use Rattle.gr_vector.specs.Groups.{group_of}
use Rattle.gr_machine.specs.declared.waits.Waits.{Waits}
use Rattle.gr_machine.specs.declared.waits.Waits.TheVariants as wait
use Rattle.gr_machine.specs.Machines.{Machine}
use Rattle.gr_machine.specs.States.{Suspended, Turn, Vector, Stops, Body}
use Rattle.gr_machine.specs.Outcomes.{Outcome, marked, quietly, followed}
use Rattle.gr_machine.specs.Slots.{rewaiting, rewaiting_task, resumed, resumed_task, resumed_all, own_id}
use Rattle.gr_machine.specs.Spawns.{placed, planted, made_in, new_single, with_count}
use Rattle.gr_machine.specs.Closes.{batch_sent, batches_sent, closes_as, with_combiner}
use Rattle.gr_machine.specs.TurnServes.{with_vector, turn_replies, wakes, call_marks, settled_turn, settled_vector}
use Rattle.gr_machine.specs.Runs.{acts, run_slot, run_unit, is_sound, taken_up, begins}
use Rattle.gr_machine.specs.Serves.{settles}
use Rattle.gr_machine.proofs.ActionFacts.{choice, acts_fact}
use Rattle.gr_stands_stops.specs.Stops.{stops_after}
use Rattle.gr_stands_stops.proofs.Marks.{Row, Made, told_calm, told_same, told_then}

-- ---- tasks that wake, or wait for something else

pub one_stops : (machine : Machine) (body : Body) (slot : ℕ) (reply : Reply) (o : Option Suspended)
    → (resumed_task machine body slot reply o).stops ≡ body.stops
one_stops machine body slot reply None = refl
one_stops machine body slot reply (Some task) = refl

pub resumed_stops : (machine : Machine) (woken : List Woken) (body : Body) → (resumed_all machine body woken).stops ≡ body.stops
resumed_stops machine [] body = refl
resumed_stops machine (wake ∷ woken) body =
    resumed_stops machine woken (resumed machine body wake.slot wake.reply) ∙ one_stops machine body wake.slot wake.reply (body.tasks.slots wake.slot)

rewaiting_stops : (reason : Waits) (calls : List WaitingCall) (body : Body) → (rewaiting body reason calls).stops ≡ body.stops
rewaiting_stops reason [] body = refl
rewaiting_stops reason (call ∷ calls) body =
    rewaiting_stops reason calls (rewaiting_task body call.slot reason (body.tasks.slots call.slot)) ∙ by (body.tasks.slots call.slot)
  where
    by : (o : Option Suspended) → (rewaiting_task body call.slot reason o).stops ≡ body.stops
    by None = refl
    by (Some task) = refl

calls_say_nothing : (s : Stops) (answers : List (WaitingCall × Reply)) → stops_after s (call_marks answers) ≡ s
calls_say_nothing s [] = refl
calls_say_nothing s (answer ∷ answers) = calls_say_nothing s answers

module _ (Passes : Type 0) where
  -- ---- a ready task

  placed_tell : (me : ℕ) (body : Body) (way : How) (work : WorkUnit) → Row Passes body (placed me body way work)
  placed_tell me body how.Here work = told_calm Passes body.stops [] refl
  placed_tell me body (how.At core) work =
      choice (Row Passes body) (core == me) _ _ (told_calm Passes body.stops [] refl) (told_calm Passes body.stops [] refl)
  placed_tell me body how.Offer work = told_calm Passes body.stops [] refl

  pub planted_tell : (machine : Machine) (me : ℕ) (body : Body) (slot : ℕ) (task : Suspended) (way : How) (target : ℕ) (args : List ℕ)
      → Row Passes body (planted machine me body slot task way target args)
  planted_tell machine me body slot task way target args =
      let unit_placed : Outcome = placed me (made_in machine me body slot task) way (new_single me body task target args) in
      let made = marked (entry.Spawn task.id way target args (own_id me body)) in
      told_then Passes body.stops body.stops unit_placed.body.stops made unit_placed.marks (told_calm Passes body.stops made refl)
      (placed_tell me (made_in machine me body slot task) way (new_single me body task target args))

  pub acts_tell : (machine : Machine) (me : ℕ) (body : Body) (slot : ℕ) (task : Suspended) (what : Action)
      → Row Passes body (acts machine me body slot task what)
  acts_tell machine me body slot task = acts_fact (Row Passes body) machine me body slot task (record {
    is_dropped = told_calm Passes body.stops _ refl;
    is_asked = λ core operation x y z. told_calm Passes body.stops _ refl;
    is_joined = λ call object key. told_calm Passes body.stops _ refl;
    joins_vector = λ call object vector. told_calm Passes body.stops _ refl;
    is_trapped = λ kind. record { follows = refl; passes = λ h. inl h };
    is_planted = λ way target args count. planted_tell machine me (with_count body _ count) slot task way target args;
    asks = λ count. told_calm Passes body.stops _ refl;
    waits = λ count. told_calm Passes body.stops _ refl;
    finish = λ scope. told_calm Passes body.stops _ refl;
    loop_in = λ lo hi grain target args scope. told_calm Passes body.stops _ refl;
    loop_over_nothing = λ lo hi grain target args. told_calm Passes body.stops _ refl;
    early = λ scope. told_calm Passes body.stops _ refl;
    early_left = λ scope. told_calm Passes body.stops _ refl;
    last = λ scope. told_calm Passes body.stops _ refl;
    end = told_calm Passes body.stops _ refl;
  })

  pub slot_tells : (machine : Machine) (me : ℕ) (body : Body) (slot : ℕ) (task : Option Suspended) → Made Passes body (run_slot machine me body slot task)
  slot_tells machine me body slot None = tt
  slot_tells machine me body slot (Some task) = acts_tell machine me body slot task task.action

  -- ---- a unit

  taken_tell : (machine : Machine) (me : ℕ) (body : Body) (slot : ℕ) (work : WorkUnit) → Row Passes body (taken_up machine me body slot work)
  taken_tell machine me body slot (unit.Single target args scope origin id) = told_calm Passes body.stops _ refl
  taken_tell machine me body slot (unit.Chunk target args scope origin owner lo hi grain) =
      choice (Row Passes body) _ _ (begins machine me body slot target args scope origin owner lo hi grain) (told_calm Passes body.stops _ refl)
      (told_same Passes body.stops _ _ (choice (λ (b : Body). b.stops ≡ body.stops) _ _ _ refl refl) refl)

  pub unit_tells : (machine : Machine) (me : ℕ) (body : Body) (slot : ℕ) (work : Option WorkUnit) → Made Passes body (run_unit machine me body slot work)
  unit_tells machine me body slot None = tt
  unit_tells machine me body slot (Some work) = choice (Made Passes body) (is_sound machine work) _ _ (taken_tell machine me body slot work) tt

  -- ---- the end of a turn

  turn_tells : (machine : Machine) (body : Body) (number : ℕ) (vector : Vector) (turn : Option Turn)
      → Made Passes body (settled_turn machine body number vector turn)
  turn_tells machine body number vector None = tt
  turn_tells machine body number vector (Some turn) = choice (Made Passes body) (turn.left == 0) _ _
      (told_same Passes body.stops _ (call_marks (turn_replies turn)) (resumed_stops machine (wakes (turn_replies turn)) (with_vector body number _))
      (calls_say_nothing body.stops (turn_replies turn))) tt

  vector_tells : (machine : Machine) (body : Body) (number : ℕ) (vector : Option Vector) → Made Passes body (settled_vector machine body number vector)
  vector_tells machine body number None = tt
  vector_tells machine body number (Some vector) = turn_tells machine body number vector vector.turn

  pub settles_tell : (machine : Machine) (body : Body) (message : Msg) → Made Passes body (settles machine body message)
  settles_tell machine body (msg.Grant vector head tail) = vector_tells machine body vector (body.vectors.vectors vector)
  settles_tell machine body (msg.ElemAck vector position got) = vector_tells machine body vector (body.vectors.vectors vector)
  settles_tell machine body _ = tt

  -- ---- a Close

  sent_tell : (machine : Machine) (object : ℕ) (batches : List Batch) (body : Body) (e : Outcome)
      → Row Passes body e → Row Passes body (batches_sent machine object e batches)
  sent_tell machine object [] body e told = told
  sent_tell machine object (batch ∷ batches) body e told =
      let next : Outcome = batch_sent machine e.body object batch in
      sent_tell machine object batches body (followed e next)
      (told_then Passes body.stops e.body.stops next.body.stops e.marks next.marks told
      (told_same Passes e.body.stops next.body.stops next.marks (rewaiting_stops (wait.Batch e.body.batches.next) batch.calls e.body) refl))

  pub closes_tell : (machine : Machine) (body : Body) (object : ℕ) (vector : Option Vector) → Row Passes body (closes_as machine body object vector)
  closes_tell machine body object None =
      sent_tell machine object (batches_of (body.batches.combiners object)) body (quietly (with_combiner body object (rest_of (body.batches.combiners object))))
      (told_calm Passes body.stops [] refl)
  closes_tell machine body object (Some vector) =
      told_same Passes body.stops _ [] (rewaiting_stops (wait.Turn object) (group_of vector.combiner) (with_vector body object _)) refl
