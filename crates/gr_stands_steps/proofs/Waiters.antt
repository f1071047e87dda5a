-- The cores that wait for units are cores that there are.
use Rattle.std.proofs.Common.{◌≡◌, ◌<◌, ◌==◌, ℕ, List, [], ◌∷◌, sym, ◌∙◌, subst, refl}
use Rattle.std.specs.Prelude.{Option, Some, None}
use Rattle.gr_lang.specs.declared.action.Action.{Action}
use Rattle.gr_lang.specs.declared.action.Action.TheVariants as action
use Rattle.gr_lang.specs.declared.action.How.{How}
use Rattle.gr_lang.specs.declared.action.How.TheVariants as how
use Rattle.gr_msg.specs.declared.message.Msg.{Msg}
use Rattle.gr_msg.specs.declared.message.Msg.TheVariants as msg
use Rattle.gr_msg.specs.declared.message.ScopeId.{ScopeId}
use Rattle.gr_msg.specs.declared.message.Unit.{Unit as WorkUnit}
use Rattle.gr_msg.specs.declared.message.Unit.TheVariants as unit
use Rattle.gr_event.specs.declared.counts.LocalLeft.{LocalLeft}
use Rattle.gr_event.specs.declared.counts.LocalLeft.TheVariants as rest
use Rattle.gr_batch.specs.declared.wakes.Woken.{Woken}
use Rattle.gr_lang.specs.declared.action.WaitingCall.{WaitingCall}
use Rattle.gr_batch.specs.declared.combiner.Batch.{Batch}
use Rattle.gr_batch.specs.Batches.{batches_of, rest_of}
use Rattle.gr_vector.specs.Groups.{group_of}
use Rattle.gr_batch.specs.Folding.{wakes_of}
use Rattle.gr_net.specs.Sums.{Each}
use Rattle.gr_net.proofs.Spreads.{Each-append}
use Rattle.gr_machine.specs.Machines.{Machine}
use Rattle.gr_machine.specs.States.{Suspended, Turn, Vector, Steals, Body}
use Rattle.gr_machine.specs.Outcomes.{Outcome, quietly, followed}
use Rattle.gr_machine.specs.declared.waits.Waits.{Waits}
use Rattle.gr_machine.specs.declared.waits.Waits.TheVariants as wait
use Rattle.gr_machine.specs.Closes.{batch_sent, batches_sent, closes_as, with_combiner}
use Rattle.gr_machine.specs.Slots.{rewaiting, rewaiting_task, resumed, resumed_task, resumed_all}
use Rattle.gr_machine.specs.Spawns.{placed, planted, made_in, new_single, with_count}
use Rattle.gr_machine.specs.ScopeServes.{planted_by, planted_in, planted_all, completed_to}
use Rattle.gr_machine.specs.TurnServes.{with_vector, turn_replies, wakes, settled_turn, settled_vector}
use Rattle.gr_machine.specs.Requests.{allocated}
use Rattle.gr_machine.specs.BatchServes.{without_batch}
use Rattle.gr_machine.specs.Runs.{acts, run_slot, run_unit, first_unit, without_unit, without_ready, is_sound, taken_up, begins}
use Rattle.gr_machine.specs.Serves.{serves, settles}
use Rattle.gr_machine.proofs.ActionFacts.{choice, acts_fact}
use Rattle.gr_machine.proofs.ServeFacts.{serves_fact}
use Rattle.gr_stands.specs.Worlds.{machine_in}
use Rattle.gr_stands_outcomes.specs.Inner.{outcome_of, run_outcome}
use Rattle.gr_stands_steps.specs.Laws as laws

-- ---- a ready task

placed_steals : (me : ℕ) (body : Body) (way : How) (work : WorkUnit) → (placed me body way work).body.steals ≡ body.steals
placed_steals me body how.Here work = refl
placed_steals me body (how.At core) work = choice (λ (e : Outcome). e.body.steals ≡ body.steals) (core == me) _ _ refl refl
placed_steals me body how.Offer work = refl

planted_steals : (machine : Machine) (me : ℕ) (body : Body) (slot : ℕ) (task : Suspended) (way : How) (target : ℕ) (args : List ℕ) → (planted machine me body slot task way target args).body.steals ≡ body.steals
planted_steals machine me body slot task way target args = placed_steals me (made_in machine me body slot task) way (new_single me body task target args)

acts_steals : (machine : Machine) (me : ℕ) (body : Body) (slot : ℕ) (task : Suspended) (what : Action) → (acts machine me body slot task what).body.steals ≡ body.steals
acts_steals machine me body slot task = acts_fact (λ (e : Outcome). e.body.steals ≡ body.steals) machine me body slot task (record {
  is_dropped = refl;
  is_asked = λ core operation x y z. refl;
  is_joined = λ call object key. refl;
  joins_vector = λ call object vector. refl;
  is_trapped = λ kind. refl;
  is_planted = λ way target args count. planted_steals machine me (with_count body _ count) slot task way target args;
  asks = λ count. refl;
  waits = λ count. refl;
  finish = λ scope. refl;
  loop_in = λ lo hi grain target args scope. refl;
  loop_over_nothing = λ lo hi grain target args. refl;
  early = λ scope. refl;
  early_left = λ scope. refl;
  last = λ scope. refl;
  end = refl;
})

-- ---- a unit

taken_steals : (machine : Machine) (me : ℕ) (body : Body) (slot : ℕ) (work : WorkUnit) → (taken_up machine me body slot work).body.steals ≡ body.steals
taken_steals machine me body slot (unit.Single target args scope origin id) = refl
taken_steals machine me body slot (unit.Chunk target args scope origin owner lo hi grain) =
    choice (λ (e : Outcome). e.body.steals ≡ body.steals) _ _ (begins machine me body slot target args scope origin owner lo hi grain) refl
    (choice (λ (b : Body). b.steals ≡ body.steals) _ _ _ refl refl)

unit_steals : (machine : Machine) (me : ℕ) (body : Body) (slot : ℕ) (work : Option WorkUnit) → (outcome_of body (run_unit machine me body slot work)).body.steals ≡ body.steals
unit_steals machine me body slot None = refl
unit_steals machine me body slot (Some work) =
    choice (λ (o : Option Outcome). (outcome_of body o).body.steals ≡ body.steals) (is_sound machine work) _ _ (taken_steals machine me body slot work) refl

slot_steals : (machine : Machine) (me : ℕ) (body : Body) (slot : ℕ) (task : Option Suspended) → (outcome_of body (run_slot machine me body slot task)).body.steals ≡ body.steals
slot_steals machine me body slot None = refl
slot_steals machine me body slot (Some task) = acts_steals machine me body slot task task.action

run_steals : (machine : Machine) (me : ℕ) (body : Body) (slot : ℕ) (ready : List ℕ) → (run_outcome machine me body slot ready).body.steals ≡ body.steals
run_steals machine me body slot [] = unit_steals machine me (without_unit body) slot (first_unit body)
run_steals machine me body slot (first ∷ more) = slot_steals machine me (without_ready body) first (body.tasks.slots first)

pub runs_keep_waiters : laws.RunsKeepWaiters
runs_keep_waiters given me slot ready body waiters =
    subst (λ (s : Steals). Each (λ core. core < given.setup.cores) s.waiting) (sym (run_steals (machine_in given) me body slot ready)) waiters

-- ---- a message

resumed_steals : (machine : Machine) (wakes : List Woken) (body : Body) → (resumed_all machine body wakes).steals ≡ body.steals
resumed_steals machine [] body = refl
resumed_steals machine (wake ∷ wakes) body = resumed_steals machine wakes (resumed machine body wake.slot wake.reply) ∙ by (body.tasks.slots wake.slot)
  where
    by : (o : Option Suspended) → (resumed_task machine body wake.slot wake.reply o).steals ≡ body.steals
    by None = refl
    by (Some task) = refl

one_steals : (machine : Machine) (body : Body) (slot : ℕ) (reply : _) (o : Option Suspended) → (resumed_task machine body slot reply o).steals ≡ body.steals
one_steals machine body slot reply None = refl
one_steals machine body slot reply (Some task) = refl

by_steals : (machine : Machine) (me : ℕ) (body : Body) (slot : ℕ) (task : Suspended) (what : Action) → (planted_by machine me body slot task what).body.steals ≡ body.steals
by_steals machine me body slot task (action.Spawn way target args) = planted_steals machine me body slot task way target args
by_steals machine me body slot task _ = refl

in_steals : (machine : Machine) (me : ℕ) (body : Body) (slot : ℕ) (o : Option Suspended) → (planted_in machine me body slot o).body.steals ≡ body.steals
in_steals machine me body slot None = refl
in_steals machine me body slot (Some task) = by_steals machine me body slot task task.action

planted_all_steals : (machine : Machine) (me : ℕ) (slots : List ℕ) (e : Outcome) → (planted_all machine me e slots).body.steals ≡ e.body.steals
planted_all_steals machine me [] e = refl
planted_all_steals machine me (slot ∷ slots) e =
    planted_all_steals machine me slots _ ∙ in_steals machine me e.body slot (e.body.tasks.slots slot)

completed_steals : (body : Body) (scope : ScopeId) (left : LocalLeft) → (completed_to body scope left).body.steals ≡ body.steals
completed_steals body scope rest.More = refl
completed_steals body scope rest.Zero = refl

allocated_steals : (body : Body) (from slot : ℕ) (id : _) (count : ℕ) (start : Option ℕ) → (allocated body from slot id count start).body.steals ≡ body.steals
allocated_steals body from slot id count None = refl
allocated_steals body from slot id count (Some start) = refl

module _ (n : ℕ) (machine : Machine) (me from : ℕ) (body : Body) (waiters : Each (λ core. core < n) body.steals.waiting) (l : from < n) where
  abbrev AreCores : Option Outcome → Type 0
  AreCores o = Each (λ core. core < n) (outcome_of body o).body.steals.waiting

  same : (e : Outcome) → e.body.steals ≡ body.steals → AreCores (Some e)
  same e q = subst (λ (s : Steals). Each (λ core. core < n) s.waiting) (sym q) waiters

  serves_cores : (message : Msg) → AreCores (serves machine me body from message)
  serves_cores = serves_fact AreCores machine me body from (record {
    is_nothing = waiters;
    is_word = λ slot id at call word. waiters;
    is_allocated = λ slot id count start. same (allocated body from slot id count start) (allocated_steals body from slot id count start);
    is_freed = λ slot id at. waiters;
    is_printed = λ slot id word. waiters;
    is_replied = λ slot answer. same (quietly (resumed machine body slot answer)) (one_steals machine body slot answer (body.tasks.slots slot));
    is_spawned = λ work. waiters;
    is_enrolled = λ scope master. waiters;
    is_acked = λ scope count slots. same (planted_all machine me (quietly (with_count body scope count)) slots) (planted_all_steals machine me slots (quietly (with_count body scope count)));
    is_completed = λ scope count more. same (completed_to (with_count body scope count) scope more) (completed_steals (with_count body scope count) scope more);
    is_left = λ scope. waiters;
    is_passed = λ scope slot task. waiters;
    is_over = λ scope. waiters;
    is_waiting = Each-append (λ (core : ℕ). core < n) body.steals.waiting (from ∷ []) waiters (l, tt);
    is_given = λ work. choice AreCores (body.steals.asked from) _ _ waiters waiters;
    is_folded = λ at what batch word. waiters;
    is_applied = λ object key what batch before. waiters;
    is_woken = λ batch before calls. same (quietly (without_batch (resumed_all machine body (wakes_of calls before)) batch)) (resumed_steals machine (wakes_of calls before) body);
    turn_is_asked = λ vector turns. waiters;
    turn_is_ended = λ vector turns. waiters;
    turn_is_begun = λ number vector calls head tail plan. waiters;
    is_put = λ number position word vector. waiters;
    is_got = λ number position word vector. waiters;
    put_is_answered = λ number position vector turn. waiters;
    get_is_answered = λ number position word vector turn. waiters;
  })

-- ---- the end of a turn

finished_steals : (machine : Machine) (body : Body) (number : ℕ) (vector : Vector) (turn : Turn) → (outcome_of body (settled_turn machine body number vector (Some turn))).body.steals ≡ body.steals
finished_steals machine body number vector turn = choice (λ (o : Option Outcome). (outcome_of body o).body.steals ≡ body.steals) (turn.left == 0) _ _
    (resumed_steals machine (wakes (turn_replies turn)) (with_vector body number _)) refl

of_turn_steals : (machine : Machine) (body : Body) (number : ℕ) (vector : Vector) (turn : Option Turn) → (outcome_of body (settled_turn machine body number vector turn)).body.steals ≡ body.steals
of_turn_steals machine body number vector None = refl
of_turn_steals machine body number vector (Some turn) = finished_steals machine body number vector turn

vector_steals : (machine : Machine) (body : Body) (number : ℕ) (vector : Option Vector) → (outcome_of body (settled_vector machine body number vector)).body.steals ≡ body.steals
vector_steals machine body number None = refl
vector_steals machine body number (Some vector) = of_turn_steals machine body number vector vector.turn

settles_steals : (machine : Machine) (body : Body) (message : Msg) → (outcome_of body (settles machine body message)).body.steals ≡ body.steals
settles_steals machine body (msg.Grant vector head tail) = vector_steals machine body vector (body.vectors.vectors vector)
settles_steals machine body (msg.ElemAck vector position got) = vector_steals machine body vector (body.vectors.vectors vector)
settles_steals machine body _ = refl

pub messages_keep_waiters : laws.MessagesKeepWaiters
messages_keep_waiters given me from message body waiters l = serves_cores given.setup.cores (machine_in given) me from body waiters l message

pub serves_keep_waiters : laws.ServesKeepWaiters
serves_keep_waiters given me from message body waiters l =
    let first = outcome_of body (serves (machine_in given) me body from message) in
    subst (λ (s : Steals). Each (λ core. core < given.setup.cores) s.waiting) (sym (settles_steals (machine_in given) first.body message))
    (serves_cores given.setup.cores (machine_in given) me from body waiters l message)

-- ---- a Close

rewaiting_steals : (reason : Waits) (calls : List WaitingCall) (body : Body) → (rewaiting body reason calls).steals ≡ body.steals
rewaiting_steals reason [] body = refl
rewaiting_steals reason (call ∷ calls) body = rewaiting_steals reason calls (rewaiting_task body call.slot reason (body.tasks.slots call.slot)) ∙ by (body.tasks.slots call.slot)
  where
    by : (o : Option Suspended) → (rewaiting_task body call.slot reason o).steals ≡ body.steals
    by None = refl
    by (Some task) = refl

sent_steals : (machine : Machine) (object : ℕ) (batches : List Batch) (e : Outcome) → (batches_sent machine object e batches).body.steals ≡ e.body.steals
sent_steals machine object [] e = refl
sent_steals machine object (batch ∷ batches) e =
    sent_steals machine object batches (followed e (batch_sent machine e.body object batch)) ∙ rewaiting_steals (wait.Batch e.body.batches.next) batch.calls e.body

closes_steals : (machine : Machine) (body : Body) (object : ℕ) (vector : Option Vector) → (closes_as machine body object vector).body.steals ≡ body.steals
closes_steals machine body object None = sent_steals machine object (batches_of (body.batches.combiners object)) (quietly (with_combiner body object (rest_of (body.batches.combiners object))))
closes_steals machine body object (Some vector) = rewaiting_steals (wait.Turn object) (group_of vector.combiner) (with_vector body object _)

pub closes_keep_waiters : laws.ClosesKeepWaiters
closes_keep_waiters given body object waiters =
    subst (λ (s : Steals). Each (λ core. core < given.setup.cores) s.waiting) (sym (closes_steals (machine_in given) body object (body.vectors.vectors object))) waiters
