-- Part 5 of 'stands for', batches: each call that waits to be combined, or is under way in a batch, is its task's next action; and a batch that is under way
-- has either one Batch in flight, with the effect of its calls, whose tasks the plain state has before them, or one BatchReply, with what stood there before,
-- whose tasks it has after them.
use Rattle.std.specs.Prelude.{◌≡◌, ℕ, ◌<◌, ◌≤◌, ◌==◌, ◌&&◌, ◌||◌, not, if◌then◌else◌, true, List, length, Option, Some, None, is_some}
use Rattle.std.specs.List.{list_any}
use Rattle.gr_lang.specs.declared.action.Action.TheVariants as action
use Rattle.gr_lang.specs.declared.action.Effect.{Effect}
use Rattle.gr_lang.specs.declared.action.WaitingCall.{WaitingCall}
use Rattle.gr_lang.specs.States.{State}
use Rattle.gr_msg.specs.declared.message.Msg.{Msg}
use Rattle.gr_msg.specs.declared.message.Msg.TheVariants as msg
use Rattle.gr_batch.specs.Folding.{folded, wakes_of}
use Rattle.gr_batch.specs.declared.combiner.Held.{Held}
use Rattle.gr_batch.specs.declared.wakes.Woken.{Woken}
use Rattle.gr_net.specs.Sums.{weigh, Each}
use Rattle.gr_net.specs.Flights.{Everywhere}
use Rattle.gr_machine.specs.Machines.{Machine, thing}
use Rattle.gr_machine.specs.declared.waits.Waits.{Waits}
use Rattle.gr_machine.specs.declared.waits.Waits.TheVariants as wait
use Rattle.gr_machine.specs.States.{Suspended, Body}
use Rattle.gr_machine.specs.Slots.{goes_on}
use Rattle.gr_machine.specs.BatchServes.{is_reduce}
use Rattle.gr_machine.specs.Closes.{batch_home}
use Rattle.gr_machine.specs.Histories.{Sent}
use Rattle.gr_machine.specs.Nets.{messages_in}
use Rattle.gr_stands.specs.Worlds.{Given, machine_in, World, bodies, in_flight}
use Rattle.gr_stands.specs.Calls.{StandsAt, of_slot}
use Rattle.gr_batches.specs.Keys.{IsOn}

-- Tasks and their calls

-- 1 for a task that waits for the calls on this object to go off, and for one that waits for the replies to this batch.
abbrev pub is_closing : ℕ → Waits → ℕ
is_closing object (wait.Close other) = if other == object then 1 else 0
is_closing object _ = 0

abbrev pub is_flying : ℕ → Waits → ℕ
is_flying batch (wait.Batch other) = if other == batch then 1 else 0
is_flying batch _ = 0

-- The task of a call: it stands in the call's slot, has this name, waits for this, and the call is its next action.
pub record IsCaller (body : Body) (reason : Waits) (call : WaitingCall) : Type 0 where
  pub task : Suspended
  pub there : body.tasks.slots call.slot ≡ Some task
  pub named : task.id ≡ call.id
  pub waits : task.waits ≡ reason
  pub next : task.action ≡ action.Call call.op

-- How many of some calls are those of the task in a slot.
abbrev pub is_at : ℕ → WaitingCall → ℕ
is_at slot call = if call.slot == slot then 1 else 0

abbrev pub held_at : ℕ → List Held → ℕ
held_at slot held = weigh (λ one. is_at slot one.call) held

abbrev pub flying_at : ℕ → Option (List WaitingCall) → ℕ
flying_at slot None = 0
flying_at slot (Some calls) = weigh (is_at slot) calls

-- A core

-- A call that is held is on its object and under its key, and its task waits until it goes off.
pub record IsHeld (machine : Machine) (body : Body) (object : ℕ) (one : Held) : Type 0 where
  pub on : IsOn machine object one.key one.call.op
  pub caller : IsCaller body (wait.Close object) one.call

-- Each task that waits for the calls on the object to go off has one call there.
pub record CombinerStands (machine : Machine) (body : Body) (object : ℕ) : Type 0 where
  pub held : Each (IsHeld machine body object) (body.batches.combiners object)
  pub each : (slot : ℕ) → held_at slot (body.batches.combiners object) ≡ of_slot (is_closing object) (body.tasks.slots slot)

-- The calls of a core, by object, where they are no vector's, and by batch; and the batches that come next aren't under way.
pub record CoreStands (machine : Machine) (body : Body) : Type 0 where
  pub combiners : (object : ℕ) → body.vectors.vectors object ≡ None → CombinerStands machine body object
  pub callers : (batch : ℕ) (calls : List WaitingCall) → body.batches.flying batch ≡ Some calls → Each (IsCaller body (wait.Batch batch)) calls
  pub each : (batch slot : ℕ) → flying_at slot (body.batches.flying batch) ≡ of_slot (is_flying batch) (body.tasks.slots slot)
  pub fresh : (batch : ℕ) → body.batches.next ≤ batch → body.batches.flying batch ≡ None

-- Messages

-- The plain state has the task of a call before it; and the task of a slot after its call, with this reply.
abbrev pub StandsBefore : State → Body → WaitingCall → Type 0
StandsBefore state body call = (task : Suspended) → body.tasks.slots call.slot ≡ Some task → StandsAt state task

abbrev pub StandsAfter : Machine → State → Body → Woken → Type 0
StandsAfter machine state body wake = (task : Suspended) → body.tasks.slots wake.slot ≡ Some task → StandsAt state (goes_on machine task wake.reply)

-- 1 for a message of a batch of a core: its Batch, or the BatchReply to that.
abbrev pub is_mail : ℕ → ℕ → ℕ → ℕ → Msg → ℕ
is_mail core batch from to (msg.Batch object key what number) = if from == core && number == batch then 1 else 0
is_mail core batch from to (msg.BatchReply number before) = if to == core && number == batch then 1 else 0
is_mail core batch from to _ = 0

abbrev pub is_under_way : Option (List WaitingCall) → ℕ
is_under_way None = 0
is_under_way (Some calls) = 1

-- A Batch is in flight to its key's home: it has the effect of its calls, which all are under the key, and the plain state has their tasks before them.
pub record BatchStands (given : Given) (body : ℕ → Body) (state : State) (from to object key : ℕ) (what : Effect) (batch : ℕ) : Type 0 where
  pub sender : from < given.setup.cores
  pub homed : to ≡ batch_home (machine_in given) (thing (machine_in given) object) key
  pub calls : List WaitingCall
  pub there : (body from).batches.flying batch ≡ Some calls
  pub some : 0 < length calls
  pub on : Each (λ call. IsOn (machine_in given) object key call.op) calls
  pub folds : folded calls ≡ Some what
  pub before : Each (StandsBefore state (body from)) calls

-- A BatchReply is in flight: the plain state has the tasks of the batch's calls after these, made one after another on what stood there before; a word did,
-- where one of them is a reduce.
pub record ReplyStands (given : Given) (body : ℕ → Body) (state : State) (to batch : ℕ) (before : Option ℕ) : Type 0 where
  pub calls : List WaitingCall
  pub there : (body to).batches.flying batch ≡ Some calls
  pub word : (is_some before || not (list_any (λ call. is_reduce call.op) calls)) ≡ true
  pub after : Each (StandsAfter (machine_in given) state (body to)) (wakes_of calls before)

abbrev pub MessageStands : Given → (ℕ → Body) → State → ℕ → ℕ → Msg → Type 0
MessageStands given body state from to (msg.Batch object key what batch) = BatchStands given body state from to object key what batch
MessageStands given body state from to (msg.BatchReply batch before) = ReplyStands given body state to batch before
MessageStands given body state from to _ = Unit

-- The part

-- All this holds of the cores and of the messages; each batch that is under way has its Batch or BatchReply in flight, once, and no other has one; and it is
-- known, of those that have gone off so far, which calls it has.
pub record BatchesStand (given : Given) (sent : Sent) (world : World) (state : State) : Type 0 where
  pub cores : (core : ℕ) → CoreStands (machine_in given) (bodies world core)
  pub messages : Everywhere messages_in (MessageStands given (bodies world) state) given.setup.cores world
  pub mail : (core batch : ℕ) → in_flight (is_mail core batch) given.setup.cores world ≡ is_under_way ((bodies world core).batches.flying batch)
  pub noted : (core batch : ℕ) (calls : List WaitingCall) → (bodies world core).batches.flying batch ≡ Some calls → sent core batch ≡ calls
