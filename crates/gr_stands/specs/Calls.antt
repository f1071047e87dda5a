-- Part 2 of 'stands for', calls: each unended task of the plain state is in one place, and a task that waits for a reply has its request or the reply in
-- flight once.
use Rattle.std.specs.Prelude.{◌≡◌, ℕ, ◌<◌, ◌≤◌, ◌==◌, ◌&&◌, if◌then◌else◌, true, List, [], length, Option, Some, None}
use Rattle.std.specs.FinMap as fin
use Rattle.gr_lang.specs.declared.action.Action.{Action}
use Rattle.gr_lang.specs.declared.action.Action.TheVariants as action
use Rattle.gr_lang.specs.declared.action.Op.{Op}
use Rattle.gr_lang.specs.declared.action.Op.TheVariants as op
use Rattle.gr_lang.specs.declared.action.Reply.{Reply}
use Rattle.gr_lang.specs.declared.action.TaskId.{TaskId}
use Rattle.gr_lang.specs.Effects.{reply}
use Rattle.gr_lang.specs.Objects.{address}
use Rattle.gr_lang.specs.States.{Mode, going, at_loop, trapped, Task, State}
use Rattle.gr_msg.specs.declared.message.Msg.{Msg}
use Rattle.gr_msg.specs.declared.message.Msg.TheVariants as msg
use Rattle.gr_msg.specs.declared.message.ScopeId.{ScopeId}
use Rattle.gr_msg.specs.declared.message.Unit.{Unit as WorkUnit}
use Rattle.gr_msg.specs.declared.message.Unit.TheVariants as unit
use Rattle.gr_net.specs.Sums.{weigh, Each}
use Rattle.gr_net.specs.Flights.{Everywhere}
use Rattle.gr_machine.specs.Machines.{Machine, home, has_task}
use Rattle.gr_machine.specs.declared.waits.Waits.{Waits}
use Rattle.gr_machine.specs.declared.waits.Waits.TheVariants as wait
use Rattle.gr_machine.specs.States.{Suspended, Body}
use Rattle.gr_machine.specs.Nets.{messages_in}
use Rattle.gr_machine.specs.Openings.{new_task}
use Rattle.gr_machine.specs.Slots.{goes_on}
use Rattle.gr_stands.specs.Worlds.{Given, machine_in, World, bodies, in_flight}
use Rattle.gr_stands.specs.Censuses.{is_task, is_unended, census}

-- A task in a slot, and in the plain state

-- How the plain state has a task that waits at a scope: at its loop, or at the end of a finish.
abbrev pub scope_mode : Action → Mode
scope_mode (action.Loop lo hi grain target args) = at_loop
scope_mode _ = going

abbrev pub mode_of : Waits → Action → Mode
mode_of wait.Nothing next = trapped
mode_of (wait.Scope scope) next = scope_mode next
mode_of _ next = going

-- The plain state has the task at the same action, in the same state.
pub record StandsAt (state : State) (task : Suspended) : Type 0 where
  pub plain : Task
  pub there : fin.get state.tasks task.id ≡ Some plain
  pub action : plain.action ≡ task.action
  pub running : plain.running ≡ task.running
  pub mode : plain.mode ≡ mode_of task.waits task.action

-- 1 for what a task in a slot may wait for.
abbrev pub is_going : Waits → ℕ
is_going wait.Going = 1
is_going _ = 0

abbrev pub is_asking : Waits → ℕ
is_asking wait.Reply = 1
is_asking _ = 0

-- A call of it may have been made in the plain state, of which a message tells.
abbrev pub is_told : Waits → ℕ
is_told wait.Reply = 1
is_told (wait.Batch batch) = 1
is_told _ = 0

abbrev pub of_slot : (Waits → ℕ) → Option Suspended → ℕ
of_slot weight None = 0
of_slot weight (Some task) = weight task.waits

-- How often a number is in a list.
abbrev pub times : ℕ → List ℕ → ℕ
times number numbers = weigh (λ one. if one == number then 1 else 0) numbers

-- A slot of a core with a task. The plain state has the task so, unless a message tells how.
pub record SlotFits (given : Given) (state : State) (core slot : ℕ) (task : Suspended) : Type 0 where
  pub here : core < given.setup.cores
  pub low : slot < given.slots
  pub counted : task.origin < given.setup.cores
  pub stands : is_told task.waits ≡ 0 → StandsAt state task

-- A unit that is one task of the program: the plain state has the task, which has done nothing.
pub record SingleFits (given : Given) (state : State) (target : ℕ) (args : List ℕ) (scope : ScopeId) (origin : ℕ) (id : TaskId) : Type 0 where
  pub known : has_task (machine_in given) target (length args) ≡ true
  pub counted : origin < given.setup.cores
  pub stands : StandsAt state (new_task id scope origin ((machine_in given).code.start target args))

abbrev pub UnitFits : Given → State → WorkUnit → Type 0
UnitFits given state (unit.Single target args scope origin id) = SingleFits given state target args scope origin id
UnitFits given state (unit.Chunk target args scope origin owner lo hi grain) = Unit

-- Requests and replies

-- 1 for a message that the task in a slot of a core waits for: its request, or the reply to that.
abbrev pub is_about : ℕ → ℕ → ℕ → ℕ → Msg → ℕ
is_about core slot from to (msg.Request number id operation x y z) = if from == core && number == slot then 1 else 0
is_about core slot from to (msg.Reply number id first second) = if to == core && number == slot then 1 else 0
is_about core slot from to _ = 0

-- A request to this core on the word of a place of an object: at its home, with its address, the number of the call and its words.
pub record AsksWord (machine : Machine) (to object place number first second : ℕ) (operation x y z : ℕ) : Type 0 where
  pub lies : address machine.code.objects object place ≡ Some x
  pub homed : to ≡ home machine x
  pub numbered : operation ≡ number
  pub first_is : y ≡ first
  pub second_is : z ≡ second

-- A request to core 0, with the number of the call and its word.
pub record AsksZero (to number word : ℕ) (operation x y z : ℕ) : Type 0 where
  pub homed : to ≡ 0
  pub numbered : operation ≡ number
  pub word_is : x ≡ word
  pub first_is : y ≡ 0
  pub second_is : z ≡ 0

-- The request of a call. Other calls aren't asked for by requests.
abbrev pub IsRequest : Machine → ℕ → Op → ℕ → ℕ → ℕ → ℕ → Type 0
IsRequest machine to (op.Read object place) operation x y z = AsksWord machine to object place 1 0 0 operation x y z
IsRequest machine to (op.Write object place word) operation x y z = AsksWord machine to object place 2 word 0 operation x y z
IsRequest machine to (op.Add object place word) operation x y z = AsksWord machine to object place 3 word 0 operation x y z
IsRequest machine to (op.Cas object place old new) operation x y z = AsksWord machine to object place 4 old new operation x y z
IsRequest machine to (op.Alloc count) operation x y z = AsksZero to 5 count operation x y z
IsRequest machine to (op.Free place) operation x y z = AsksZero to 6 place operation x y z
IsRequest machine to (op.Print word) operation x y z = AsksZero to 7 word operation x y z
IsRequest machine to _ operation x y z = ⊥

-- The task that a message is about: it stands in that slot of that core, has that name and waits for a reply.
pub record IsAskedBy (body : ℕ → Body) (core slot : ℕ) (id : TaskId) (task : Suspended) : Type 0 where
  pub there : (body core).tasks.slots slot ≡ Some task
  pub named : task.id ≡ id
  pub waits : task.waits ≡ wait.Reply

-- A request is in flight: the plain state has its task before the call, which is the task's next action.
pub record RequestFits (given : Given) (body : ℕ → Body) (state : State) (from to slot : ℕ) (id : TaskId) (operation x y z : ℕ) : Type 0 where
  pub sender : from < given.setup.cores
  pub task : Suspended
  pub asked : IsAskedBy body from slot id task
  pub call : Op
  pub next : task.action ≡ action.Call call
  pub request : IsRequest (machine_in given) to call operation x y z
  pub stands : StandsAt state task

-- A reply is in flight: the plain state has its task after the call.
pub record ReplyFits (given : Given) (body : ℕ → Body) (state : State) (to slot : ℕ) (id : TaskId) (first second : ℕ) : Type 0 where
  pub task : Suspended
  pub asked : IsAskedBy body to slot id task
  pub stands : StandsAt state (goes_on (machine_in given) task (reply first second))

abbrev pub MessageFits : Given → (ℕ → Body) → State → ℕ → ℕ → Msg → Type 0
MessageFits given body state from to (msg.Request slot id operation x y z) = RequestFits given body state from to slot id operation x y z
MessageFits given body state from to (msg.Reply slot id first second) = ReplyFits given body state to slot id first second
MessageFits given body state from to (msg.Spawn unit) = UnitFits given state unit
MessageFits given body state from to (msg.StealGive unit) = UnitFits given state unit
MessageFits given body state from to _ = Unit

-- The part

-- The tasks in slots and the units at each core; the slots that are ready are those whose task goes on, each once; and the names that a core gives next are
-- new.
pub record TasksStand (given : Given) (body : ℕ → Body) (state : State) : Type 0 where
  pub slots : (core slot : ℕ) (task : Suspended) → (body core).tasks.slots slot ≡ Some task → SlotFits given state core slot task
  pub private : (core : ℕ) → core < given.setup.cores → Each (UnitFits given state) (body core).work.private
  pub public : (core : ℕ) → core < given.setup.cores → Each (UnitFits given state) (body core).work.public
  pub ready : (core slot : ℕ) → times slot (body core).tasks.ready ≡ of_slot is_going ((body core).tasks.slots slot)
  pub fresh : (core number : ℕ) → (body core).tasks.next ≤ number → fin.get state.tasks (record { core = core; number = number }) ≡ None

-- All this holds of the bodies; each unended task is in one place; each message in flight fits; and each task that waits for a reply has its request or the
-- reply in flight, once.
pub record CallsStand (given : Given) (world : World) (state : State) : Type 0 where
  pub tasks : TasksStand given (bodies world) state
  pub once : (id : TaskId) → census (is_task id) given world ≡ is_unended (fin.get state.tasks id)
  pub messages : Everywhere messages_in (MessageFits given (bodies world) state) given.setup.cores world
  pub asked : (core slot : ℕ) → in_flight (is_about core slot) given.setup.cores world ≡ of_slot is_asking ((bodies world core).tasks.slots slot)
