-- What part 2 of 'stands for' asks of an outcome at a core.
use Rattle.std.specs.Prelude.{◌≡◌, ℕ, ◌+◌, ◌<◌, ◌≤◌, false, List, Option, Some, None}
use Rattle.std.specs.FinMap as fin
use Rattle.gr_lang.specs.declared.action.TaskId.{TaskId}
use Rattle.gr_lang.specs.States.{Task, State}
use Rattle.gr_view.specs.Places.{put}
use Rattle.gr_msg.specs.declared.message.Msg.{Msg}
use Rattle.gr_msg.specs.declared.message.Msg.TheVariants as msg
use Rattle.gr_msg.specs.declared.message.Unit.{Unit as WorkUnit}
use Rattle.gr_msg.specs.declared.message.Unit.TheVariants as unit
use Rattle.gr_net.specs.Sums.{Each}
use Rattle.gr_net.specs.Flights.{Everywhere}
use Rattle.gr_machine.specs.declared.waits.Waits.{Waits}
use Rattle.gr_machine.specs.declared.waits.Waits.TheVariants as wait
use Rattle.gr_machine.specs.States.{Letter, Suspended, Body}
use Rattle.gr_machine.specs.Outcomes.{Outcome}
use Rattle.gr_machine.specs.Nets.{messages_in}
use Rattle.gr_machine.specs.Slots.{same_id}
use Rattle.gr_stands.specs.Worlds.{Given, World, bodies, in_flight, of_letters, of_sends, Acts}
use Rattle.gr_stands.specs.Censuses.{is_task, is_unended, body_census, carried}
use Rattle.gr_stands.specs.Calls.{is_going, is_asking, of_slot, times, is_about, SlotFits, UnitFits, MessageFits, CallsStand}

-- Not this slot of this core.
abbrev pub Apart : (core slot one other : ℕ) → Type 0
Apart core slot one other = (one ≡ core) × (other ≡ slot) → ⊥

-- At most one slot has another task than before, and it has this.
pub record SlotChange (before after : ℕ → Body) (core slot : ℕ) (held : Option Suspended) : Type 0 where
  pub here : (after core).tasks.slots slot ≡ held
  pub other : (one number : ℕ) → Apart core slot one number → (after one).tasks.slots number ≡ (before one).tasks.slots number

-- A task that is none of some.
abbrev pub IsOther : List TaskId → TaskId → Type 0
IsOther some id = Each (λ one. same_id id one ≡ false) some

abbrev pub IsOtherUnit : List TaskId → WorkUnit → Type 0
IsOtherUnit some (unit.Single target args scope origin id) = IsOther some id
IsOtherUnit some (unit.Chunk target args scope origin owner lo hi grain) = Unit

abbrev pub IsOtherIn : List TaskId → Msg → Type 0
IsOtherIn some (msg.Spawn unit) = IsOtherUnit some unit
IsOtherIn some (msg.StealGive unit) = IsOtherUnit some unit
IsOtherIn some _ = Unit

abbrev pub in_batch : Waits → ℕ
in_batch (wait.Batch batch) = 1
in_batch _ = 0

-- All tasks in slots but one, and all in units, are none of some; of those that wait for a batch nothing is said.
pub record AreElsewhere (given : Given) (world : World) (core slot : ℕ) (some : List TaskId) : Type 0 where
  pub slots : (one number : ℕ) (task : Suspended) → Apart core slot one number → (bodies world one).tasks.slots number ≡ Some task
      → in_batch task.waits ≡ 0 → IsOther some task.id
  pub private : (one : ℕ) → one < given.setup.cores → Each (IsOtherUnit some) (bodies world one).work.private
  pub public : (one : ℕ) → one < given.setup.cores → Each (IsOtherUnit some) (bodies world one).work.public
  pub messages : Everywhere messages_in (λ from to message. IsOtherIn some message) given.setup.cores world

-- The outcome changes at most one slot, and the plain state at most the tasks of these names, which are in that slot or wait for a batch.
pub record CallsAct (given : Given) (world : World) (me : ℕ) (got : List Letter) (outcome : Outcome) (before after : State) (core slot : ℕ)
    (held : Option Suspended) (changed : List TaskId) : Type 0 where
  pub change : SlotChange (bodies world) (put (bodies world) me outcome.body) core slot held
  pub kept : (id : TaskId) (task : Task) → IsOther changed id → fin.get before.tasks id ≡ Some task → fin.get after.tasks id ≡ Some task
  pub elsewhere : AreElsewhere given world core slot changed
  -- what is in the slot, the units of the core and what is sent fit
  pub new : (task : Suspended) → held ≡ Some task → SlotFits given after core slot task
  pub private : Each (UnitFits given after) outcome.body.work.private
  pub public : Each (UnitFits given after) outcome.body.work.public
  pub sends : Each (λ send. MessageFits given (put (bodies world) me outcome.body) after me send.to send.message) outcome.sends
  pub ready : (one number : ℕ) → times number (put (bodies world) me outcome.body one).tasks.ready
      ≡ of_slot is_going ((put (bodies world) me outcome.body one).tasks.slots number)
  pub fresh : (one number : ℕ) → (put (bodies world) me outcome.body one).tasks.next ≤ number
      → fin.get after.tasks (record { core = one; number = number }) ≡ None
  -- a task that comes is new, and one that goes has ended
  pub once : (id : TaskId)
      → is_unended (fin.get after.tasks id) + (body_census (is_task id) given.slots (bodies world me) + of_letters (carried (is_task id).of_unit) me got)
      ≡ is_unended (fin.get before.tasks id) + (body_census (is_task id) given.slots outcome.body + of_sends (carried (is_task id).of_unit) me outcome.sends)
  -- what was in flight about the slot is taken up, what the slot waits for is sent, and nothing else about any slot is but in the place of what is taken up
  pub quiet : in_flight (is_about core slot) given.setup.cores world ≡ of_letters (is_about core slot) me got
  pub asked : of_sends (is_about core slot) me outcome.sends ≡ of_slot is_asking held
  pub others : (one number : ℕ) → Apart core slot one number
      → of_sends (is_about one number) me outcome.sends ≡ of_letters (is_about one number) me got

-- Such an outcome keeps part 2.
abbrev pub CallsAreKept : Type 0
CallsAreKept =
    (given : Given) (world next : World) (me : ℕ) (got : List Letter) (outcome : Outcome) (before after : State) (core slot : ℕ)
    (held : Option Suspended) (changed : List TaskId)
    → Acts given.setup.cores world next me got outcome → CallsAct given world me got outcome before after core slot held changed
    → CallsStand given world before → CallsStand given next after
