-- Calls that wait on a vector: each is its task's next action, and each task that waits so has one.
use Rattle.std.specs.Prelude.{◌≡◌, ℕ, ◌<◌, ◌==◌, ◌&&◌, Bool, true, if◌then◌else◌, List, ◌∷◌, Option, Some, is_some}
use Rattle.gr_lang.specs.declared.action.Action.TheVariants as action
use Rattle.gr_lang.specs.declared.action.WaitingCall.{WaitingCall}
use Rattle.gr_vector.specs.Groups.{vector_of, group_of}
use Rattle.gr_vector.specs.Turns.{Turns}
use Rattle.gr_net.specs.Sums.{weigh, Each}
use Rattle.gr_machine.specs.declared.waits.Waits.{Waits}
use Rattle.gr_machine.specs.declared.waits.Waits.TheVariants as wait
use Rattle.gr_machine.specs.States.{Suspended, Vector, Turn, Body}
use Rattle.gr_machine.specs.Machines.{Machine, numbered_home, thing}
use Rattle.gr_machine.specs.Openings.{is_vector}
use Rattle.gr_stands.specs.Worlds.{Given, machine_in, World, bodies}
use Rattle.gr_stands.specs.Calls.{of_slot}
use Rattle.gr_lines.specs.Lines.{vector_in, tasks_on}

-- A call of the vector: its task stands in its slot, waits for this, and makes this call next.
pub record IsWaiting (tasks : ℕ → Option Suspended) (number : ℕ) (reason : Waits) (call : WaitingCall) : Type 0 where
  pub task : Suspended
  pub there : tasks call.slot ≡ Some task
  pub waits : task.waits ≡ reason
  pub named : task.id ≡ call.id
  pub due : task.action ≡ action.Call call.op
  pub of : vector_of call.op ≡ Some number

-- How many of some calls have this slot.
abbrev pub calls_in : ℕ → List WaitingCall → ℕ
calls_in slot calls = weigh (λ call. if call.slot == slot then 1 else 0) calls

-- 1 for a task that waits for calls to go off, and for one that waits for a turn.
abbrev pub is_closing : Waits → ℕ
is_closing (wait.Close object) = 1
is_closing _ = 0

abbrev pub is_turning : Waits → ℕ
is_turning (wait.Turn vector) = 1
is_turning _ = 0

-- Some calls that were combined into one group.
pub record IsGroup (group : List WaitingCall) : Type 0 where
  pub calls : List WaitingCall
  pub made : group ≡ group_of calls

-- The calls of the combiner and of the groups are those of the tasks that wait for that, each once; and a turn is that of the oldest group.
pub record CallsWait (number : ℕ) (vector : Vector) (tasks : ℕ → Option Suspended) : Type 0 where
  pub combined : Each (IsWaiting tasks number (wait.Close number)) vector.combiner
  pub grouped : Each (Each (IsWaiting tasks number (wait.Turn number))) vector.groups
  pub made : Each IsGroup vector.groups
  pub closing : (slot : ℕ) → calls_in slot vector.combiner ≡ of_slot is_closing (tasks slot)
  pub turning : (slot : ℕ) → weigh (calls_in slot) vector.groups ≡ of_slot is_turning (tasks slot)
  pub oldest : (turn : Turn) → vector.turn ≡ Some turn → (more : List (List WaitingCall)) × (vector.groups ≡ turn.calls ∷ more)

-- Whether the turns of a vector are kept at this core.
abbrev pub is_kept_at : Machine → ℕ → ℕ → Bool
is_kept_at machine core number = is_vector (thing machine number) && numbered_home machine number == core

-- A core has each vector, and the turns of those of which it keeps them, which cores that there are asked for; and of each vector the calls wait rightly.
pub record HasLines (given : Given) (core : ℕ) (body : Body) : Type 0 where
  pub vectors : (number : ℕ) → is_some (body.vectors.vectors number) ≡ is_vector (thing (machine_in given) number)
  pub masters : (number : ℕ) → is_some (body.vectors.masters number) ≡ is_kept_at (machine_in given) core number
  pub askers : (number : ℕ) (turns : Turns) → body.vectors.masters number ≡ Some turns → Each (λ asker. asker < given.setup.cores) turns.cores
  pub calls : (number : ℕ) → is_vector (thing (machine_in given) number) ≡ true → CallsWait number (vector_in (body.vectors.vectors number)) (tasks_on number body)

-- So it is at each core.
abbrev pub LinesStand : Given → World → Type 0
LinesStand given world = (core : ℕ) → HasLines given core (bodies world core)
