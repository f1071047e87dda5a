-- What the events of a world act on is there.
use Rattle.std.specs.Prelude.{◌≡◌, ◌⊎◌, ℕ, ◌<◌, true, List, ◌∷◌, Some, is_some}
use Rattle.gr_lang.specs.declared.action.Entry.TheVariants as entry
use Rattle.gr_msg.specs.declared.message.Msg.{Msg}
use Rattle.gr_msg.specs.declared.message.Msg.TheVariants as msg
use Rattle.gr_msg.specs.declared.message.Unit.{Unit as WorkUnit}
use Rattle.gr_net.specs.Sums.{Each}
use Rattle.gr_machine.specs.declared.waits.Waits.TheVariants as wait
use Rattle.gr_machine.specs.States.{Suspended, Turn, Vector, Body}
use Rattle.gr_machine.specs.Outcomes.{Outcome, marked}
use Rattle.gr_machine.specs.Runs.{acts, without_ready, first_unit, without_unit, run_unit}
use Rattle.gr_machine.specs.Serves.{serves}
use Rattle.gr_stands.specs.Worlds.{Given, machine_in, World, bodies}
use Rattle.gr_stands_calls.specs.Acting.{IsFirstLetter}
use Rattle.gr_stands_enrols.specs.Enrolling.{EnrolTells}
use Rattle.gr_batches.specs.Batches.{IsCaller}
use Rattle.gr_lines_tokens.specs.Granting.{IsMade}

-- The task of each call of a turn of this vector stands in its slot, waits for the turn and makes that call next.
abbrev pub TurnFinds : ℕ → Body → Type 0
TurnFinds number body =
    (vector : Vector) (turn : Turn) → body.vectors.vectors number ≡ Some vector → vector.turn ≡ Some turn → Each (IsCaller body (wait.Turn number)) turn.calls

-- The tasks on which a message acts one after another, where it leaves the core with this body: those that wait to make new ones do so next; and where a turn
-- ends in the same event, those of its calls are there.
abbrev pub TasksFound : Given → World → ℕ → Body → Msg → Type 0
TasksFound given world core after (msg.EnrolAck scope) = EnrolTells given world core scope
TasksFound given world core after (msg.Grant vector head tail) = TurnFinds vector after
TasksFound given world core after (msg.ElemAck vector position got) = TurnFinds vector after
TasksFound given world core after _ = Unit

-- The message finds what it acts on: something is made of it, and the tasks on which it acts are there.
pub record MessageFinds (given : Given) (world : World) (core from : ℕ) (message : Msg) : Type 0 where
  pub outcome : Outcome
  pub acts : serves (machine_in given) core (bodies world core) from message ≡ Some outcome
  pub tasks : TasksFound given world core outcome.body message

-- A task stands in its slot after this outcome, or it has ended, which is marked.
abbrev pub StaysOrEnds : ℕ → Suspended → Outcome → Type 0
StaysOrEnds slot task outcome = (is_some (outcome.body.tasks.slots slot) ≡ true) ⊎ (outcome.marks ≡ marked (entry.End task.id))

-- The ready slot finds its task, whose action doesn't drop it.
pub record ReadyFinds (given : Given) (world : World) (core slot : ℕ) : Type 0 where
  pub task : Suspended
  pub there : (bodies world core).tasks.slots slot ≡ Some task
  pub stays : StaysOrEnds slot task (acts (machine_in given) core (without_ready (bodies world core)) slot task task.action)

-- Whatever comes first at a core finds what it acts on: the first message of the inbox, the first unit, whichever slot it takes, and the first ready slot.
pub record FindsAll (given : Given) (world : World) : Type 0 where
  pub messages : (core from : ℕ) (message : Msg) → IsFirstLetter given world core from message → MessageFinds given world core from message
  pub units : (core slot : ℕ) (work : WorkUnit) → core < given.setup.cores → first_unit (bodies world core) ≡ Some work
      → IsMade (run_unit (machine_in given) core (without_unit (bodies world core)) slot (first_unit (bodies world core)))
  pub ready : (core slot : ℕ) (more : List ℕ) → core < given.setup.cores → (bodies world core).tasks.ready ≡ slot ∷ more → ReadyFinds given world core slot
