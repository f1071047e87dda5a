-- What comes of the events of single calls, of ends and of traps, in a world that stands for a plain state.
use Rattle.std.specs.Prelude.{◌≡◌, ℕ, ◌<◌, List, [], ◌∷◌, Option, Some}
use Rattle.gr_lang.specs.declared.action.Entry.{Entry}
use Rattle.gr_lang.specs.declared.action.TaskId.{TaskId}
use Rattle.gr_lang.specs.States.{State}
use Rattle.gr_lang.specs.Steps.{step}
use Rattle.gr_msg.specs.declared.message.Msg.{Msg}
use Rattle.gr_net.specs.Sums.{Each}
use Rattle.gr_net.specs.Worlds.{Without}
use Rattle.gr_machine.specs.States.{Letter, Suspended, Body}
use Rattle.gr_machine.specs.Outcomes.{Outcome, marked}
use Rattle.gr_stands.specs.Worlds.{Given, machine_in, Core, World, bodies, Acts}
use Rattle.gr_stands.specs.Memory.{WordsStand}
use Rattle.gr_stands.specs.Calls.{CallsStand}

-- The first ready slot of a core, the slots that are ready after it, and its task.
pub record IsFirst (world : World) (me slot : ℕ) (more : List ℕ) (task : Suspended) : Type 0 where
  pub ready : (bodies world me).tasks.ready ≡ slot ∷ more
  pub there : (bodies world me).tasks.slots slot ≡ Some task

-- A message as a letter.
abbrev pub letter : ℕ → Msg → Letter
letter from message = record { from = from; message = message }

-- The message is the first in the inbox of this core.
pub record IsFirstLetter (given : Given) (world : World) (me from : ℕ) (message : Msg) : Type 0 where
  pub here : me < given.setup.cores
  pub core : Core
  pub without : Without world me core (letter from message ∷ [])

-- The outcome at the core, which has taken up these letters, keeps the parts of words and of calls; from then on they are those of this plain state.
abbrev pub Keeps : Given → World → ℕ → List Letter → Outcome → State → Type 0
Keeps given world me got outcome after =
    (next : World) → Acts given.setup.cores world next me got outcome → CallsStand given next after × WordsStand (machine_in given) (bodies next) after.objects

-- What is made acts; it sends to cores that there are, leaves no mark, and the world stands for the same plain state.
pub record ActsQuietly (given : Given) (world : World) (state : State) (me : ℕ) (got : List Letter) (made : Option Outcome) : Type 0 where
  pub outcome : Outcome
  pub acts : made ≡ Some outcome
  pub sends : Each (λ send. send.to < given.setup.cores) outcome.sends
  pub marks : outcome.marks ≡ []
  pub keeps : Keeps given world me got outcome state

-- What is made acts; it sends to cores that there are, and its mark is an entry that leads to the plain state for which the world stands then.
pub record ActsWithEntry (given : Given) (world : World) (state : State) (me : ℕ) (got : List Letter) (made : Option Outcome) : Type 0 where
  pub outcome : Outcome
  pub acts : made ≡ Some outcome
  pub sends : Each (λ send. send.to < given.setup.cores) outcome.sends
  pub entry : Entry
  pub marks : outcome.marks ≡ marked entry
  pub after : State
  pub leads : step given.program given.setup.cores given.setup.steps state entry ≡ Some after
  pub keeps : Keeps given world me got outcome after
