-- The laws of single calls, of ends and of traps: each acts, its mark is legal, and the parts of words and of calls are kept.
use Rattle.std.specs.Prelude.{◌≡◌, ℕ, ◌<◌, List, [], ◌∷◌, Some}
use Rattle.gr_lang.specs.declared.action.Action.TheVariants as action
use Rattle.gr_lang.specs.declared.action.Op.{Op}
use Rattle.gr_lang.specs.declared.action.TaskId.{TaskId}
use Rattle.gr_lang.specs.declared.action.TrapKind.{TrapKind}
use Rattle.gr_lang.specs.Effects.{reply}
use Rattle.gr_lang.specs.States.{State}
use Rattle.gr_msg.specs.declared.message.Msg.TheVariants as msg
use Rattle.gr_machine.specs.declared.waits.Waits.{Waits}
use Rattle.gr_machine.specs.Outcomes.{Outcome}
use Rattle.gr_machine.specs.States.{Suspended}
use Rattle.gr_machine.specs.Runs.{acts, without_ready}
use Rattle.gr_machine.specs.Requests.{requested, replied}
use Rattle.gr_stands.specs.Worlds.{Given, machine_in, World, bodies}
use Rattle.gr_stands.specs.Calls.{IsRequest}
use Rattle.gr_stands.specs.Stands.{IsSound, Stands}
use Rattle.gr_machine.specs.States.{Letter}
use Rattle.gr_machine.specs.Events.{gives}
use Rattle.gr_machine.specs.ScopeServes.{spawned}
use Rattle.gr_msg.specs.declared.message.Unit.{Unit as WorkUnit}
use Rattle.gr_stands_calls.specs.Rests.{WaitsElsewhere}
use Rattle.gr_stands_calls.specs.Stays.{TasksStay}
use Rattle.gr_stands_calls.specs.Acting.{IsFirst, letter, IsFirstLetter, Keeps, ActsQuietly, ActsWithEntry}

-- Run: a ready task whose next action is a call that is asked for by a request sends the request to the call's home, and waits.
abbrev pub CallsAreAsked : Type 0
CallsAreAsked =
    (given : Given) (world : World) (state : State) (me slot : ℕ) (more : List ℕ) (task : Suspended) (call : Op) (to operation x y z : ℕ)
    → IsSound given → Stands given world state → me < given.setup.cores → IsFirst world me slot more task
    → task.action ≡ action.Call call → IsRequest (machine_in given) to call operation x y z
    → ActsQuietly given world state me [] (Some (acts (machine_in given) me (without_ready (bodies world me)) slot task task.action))

-- Serve: a request is made as a call of the plain state, a print as well, and its reply is sent.
abbrev pub RequestsAreMade : Type 0
RequestsAreMade =
    (given : Given) (world : World) (state : State) (me from slot : ℕ) (id : TaskId) (operation x y z : ℕ)
    → IsSound given → Stands given world state → IsFirstLetter given world me from (msg.Request slot id operation x y z)
    → ActsWithEntry given world state me (letter from (msg.Request slot id operation x y z) ∷ [])
    (requested (machine_in given) me (bodies world me) from slot id operation x y z)

-- Serve: a reply is taken by the task that waits for it, which goes on as in the plain state.
abbrev pub RepliesAreTaken : Type 0
RepliesAreTaken =
    (given : Given) (world : World) (state : State) (me from slot : ℕ) (id : TaskId) (first second : ℕ)
    → IsSound given → Stands given world state → IsFirstLetter given world me from (msg.Reply slot id first second)
    → ActsQuietly given world state me (letter from (msg.Reply slot id first second) ∷ []) (replied (machine_in given) (bodies world me) slot id (reply first second))

-- Run: a ready task at the end of its body ends.
abbrev pub TasksEnd : Type 0
TasksEnd =
    (given : Given) (world : World) (state : State) (me slot : ℕ) (more : List ℕ) (task : Suspended)
    → IsSound given → Stands given world state → me < given.setup.cores → IsFirst world me slot more task → task.action ≡ action.End
    → ActsWithEntry given world state me [] (Some (acts (machine_in given) me (without_ready (bodies world me)) slot task task.action))

-- Run: a ready task whose next action is a trap is trapped.
abbrev pub TasksAreTrapped : Type 0
TasksAreTrapped =
    (given : Given) (world : World) (state : State) (me slot : ℕ) (more : List ℕ) (task : Suspended) (kind : TrapKind)
    → IsSound given → Stands given world state → me < given.setup.cores → IsFirst world me slot more task → task.action ≡ action.Trap kind
    → ActsWithEntry given world state me [] (Some (acts (machine_in given) me (without_ready (bodies world me)) slot task task.action))

-- Run: a ready task waits for a close, an enrolment or the end of a scope.
abbrev pub WaitsAreKept : Type 0
WaitsAreKept =
    (given : Given) (world : World) (state : State) (me slot : ℕ) (more : List ℕ) (task : Suspended) (outcome : Outcome) (reason : Waits)
    → Stands given world state → me < given.setup.cores → IsFirst world me slot more task → WaitsElsewhere (bodies world me) slot task reason outcome
    → Keeps given world me [] outcome state

-- An outcome that leaves the tasks in slots and the words: units may come, go, or be given away.
abbrev pub TasksStayPut : Type 0
TasksStayPut =
    (given : Given) (world : World) (state : State) (me : ℕ) (got : List Letter) (outcome : Outcome)
    → Stands given world state → me < given.setup.cores → TasksStay given world state me got outcome → Keeps given world me got outcome state

-- Serve: a unit comes.
abbrev pub UnitsCome : Type 0
UnitsCome =
    (given : Given) (world : World) (state : State) (me from : ℕ) (unit : WorkUnit)
    → Stands given world state → IsFirstLetter given world me from (msg.Spawn unit)
    → Keeps given world me (letter from (msg.Spawn unit) ∷ []) (spawned (bodies world me) unit) state

-- Units are given to the cores that wait, at the end of each Run and Serve.
abbrev pub UnitsAreGiven : Type 0
UnitsAreGiven =
    (given : Given) (world : World) (state : State) (me : ℕ)
    → Stands given world state → me < given.setup.cores → Keeps given world me [] (gives (bodies world me)) state
