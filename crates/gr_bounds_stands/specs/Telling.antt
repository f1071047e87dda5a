-- What bounds tell the other parts, in a run of fewer than 2^63 steps.
use Rattle.std.specs.Prelude.{◌≡◌, ℕ, ◌+◌, ◌*◌, ◌<◌, ◌^◌, true, nat_lt, unwrap_or, Some}
use Rattle.std.specs.FinMap as fin
use Rattle.gr_lang.specs.declared.action.Action.TheVariants as action
use Rattle.gr_lang.specs.declared.action.Op.{Op}
use Rattle.gr_lang.specs.declared.action.TaskId.{TaskId}
use Rattle.gr_lang.specs.States.{Task, State}
use Rattle.gr_msg.specs.declared.message.ScopeId.{ScopeId}
use Rattle.gr_msg.specs.declared.message.Msg.{Msg}
use Rattle.gr_msg.specs.declared.message.Msg.TheVariants as msg
use Rattle.gr_event.specs.Counts.{active_count}
use Rattle.gr_event.specs.declared.masters.Master.{Master}
use Rattle.gr_net.specs.Flights.{Everywhere}
use Rattle.gr_machine.specs.States.{Suspended}
use Rattle.gr_machine.specs.Nets.{messages_in}
use Rattle.gr_stands.specs.Worlds.{Given, World, bodies}
use Rattle.gr_stands.specs.Calls.{is_told}
use Rattle.gr_bounds_counts.specs.Counts.{LoopFits}

-- A Complete tells of as many ends as fit a word.
abbrev pub EndsFit : Msg → Type 0
EndsFit (msg.Complete scope tasks) = tasks < 2 ^ 64
EndsFit _ = Unit

-- The counts of a scope are low enough for one more, and so are its active cores; a Complete in flight has a word; and so have the numbers that a core gives next.
pub record BoundsTell (given : Given) (world : World) : Type 0 where
  pub counts : (core : ℕ) (scope : ScopeId) → nat_lt (unwrap_or (active_count ((bodies world core).scopes.counts scope)) 0) (2 ^ 127) ≡ true
  pub active : (core : ℕ) (scope : ScopeId) (master : Master) → (bodies world core).scopes.masters scope ≡ Some master → nat_lt master.active (2 ^ 63) ≡ true
  pub ends : Everywhere messages_in (λ from to message. EndsFit message) given.setup.cores world
  pub tasks : (core : ℕ) → core < given.setup.cores → (bodies world core).tasks.next < 2 ^ 64
  pub batches : (core : ℕ) → core < given.setup.cores → (bodies world core).batches.next < 2 ^ 64
  pub scopes : (core : ℕ) → core < given.setup.cores → (bodies world core).scopes.next < 2 ^ 64

-- The cores' clocks allow fewer than 2^63 steps.
abbrev pub HasFewSteps : Given → Type 0
HasFewSteps given = given.setup.cores * given.setup.events + 1 < 2 ^ 63

-- A fact of the part of what fits, of a plain state: each loop to which a task comes next has at most as many indices as there are words.
abbrev pub PlainLoopsFit : State → Type 0
PlainLoopsFit state = (id : TaskId) (task : Task) → fin.get state.tasks id ≡ Some task → LoopFits (2 ^ 64) task.action

-- A fact of the part of scopes: a task of whose call a message may tell makes a call next.
pub record MakesCall (task : Suspended) : Type 0 where
  pub call : Op
  pub due : task.action ≡ action.Call call

abbrev pub AskersCall : World → Type 0
AskersCall world = (core slot : ℕ) (task : Suspended) → (bodies world core).tasks.slots slot ≡ Some task → is_told task.waits ≡ 1 → MakesCall task
