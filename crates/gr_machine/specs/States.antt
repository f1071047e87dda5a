-- The state of a core, by parts. Each part is a function where things have numbers, and has nothing where nothing is.
use Rattle.std.specs.Prelude.{ℕ, Bool, List, Option}
use Rattle.std.specs.Ordering.{nat_cmp}
use Rattle.std.specs.FinMap as map
use Rattle.gr_lang.specs.declared.action.Action.{Action}
use Rattle.gr_lang.specs.declared.action.TaskId.{TaskId}
use Rattle.gr_lang.specs.declared.action.WaitingCall.{WaitingCall}
use Rattle.gr_lang.specs.Next.{Running}
use Rattle.gr_msg.specs.declared.message.ScopeId.{ScopeId}
use Rattle.gr_msg.specs.declared.message.Msg.{Msg}
use Rattle.gr_event.specs.declared.counts.LocalCount.{LocalCount}
use Rattle.gr_event.specs.declared.masters.Master.{Master}
use Rattle.gr_work.specs.Queues.{Queues}
use Rattle.gr_batch.specs.declared.combiner.Held.{Held}
use Rattle.gr_vector.specs.declared.ends.Ends.{Ends}
use Rattle.gr_vector.specs.Turns.{Turns}
use Rattle.gr_machine.specs.declared.waits.Waits.{Waits}
use Rattle.gr_net.specs.Messages as net

-- A task in a slot: its scope, the core that counts its end, its next action and the state in which that stands, what it waits for, and the scopes that it
-- has opened and not passed, the innermost first.
pub record Suspended : Type 0 where
  pub id : TaskId
  pub scope : ScopeId
  pub origin : ℕ
  pub action : Action
  pub running : Running
  pub waits : Waits
  pub opened : List ScopeId

-- The tasks in slots, the slots that are ready, in order, and the number of the next task that is made here.
pub record Tasks : Type 0 where
  pub slots : ℕ → Option Suspended
  pub ready : List ℕ
  pub next : ℕ

-- What this core counts of each scope, the masters of the scopes whose home it is, and the number of the next scope that is opened here.
pub record Scopes : Type 0 where
  pub counts : ScopeId → Option LocalCount
  pub masters : ScopeId → Option Master
  pub next : ℕ

-- The words whose home this core is, by place; what stands under the keys of each set and map whose home it is; and at core 0 the live blocks of the heap.
pub record Words : Type 0 where
  pub segment : ℕ → Option ℕ
  pub shards : ℕ → ℕ → Option ℕ
  pub blocks : map.FinMap nat_cmp ℕ

-- The calls that wait to be combined, by object; the batches that are under way, by number, and the number of the next.
pub record Batches : Type 0 where
  pub combiners : ℕ → List Held
  pub flying : ℕ → Option (List WaitingCall)
  pub next : ℕ

-- A turn that this core has: its calls; where the vector's words stood when it was granted; the positions at which a word is still to be put, those from
-- which one is still to be got, and how many these are together; and the words that were got, by position.
pub record Turn : Type 0 where
  pub calls : List WaitingCall
  pub ends : Ends
  pub puts : ℕ → Bool
  pub gets : ℕ → Bool
  pub left : ℕ
  pub answers : ℕ → Option ℕ

-- A vector at a core: its words here, by position; the calls that wait to be combined; the groups that wait for a turn, the oldest first; and the turn
-- that this core has.
pub record Vector : Type 0 where
  pub part : ℕ → Option ℕ
  pub combiner : List WaitingCall
  pub groups : List (List WaitingCall)
  pub turn : Option Turn

-- The vectors, and the turns of those whose master is here.
pub record Vectors : Type 0 where
  pub vectors : ℕ → Option Vector
  pub masters : ℕ → Option Turns

-- The cores that this one has asked for work, without an answer yet, and the cores that wait here for work.
pub record Steals : Type 0 where
  pub asked : ℕ → Bool
  pub waiting : List ℕ

-- Whether a task here is trapped, and whether this core has passed the root scope.
pub record Stops : Type 0 where
  pub trapped : Bool
  pub passed : Bool

-- All that isn't clock or message.
pub record Body : Type 0 where
  pub tasks : Tasks
  pub work : Queues
  pub scopes : Scopes
  pub words : Words
  pub batches : Batches
  pub vectors : Vectors
  pub steals : Steals
  pub stops : Stops

-- A message with the core that sent it.
abbrev pub Letter : Type 0
Letter = net.Letter Msg

-- A core. Its inbox has messages to it, and its buffers those to each other core that haven't been shipped.
pub record Core : Type 0 where
  pub clock : ℕ
  pub body : Body
  pub inbox : List Letter
  pub buffers : ℕ → List Msg
