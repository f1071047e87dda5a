-- The laws of events and the part of batches.
use Rattle.std.specs.Prelude.{◌≡◌, ℕ, List, [], ◌∷◌, Option, Some, None}
use Rattle.std.specs.FinMap as fin
use Rattle.gr_lang.specs.declared.action.Action.TheVariants as action
use Rattle.gr_lang.specs.declared.action.Op.{Op}
use Rattle.gr_lang.specs.declared.action.TaskId.{TaskId}
use Rattle.gr_lang.specs.States.{State}
use Rattle.gr_msg.specs.declared.message.Msg.TheVariants as msg
use Rattle.gr_machine.specs.States.{Letter, Suspended}
use Rattle.gr_machine.specs.Outcomes.{Outcome}
use Rattle.gr_machine.specs.Histories.{Sent}
use Rattle.gr_machine.specs.Runs.{acts, without_ready}
use Rattle.gr_machine.specs.Serves.{serves}
use Rattle.gr_stands.specs.Worlds.{Given, machine_in, World, bodies}
use Rattle.gr_stands.specs.CallActs.{in_batch}
use Rattle.gr_stands.specs.Stands.{Stands}
use Rattle.gr_stands_calls.specs.Acting.{IsFirst, letter, IsFirstLetter}
use Rattle.gr_stands_outcomes.specs.Inner.{outcome_of}
use Rattle.gr_batches.specs.Keys.{IsOn}
use Rattle.gr_batches.specs.Batches.{BatchesStand}
use Rattle.gr_batches_takes.specs.Taking.{KeepsBatches}
use Rattle.gr_batches_events.specs.Leaving.{AreInNoBatch, LeavesBatches}

-- An outcome that has nothing to do with the part keeps it.
abbrev pub BatchesStay : Type 0
BatchesStay =
    (given : Given) (sent : Sent) (world : World) (me : ℕ) (got : List Letter) (outcome : Outcome) (before after : State) (changed : List TaskId)
    → LeavesBatches world me got outcome before after changed → BatchesStand given sent world before → KeepsBatches given sent world me got outcome after

-- A task in a slot that isn't in a batch has another name than those that are; and so has a task that isn't there yet.
abbrev pub BatchedTasksAreOthers : Type 0
BatchedTasksAreOthers =
    (given : Given) (world : World) (state : State) (core slot : ℕ) (task : Suspended) → Stands given world state
    → (bodies world core).tasks.slots slot ≡ Some task → in_batch task.waits ≡ 0 → AreInNoBatch world (task.id ∷ [])

abbrev pub NewNamesAreOthers : Type 0
NewNamesAreOthers =
    (given : Given) (world : World) (state : State) (id : TaskId) → Stands given world state → fin.get state.tasks id ≡ None → AreInNoBatch world (id ∷ [])

-- Run: a ready task whose next action is a call under a key joins the calls that wait on its object.
abbrev pub CallsJoin : Type 0
CallsJoin =
    (given : Given) (sent : Sent) (world : World) (state : State) (me slot : ℕ) (more : List ℕ) (task : Suspended) (call : Op) (object key : ℕ)
    → Stands given world state → BatchesStand given sent world state → IsFirst world me slot more task
    → task.action ≡ action.Call call → IsOn (machine_in given) object key call
    → KeepsBatches given sent world me [] (acts (machine_in given) me (without_ready (bodies world me)) slot task task.action) state

-- Serve: the calls of a batch get their replies, and it is under way no more.
abbrev pub BatchRepliesKeepBatches : Type 0
BatchRepliesKeepBatches =
    (given : Given) (sent : Sent) (world : World) (state : State) (me from batch : ℕ) (before : Option ℕ)
    → Stands given world state → BatchesStand given sent world state → IsFirstLetter given world me from (msg.BatchReply batch before)
    → KeepsBatches given sent world me (letter from (msg.BatchReply batch before) ∷ [])
    (outcome_of (bodies world me) (serves (machine_in given) me (bodies world me) from (msg.BatchReply batch before))) state
