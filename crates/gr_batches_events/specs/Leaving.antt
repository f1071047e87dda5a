-- Outcomes that have nothing to do with the part of batches.
use Rattle.std.specs.Prelude.{◌≡◌, ℕ, List, Some}
use Rattle.std.specs.FinMap as fin
use Rattle.gr_lang.specs.declared.action.TaskId.{TaskId}
use Rattle.gr_lang.specs.States.{Task, State}
use Rattle.gr_msg.specs.declared.message.Msg.{Msg}
use Rattle.gr_msg.specs.declared.message.Msg.TheVariants as msg
use Rattle.gr_net.specs.Sums.{Each}
use Rattle.gr_machine.specs.declared.mark.Mark.{Mark}
use Rattle.gr_machine.specs.declared.mark.Mark.TheVariants as mark
use Rattle.gr_machine.specs.States.{Letter, Suspended}
use Rattle.gr_machine.specs.Outcomes.{Outcome}
use Rattle.gr_stands.specs.Worlds.{World, bodies}
use Rattle.gr_stands.specs.CallActs.{IsOther, in_batch}
use Rattle.gr_batches.specs.Staying.{CallsStay}

-- A message of no batch.
abbrev pub IsNoMail : Msg → Type 0
IsNoMail (msg.Batch object key what batch) = ⊥
IsNoMail (msg.BatchReply batch before) = ⊥
IsNoMail _ = Unit

-- A mark with which no batch goes off.
abbrev pub IsNoClose : Mark → Type 0
IsNoClose (mark.Closed batch calls) = ⊥
IsNoClose _ = Unit

-- No task that is in a batch is one of these.
abbrev pub AreInNoBatch : World → List TaskId → Type 0
AreInNoBatch world some = (core slot : ℕ) (task : Suspended) → (bodies world core).tasks.slots slot ≡ Some task → in_batch task.waits ≡ 1 → IsOther some task.id

-- The outcome leaves the calls of its core; it takes up and sends no message of a batch, and no batch goes off; and the plain state changes at most the tasks of
-- these names, which are in no batch.
pub record LeavesBatches (world : World) (me : ℕ) (got : List Letter) (outcome : Outcome) (before after : State) (changed : List TaskId) : Type 0 where
  pub calls : CallsStay (bodies world me) outcome.body
  pub letters : Each (λ letter. IsNoMail letter.message) got
  pub sends : Each (λ send. IsNoMail send.message) outcome.sends
  pub marks : Each IsNoClose outcome.marks
  pub kept : (id : TaskId) (task : Task) → IsOther changed id → fin.get before.tasks id ≡ Some task → fin.get after.tasks id ≡ Some task
  pub others : AreInNoBatch world changed
