-- What part 5 of 'stands for' asks of an outcome at a core.
use Rattle.std.specs.Prelude.{◌≡◌, ℕ, List, Option, Some}
use Rattle.std.specs.FinMap as fin
use Rattle.gr_lang.specs.declared.action.TaskId.{TaskId}
use Rattle.gr_lang.specs.declared.action.WaitingCall.{WaitingCall}
use Rattle.gr_lang.specs.States.{Task, State}
use Rattle.gr_view.specs.Places.{put}
use Rattle.gr_net.specs.Sums.{Each}
use Rattle.gr_machine.specs.declared.waits.Waits.TheVariants as wait
use Rattle.gr_machine.specs.States.{Letter, Suspended, Body}
use Rattle.gr_machine.specs.Outcomes.{Outcome}
use Rattle.gr_machine.specs.Histories.{Sent}
use Rattle.gr_stands.specs.Worlds.{Given, machine_in, World, bodies, in_flight, of_letters, of_sends, Acts, Moves}
use Rattle.gr_stands.specs.CallActs.{Apart, IsOther}
use Rattle.gr_batches.specs.Batches.{CoreStands, MessageStands, is_mail, is_under_way, BatchesStand}

-- At most one batch of one core has other calls than before, or is under way no more, and it is this.
pub record BatchChange (before after : ℕ → Body) (core batch : ℕ) (calls : Option (List WaitingCall)) : Type 0 where
  pub here : (after core).batches.flying batch ≡ calls
  pub other : (one number : ℕ) → Apart core batch one number → (after one).batches.flying number ≡ (before one).batches.flying number

-- The outcome changes at most one batch, and the plain state at most the tasks of these names, none of which is in another batch.
pub record BatchesAct (given : Given) (sent more : Sent) (world : World) (me : ℕ) (got : List Letter) (outcome : Outcome) (before after : State)
    (core batch : ℕ) (calls : Option (List WaitingCall)) (changed : List TaskId) : Type 0 where
  pub stands : CoreStands (machine_in given) outcome.body
  pub change : BatchChange (bodies world) (put (bodies world) me outcome.body) core batch calls
  pub kept : (id : TaskId) (task : Task) → IsOther changed id → fin.get before.tasks id ≡ Some task → fin.get after.tasks id ≡ Some task
  pub others_stay : (one slot number : ℕ) (task : Suspended) → Apart core batch one number → (bodies world one).tasks.slots slot ≡ Some task → task.waits ≡ wait.Batch number
      → ((put (bodies world) me outcome.body one).tasks.slots slot ≡ Some task) × IsOther changed task.id
  pub sends : Each (λ send. MessageStands given (put (bodies world) me outcome.body) after me send.to send.message) outcome.sends
  -- what was in flight of the batch is taken up, its message is sent where it is under way, and no other batch's but in the place of what is taken up
  pub quiet : in_flight (is_mail core batch) given.setup.cores world ≡ of_letters (is_mail core batch) me got
  pub mailed : of_sends (is_mail core batch) me outcome.sends ≡ is_under_way calls
  pub others : (one number : ℕ) → Apart core batch one number → of_sends (is_mail one number) me outcome.sends ≡ of_letters (is_mail one number) me got
  -- it is known which calls the batches have
  pub noted : (one number : ℕ) (some : List WaitingCall) → (put (bodies world) me outcome.body one).batches.flying number ≡ Some some → more one number ≡ some

-- Such an outcome keeps part 5.
abbrev pub BatchesAreKept : Type 0
BatchesAreKept =
    (given : Given) (sent more : Sent) (world next : World) (me : ℕ) (got : List Letter) (outcome : Outcome) (before after : State) (core batch : ℕ)
    (calls : Option (List WaitingCall)) (changed : List TaskId)
    → Acts given.setup.cores world next me got outcome → BatchesAct given sent more world me got outcome before after core batch calls changed
    → BatchesStand given sent world before → BatchesStand given more next after

-- A Ship and a Take keep it.
abbrev pub MovesKeepBatches : Type 0
MovesKeepBatches =
    (given : Given) (sent : Sent) (world next : World) (state : State) → Moves given.setup.cores world next
    → BatchesStand given sent world state → BatchesStand given sent next state
