-- Outcomes that change one task in its slot, and outcomes that leave all tasks. No message that they take up or send tells of a task.
use Rattle.std.specs.Prelude.{◌≡◌, ◌≢◌, ◌⊎◌, ℕ, List, Some}
use Rattle.std.specs.FinMap as fin
use Rattle.gr_lang.specs.declared.action.TaskId.{TaskId}
use Rattle.gr_lang.specs.States.{Task, State}
use Rattle.gr_view.specs.Places.{put}
use Rattle.gr_net.specs.Sums.{Each}
use Rattle.gr_machine.specs.States.{Letter, Suspended, Body}
use Rattle.gr_machine.specs.Outcomes.{Outcome}
use Rattle.gr_stands.specs.Worlds.{Given, World, bodies}
use Rattle.gr_stands.specs.Memory.{SameMemory}
use Rattle.gr_stands.specs.Censuses.{going_on}
use Rattle.gr_stands.specs.Calls.{StandsAt, is_told, is_going, is_asking, times}
use Rattle.gr_stands_calls.specs.Rests.{IsOfNoTask}

-- No task of the plain state is another one, but this, which goes on to another action or state and hasn't ended before or after.
pub record GoesTo (before after : State) (id : TaskId) : Type 0 where
  pub old : Task
  pub new : Task
  pub there : fin.get before.tasks id ≡ Some old
  pub lives : going_on old.mode ≡ 1
  pub lives_on : going_on new.mode ≡ 1
  pub tasks : (other : TaskId) → fin.get after.tasks other ≡ fin.get (fin.insert before.tasks id new) other

-- A task in a slot of a core becomes this one, of the same name; its core's units and words stay. In the plain state it has gone on, or nothing has happened.
pub record ChangesSlot (given : Given) (world : World) (before after : State) (me : ℕ) (got : List Letter) (outcome : Outcome) (slot : ℕ) (task next : Suspended) : Type 0 where
  pub there : (bodies world me).tasks.slots slot ≡ Some task
  pub slots : outcome.body.tasks.slots ≡ put (bodies world me).tasks.slots slot (Some next)
  pub ready : times slot outcome.body.tasks.ready ≡ is_going next.waits
  pub others : (other : ℕ) → other ≢ slot → times other outcome.body.tasks.ready ≡ times other (bodies world me).tasks.ready
  pub number : outcome.body.tasks.next ≡ (bodies world me).tasks.next
  pub work : outcome.body.work ≡ (bodies world me).work
  pub words : outcome.body.words ≡ (bodies world me).words
  pub named : next.id ≡ task.id
  pub counted : next.origin ≡ task.origin
  pub was_not_asking : is_asking task.waits ≡ 0
  pub not_asking : is_asking next.waits ≡ 0
  pub letters : Each (λ letter. IsOfNoTask letter.message) got
  pub sends : Each (λ send. IsOfNoTask send.message) outcome.sends
  pub memory : SameMemory before.objects after.objects
  pub stands : is_told next.waits ≡ 0 → StandsAt after next
  pub plain : (after.tasks ≡ before.tasks) ⊎ GoesTo before after task.id

-- Tasks, units and words of the core stay.
pub record LeavesTasks (body : Body) (got : List Letter) (outcome : Outcome) : Type 0 where
  pub tasks : outcome.body.tasks ≡ body.tasks
  pub work : outcome.body.work ≡ body.work
  pub words : outcome.body.words ≡ body.words
  pub letters : Each (λ letter. IsOfNoTask letter.message) got
  pub sends : Each (λ send. IsOfNoTask send.message) outcome.sends
