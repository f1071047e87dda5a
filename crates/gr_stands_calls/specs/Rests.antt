-- Outcomes after which a ready task waits for something of which no message tells: a close, an enrolment, the end of a scope.
use Rattle.std.specs.Prelude.{◌≡◌, ℕ}
use Rattle.gr_lang.specs.States.{going}
use Rattle.gr_msg.specs.declared.message.Msg.{Msg}
use Rattle.gr_msg.specs.declared.message.Msg.TheVariants as msg
use Rattle.gr_net.specs.Sums.{Each}
use Rattle.gr_machine.specs.declared.waits.Waits.{Waits}
use Rattle.gr_machine.specs.States.{Suspended, Body}
use Rattle.gr_machine.specs.Outcomes.{Outcome}
use Rattle.gr_machine.specs.Slots.{waiting}
use Rattle.gr_machine.specs.Runs.{without_ready}
use Rattle.gr_stands.specs.Calls.{mode_of, is_told, is_going, is_asking}

-- A message that is no request or reply, and carries no unit.
abbrev pub IsOfNoTask : Msg → Type 0
IsOfNoTask (msg.Request slot id operation x y z) = ⊥
IsOfNoTask (msg.Reply slot id first second) = ⊥
IsOfNoTask (msg.Spawn unit) = ⊥
IsOfNoTask (msg.StealGive unit) = ⊥
IsOfNoTask _ = Unit

-- The task in the first ready slot of the body waits for this, and of tasks, units and words nothing else is changed. The plain state has the task at the same
-- action as before.
pub record WaitsElsewhere (body : Body) (slot : ℕ) (task : Suspended) (reason : Waits) (outcome : Outcome) : Type 0 where
  pub tasks : outcome.body.tasks ≡ (waiting (without_ready body) slot task reason).tasks
  pub work : outcome.body.work ≡ body.work
  pub words : outcome.body.words ≡ body.words
  pub sends : Each (λ send. IsOfNoTask send.message) outcome.sends
  pub not_told : is_told reason ≡ 0
  pub not_going : is_going reason ≡ 0
  pub not_asking : is_asking reason ≡ 0
  pub mode : mode_of reason task.action ≡ going
