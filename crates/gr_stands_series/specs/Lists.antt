-- What the tasks of some calls must be, to wait for something else or to go on with their replies.
use Rattle.std.specs.Prelude.{◌≡◌, ◌≢◌, ◌⊎◌, ℕ, List, [], ◌∷◌, Some}
use Rattle.gr_lang.specs.declared.action.WaitingCall.{WaitingCall}
use Rattle.gr_lang.specs.States.{going, State}
use Rattle.gr_batch.specs.declared.wakes.Woken.{Woken}
use Rattle.gr_net.specs.Sums.{Each}
use Rattle.gr_machine.specs.Machines.{Machine}
use Rattle.gr_machine.specs.declared.waits.Waits.{Waits}
use Rattle.gr_machine.specs.Slots.{goes_on}
use Rattle.gr_machine.specs.States.{Suspended, Body}
use Rattle.gr_stands.specs.Calls.{StandsAt, mode_of, is_told, is_going, is_asking}

-- What is waited for is no reply, and the task isn't ready. Either a message tells of the task, or the plain state has it before its next action.
pub record IsPending (waits : Waits) : Type 0 where
  pub not_going : is_going waits ≡ 0
  pub not_asking : is_asking waits ≡ 0

-- The task in the slot of a call, if there is one, may wait for this instead: of both a message tells, or of neither.
pub record MayWait (reason : Waits) (task : Suspended) : Type 0 where
  pub pending : IsPending task.waits
  pub stands : is_told reason ≡ 0 → (is_told task.waits ≡ 0) × (mode_of task.waits task.action ≡ mode_of reason task.action)

abbrev pub AllMayWait : Waits → Body → List WaitingCall → Type 0
AllMayWait reason body calls = Each (λ call. (task : Suspended) → body.tasks.slots call.slot ≡ Some task → MayWait reason task) calls

-- The plain state has the task of a slot after its call, with this reply.
pub record MayGoOn (machine : Machine) (state : State) (wake : Woken) (task : Suspended) : Type 0 where
  pub pending : IsPending task.waits
  pub stands : StandsAt state (goes_on machine task wake.reply)

-- So it is for each of these slots, and they are different.
abbrev pub AllMayGoOn : Machine → State → Body → List Woken → Type 0
AllMayGoOn machine state body [] = Unit
AllMayGoOn machine state body (wake ∷ wakes) =
    ((task : Suspended) → body.tasks.slots wake.slot ≡ Some task → MayGoOn machine state wake task) × Each (λ other. other.slot ≢ wake.slot) wakes
    × AllMayGoOn machine state body wakes
