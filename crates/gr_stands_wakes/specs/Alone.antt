-- Tasks that stand in one slot and nowhere else, whatever they wait for.
use Rattle.std.specs.Prelude.{◌≡◌, ℕ, ◌<◌, List, [], ◌∷◌, map, Some}
use Rattle.std.specs.FinMap as fin
use Rattle.gr_lang.specs.declared.action.TaskId.{TaskId}
use Rattle.gr_lang.specs.declared.action.WaitingCall.{WaitingCall}
use Rattle.gr_lang.specs.States.{Task, State}
use Rattle.gr_msg.specs.declared.message.Msg.{Msg}
use Rattle.gr_msg.specs.declared.message.Unit.{Unit as WorkUnit}
use Rattle.gr_net.specs.Sums.{Each}
use Rattle.gr_net.specs.Flights.{Everywhere}
use Rattle.gr_machine.specs.States.{Suspended, Body}
use Rattle.gr_machine.specs.Nets.{messages_in}
use Rattle.gr_stands.specs.Worlds.{Given, World, bodies}
use Rattle.gr_stands.specs.Censuses.{going_on}
use Rattle.gr_stands.specs.CallActs.{Apart, IsOther, IsOtherUnit, IsOtherIn}

-- No unit at a core or in a message is one of these tasks.
pub record AreNoUnits (given : Given) (world : World) (some : List TaskId) : Type 0 where
  pub private : (one : ℕ) → one < given.setup.cores → Each (IsOtherUnit some) (bodies world one).work.private
  pub public : (one : ℕ) → one < given.setup.cores → Each (IsOtherUnit some) (bodies world one).work.public
  pub messages : Everywhere messages_in (λ from to message. IsOtherIn some message) given.setup.cores world

-- The task of this name stands in this slot of this core alone: no other slot has it, and it is no unit. The plain state has it, and it hasn't ended.
pub record StandsAlone (given : Given) (world : World) (state : State) (core slot : ℕ) (id : TaskId) : Type 0 where
  pub plain : Task
  pub there : fin.get state.tasks id ≡ Some plain
  pub lives : going_on plain.mode ≡ 1
  pub slots : (one number : ℕ) (task : Suspended) → Apart core slot one number → (bodies world one).tasks.slots number ≡ Some task → IsOther (id ∷ []) task.id
  pub units : AreNoUnits given world (id ∷ [])

-- The task of each of these calls stands in the slot of the call.
pub record IsInSlot (body : Body) (call : WaitingCall) : Type 0 where
  pub task : Suspended
  pub there : body.tasks.slots call.slot ≡ Some task
  pub named : task.id ≡ call.id

abbrev pub AreInSlots : Body → List WaitingCall → Type 0
AreInSlots body calls = Each (IsInSlot body) calls

-- A slot that is that of none of these calls of a core.
abbrev pub IsSlotOfNone : ℕ → List WaitingCall → ℕ → ℕ → Type 0
IsSlotOfNone core calls one number = Each (λ call. Apart core call.slot one number) calls

-- The tasks of some calls of a core stand in their slots alone.
pub record StandAlone (given : Given) (world : World) (core : ℕ) (calls : List WaitingCall) : Type 0 where
  pub slots : (one number : ℕ) (task : Suspended) → IsSlotOfNone core calls one number → (bodies world one).tasks.slots number ≡ Some task
      → IsOther (map (λ call. call.id) calls) task.id
  pub units : AreNoUnits given world (map (λ call. call.id) calls)

-- A unit is no task of a slot.
abbrev pub IsInNoSlot : World → WorkUnit → Type 0
IsInNoSlot world unit = (one number : ℕ) (task : Suspended) → (bodies world one).tasks.slots number ≡ Some task → IsOtherUnit (task.id ∷ []) unit

abbrev pub CarriesNoSlot : World → Msg → Type 0
CarriesNoSlot world message = (one number : ℕ) (task : Suspended) → (bodies world one).tasks.slots number ≡ Some task → IsOtherIn (task.id ∷ []) message
