-- What an outcome at a core makes of its share, and what the outcomes of the machine make of shares.
use Rattle.std.specs.Prelude.{◌≡◌, ℕ, ◌+◌, ◌≤◌, Option, Some, None}
use Rattle.gr_msg.specs.declared.message.Msg.{Msg}
use Rattle.gr_msg.specs.declared.message.Unit.{Unit as WorkUnit}
use Rattle.gr_agg.specs.Laws.{Adds}
use Rattle.gr_machine.specs.Machines.{Machine}
use Rattle.gr_machine.specs.States.{Suspended, Body}
use Rattle.gr_machine.specs.Outcomes.{Outcome}
use Rattle.gr_machine.specs.Runs.{acts, without_ready, first_unit, without_unit, taken_up}
use Rattle.gr_machine.specs.Closes.{closes}
use Rattle.gr_machine.specs.Serves.{serves, settles}
use Rattle.gr_machine.specs.Events.{gives, asks}
use Rattle.gr_stands.specs.Worlds.{Weight, of_sends}

-- The core has a share after an outcome, which with what is sent is at most so much.
pub record Raised (AtMost : ℕ → Body → ℕ → Type 0) (weight : Weight) (me : ℕ) (outcome : Outcome) (most : ℕ) : Type 0 where
  pub share : ℕ
  pub body : AtMost me outcome.body share
  pub all : share + of_sends weight me outcome.sends ≤ most

-- An outcome raises any share of this body by so much at most.
abbrev pub Raises : (ℕ → Body → ℕ → Type 0) → Weight → ℕ → Body → Outcome → ℕ → Type 0
Raises AtMost weight me body outcome more = (x : ℕ) → AtMost me body x → Raised AtMost weight me outcome (x + more)

abbrev pub RaisesIf : (ℕ → Body → ℕ → Type 0) → Weight → ℕ → Body → Option Outcome → ℕ → Type 0
RaisesIf AtMost weight me body None more = Unit
RaisesIf AtMost weight me body (Some outcome) more = Raises AtMost weight me body outcome more

-- The first outcome of an event raises the share of its core by one at most, and by what a letter that it takes up weighs; those after it by nothing. At the
-- start of an event something is known of the body.
pub record Rules (AtMost : ℕ → Body → ℕ → Type 0) (weight : Weight) (machine : Machine) (Known : ℕ → Body → Type 0) : Type 0 where
  pub adds : (from to : ℕ) → Adds (weight from to)
  pub not_ready : (me : ℕ) (body : Body) (x : ℕ) → AtMost me body x → AtMost me (without_ready body) x
  pub no_unit : (me : ℕ) (body : Body) (x : ℕ) → AtMost me body x → AtMost me (without_unit body) x
  pub run : (me : ℕ) (body : Body) → Known me body → (slot : ℕ) (task : Suspended) → body.tasks.slots slot ≡ Some task
      → Raises AtMost weight me (without_ready body) (acts machine me (without_ready body) slot task task.action) 1
  pub unit : (me : ℕ) (body : Body) → Known me body → (slot : ℕ) (work : WorkUnit) → first_unit body ≡ Some work
      → Raises AtMost weight me body (taken_up machine me (without_unit body) slot work) 1
  pub serve : (me : ℕ) (body : Body) → Known me body → (from : ℕ) (message : Msg)
      → RaisesIf AtMost weight me body (serves machine me body from message) (weight from me message + 1)
  pub close : (me : ℕ) (body : Body) → Known me body → (object : ℕ) → Raises AtMost weight me body (closes machine body object) 1
  pub steal : (me : ℕ) (body : Body) (victim : ℕ) → Raises AtMost weight me body (asks victim body) 1
  pub settle : (me : ℕ) (body : Body) (message : Msg) → RaisesIf AtMost weight me body (settles machine body message) 0
  pub give : (me : ℕ) (body : Body) → Raises AtMost weight me body (gives body) 0

-- Nothing is known of a body.
abbrev pub NoneKnown : ℕ → Body → Type 0
NoneKnown me body = Unit
