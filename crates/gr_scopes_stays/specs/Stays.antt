-- Outcomes that leave the scopes of their core: in each slot is the task that was there, or one that goes on under the same scopes.
use Rattle.std.specs.Prelude.{◌≡◌, ◌≢◌, ◌⊎◌, ℕ, ◌+◌, List, [], ◌∷◌, Option, Some}
use Rattle.gr_lang.specs.declared.action.Action.{Action}
use Rattle.gr_lang.specs.declared.action.WaitingCall.{WaitingCall}
use Rattle.gr_msg.specs.declared.message.ScopeId.{ScopeId}
use Rattle.gr_msg.specs.declared.message.Msg.{Msg}
use Rattle.gr_msg.specs.declared.message.Msg.TheVariants as msg
use Rattle.gr_net.specs.Sums.{weigh, Each}
use Rattle.gr_machine.specs.declared.waits.Waits.{Waits}
use Rattle.gr_machine.specs.declared.waits.Waits.TheVariants as wait
use Rattle.gr_machine.specs.States.{Letter, Suspended, Body}
use Rattle.gr_machine.specs.Outcomes.{Outcome}
use Rattle.gr_stands.specs.Worlds.{Given, World, bodies, of_letters, of_sends}
use Rattle.gr_stands.specs.Censuses.{carried}
use Rattle.gr_scopes.specs.Trees.{Tree, Names}
use Rattle.gr_scopes.specs.Sums.{of_unit}
use Rattle.gr_scopes.specs.Depths.{HasDepth}
use Rattle.gr_scopes.specs.Scopes.{IsCall, UnitStands, MessageStands}

-- Tasks in slots

-- What is waited for is neither an enrolment nor the end of a scope.
abbrev pub IsNoScope : Waits → Type 0
IsNoScope (wait.Enrolment scope) = ⊥
IsNoScope (wait.Scope scope) = ⊥
IsNoScope _ = Unit

-- A task of this action may wait for that: for nothing, or for what comes of its call.
abbrev pub MayWaitFor : Action → Waits → Type 0
MayWaitFor due (wait.Enrolment scope) = ⊥
MayWaitFor due (wait.Scope scope) = ⊥
MayWaitFor due wait.Going = Unit
MayWaitFor due wait.Nothing = Unit
MayWaitFor due _ = IsCall due

-- The task goes on under the same scopes: as far as scopes are concerned, nothing happens.
pub record GoesOnUnder (given : Given) (before after : Suspended) : Type 0 where
  pub named : after.id ≡ before.id
  pub scope : after.scope ≡ before.scope
  pub counted : after.origin ≡ before.origin
  pub opened : after.opened ≡ before.opened
  pub waited : IsNoScope before.waits
  pub waits : MayWaitFor after.action after.waits
  pub depth : HasDepth given.program after

-- Of a slot: its task goes on so.
pub record Changes (given : Given) (before after : Option Suspended) : Type 0 where
  pub old : Suspended
  pub new : Suspended
  pub was : before ≡ Some old
  pub is : after ≡ Some new
  pub goes : GoesOnUnder given old new

-- In each slot is the task that was there, or it has gone on so.
abbrev pub SlotsStay : Given → (ℕ → Option Suspended) → (ℕ → Option Suspended) → Type 0
SlotsStay given before after = (slot : ℕ) → (after slot ≡ before slot) ⊎ Changes given (before slot) (after slot)

-- Messages and units

-- The message is about no scope.
abbrev pub IsOfNoScope : Msg → Type 0
IsOfNoScope (msg.Complete scope tasks) = ⊥
IsOfNoScope (msg.Leave scope) = ⊥
IsOfNoScope (msg.Enrol scope) = ⊥
IsOfNoScope (msg.EnrolAck scope) = ⊥
IsOfNoScope _ = Unit

-- It carries no unit either.
abbrev pub IsOfNoWork : Msg → Type 0
IsOfNoWork (msg.Spawn unit) = ⊥
IsOfNoWork (msg.StealGive unit) = ⊥
IsOfNoWork message = IsOfNoScope message

-- What the units of a body weigh, of those whose ends a core counts in a scope.
abbrev pub units_in : ScopeId → ℕ → Body → ℕ
units_in scope core body = weigh (of_unit scope core) body.work.private + weigh (of_unit scope core) body.work.public

-- Outcomes

-- Counts and masters stay, no message is about a scope, and each unit is where it was, or has come or gone with a message.
pub record ScopesStay (given : Given) (names : Names) (tree : Tree) (before : Body) (me : ℕ) (got : List Letter) (outcome : Outcome) : Type 0 where
  pub slots : SlotsStay given before.tasks.slots outcome.body.tasks.slots
  pub scopes : outcome.body.scopes ≡ before.scopes
  pub passed : outcome.body.stops.passed ≡ before.stops.passed
  pub private : Each (UnitStands given names tree) outcome.body.work.private
  pub public : Each (UnitStands given names tree) outcome.body.work.public
  pub letters : Each (λ letter. IsOfNoScope letter.message) got
  pub sends : Each (λ send. IsOfNoScope send.message × MessageStands given names tree me send.to send.message) outcome.sends
  pub units : (scope : ScopeId) (core : ℕ) → units_in scope core outcome.body + of_sends (carried (of_unit scope core)) me outcome.sends
      ≡ units_in scope core before + of_letters (carried (of_unit scope core)) me got

-- Counts, masters and units stay, and no message is about them.
pub record LeavesScopes (given : Given) (before : Body) (got : List Letter) (outcome : Outcome) : Type 0 where
  pub slots : SlotsStay given before.tasks.slots outcome.body.tasks.slots
  pub scopes : outcome.body.scopes ≡ before.scopes
  pub passed : outcome.body.stops.passed ≡ before.stops.passed
  pub work : outcome.body.work ≡ before.work
  pub letters : Each (λ letter. IsOfNoWork letter.message) got
  pub sends : Each (λ send. IsOfNoWork send.message) outcome.sends

-- Messages and batches

-- A message of calls, of batches, of turns, or a question for work, whose outcome changes at most one task.
abbrev pub IsOfOneCall : Msg → Type 0
IsOfOneCall (msg.BatchReply batch before) = ⊥
IsOfOneCall message = IsOfNoWork message

-- The slots of these calls are different.
abbrev pub AreApart : List WaitingCall → Type 0
AreApart [] = Unit
AreApart (call ∷ calls) = Each (λ other. other.slot ≢ call.slot) calls × AreApart calls

-- A fact of the part of batches: the tasks of a batch's calls are in slots of their own.
abbrev pub BatchIsApart : World → ℕ → ℕ → Type 0
BatchIsApart world me batch = (calls : List WaitingCall) → (bodies world me).batches.flying batch ≡ Some calls → AreApart calls
