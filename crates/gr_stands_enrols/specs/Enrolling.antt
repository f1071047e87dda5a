-- What the tasks that wait until their core may count must be.
use Rattle.std.specs.Prelude.{◌≡◌, ◌≢◌, ℕ, true, List, [], ◌∷◌, Some}
use Rattle.gr_lang.specs.declared.action.Action.TheVariants as action
use Rattle.gr_lang.specs.declared.action.How.{How}
use Rattle.gr_lang.specs.Steps.{has_core}
use Rattle.gr_msg.specs.declared.message.ScopeId.{ScopeId}
use Rattle.gr_event.specs.Counts.{waiting_slots}
use Rattle.gr_net.specs.Sums.{Each}
use Rattle.gr_machine.specs.declared.waits.Waits.TheVariants as wait
use Rattle.gr_machine.specs.States.{Suspended, Body}
use Rattle.gr_stands.specs.Worlds.{Given, machine_in, World, bodies}
use Rattle.gr_stands.specs.Actions.{ActionFits}

-- The task waits until its core may count in a scope, and its next action is a spawn that fits, at a core that there is.
pub record IsEnrolling (given : Given) (task : Suspended) : Type 0 where
  pub scope : ScopeId
  pub waits : task.waits ≡ wait.Enrolment scope
  pub way : How
  pub target : ℕ
  pub args : List ℕ
  pub due : task.action ≡ action.Spawn way target args
  pub core : has_core given.setup.cores way ≡ true
  pub fits : ActionFits (machine_in given) task.action

-- So does the task of each of these slots, and they are different.
abbrev pub AreEnrolling : Given → Body → List ℕ → Type 0
AreEnrolling given body [] = Unit
AreEnrolling given body (slot ∷ slots) =
    ((task : Suspended) → body.tasks.slots slot ≡ Some task → IsEnrolling given task) × Each (λ other. other ≢ slot) slots × AreEnrolling given body slots

-- A fact of the part of scopes: those that wait at a core to count in a scope are such.
abbrev pub EnrolTells : Given → World → ℕ → ScopeId → Type 0
EnrolTells given world me scope = (slots : List ℕ) → waiting_slots ((bodies world me).scopes.counts scope) ≡ Some slots → AreEnrolling given (bodies world me) slots
