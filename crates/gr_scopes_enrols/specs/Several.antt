-- Several tasks that are made one after another at a core, in one scope; and what a message that a core may count finds there.
use Rattle.std.specs.Prelude.{◌≡◌, ℕ, zero, suc, ◌+◌, List, Some}
use Rattle.gr_msg.specs.declared.message.ScopeId.{ScopeId}
use Rattle.gr_event.specs.declared.counts.LocalCount.TheVariants as count
use Rattle.gr_machine.specs.States.{Body}
use Rattle.gr_scopes.specs.Trees.{Tree, Names, with_task}

-- So many tasks are made in a scope. Their names are this core's next ones, in order.
abbrev pub with_tasks : Tree → (core next scope : ℕ) → ℕ → Tree
with_tasks tree core next scope zero = tree
with_tasks tree core next scope (suc more) = with_tasks (with_task tree (record { core = core; number = next }) scope) core (next + 1) scope more

-- Slots wait at the core until it may count in the scope, which has a name.
pub record AreWaiting (names : Names) (body : Body) (scope : ScopeId) (number : ℕ) (slots : List ℕ) : Type 0 where
  pub named : names number ≡ Some scope
  pub counts : body.scopes.counts scope ≡ Some (count.Waits slots)
