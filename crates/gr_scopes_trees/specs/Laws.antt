-- The laws of what a step of the plain memory does to its tree, for each kind of entry.
use Rattle.std.specs.Prelude.{◌≡◌, ℕ, List, ◌∷◌, Some}
use Rattle.gr_lang.specs.declared.action.Entry.{Entry}
use Rattle.gr_lang.specs.declared.action.Entry.TheVariants as entry
use Rattle.gr_lang.specs.declared.action.How.{How}
use Rattle.gr_lang.specs.declared.action.Op.{Op}
use Rattle.gr_lang.specs.declared.action.Reply.{Reply}
use Rattle.gr_lang.specs.declared.action.TaskId.{TaskId}
use Rattle.gr_lang.specs.declared.action.TrapKind.{TrapKind}
use Rattle.gr_lang.specs.States.{State, innermost_of}
use Rattle.gr_lang.specs.Steps.{step}
use Rattle.gr_stands.specs.Worlds.{Given}
use Rattle.gr_scopes.specs.Trees.{Holder, tree_of, with_task, with_opened, with_empty, with_passed, with_over}

-- The entry leads from one state to the other.
abbrev pub Leads : Given → State → Entry → State → Type 0
Leads given before what after = step given.program given.setup.cores given.setup.steps before what ≡ Some after

-- The plain state has this of the task's scopes.
abbrev pub Holds : State → TaskId → Holder → Type 0
Holds state id holder = (tree_of state).holders id ≡ Some holder

-- Calls, ends and traps leave the tree.
abbrev pub CallsLeaveTrees : Type 0
CallsLeaveTrees = (given : Given) (before after : State) (id : TaskId) (op : Op) (reply : Reply) → Leads given before (entry.Call id op reply) after → tree_of after ≡ tree_of before

abbrev pub EndsLeaveTrees : Type 0
EndsLeaveTrees = (given : Given) (before after : State) (id : TaskId) → Leads given before (entry.End id) after → tree_of after ≡ tree_of before

abbrev pub TrapsLeaveTrees : Type 0
TrapsLeaveTrees = (given : Given) (before after : State) (id : TaskId) (kind : TrapKind) → Leads given before (entry.Trap id kind) after → tree_of after ≡ tree_of before

-- A spawn makes a task in the innermost scope of the task that spawns.
abbrev pub SpawnsMakeTasks : Type 0
SpawnsMakeTasks =
    (given : Given) (before after : State) (id : TaskId) (holder : Holder) (way : How) (target : ℕ) (args : List ℕ) (kid : TaskId)
    → Holds before id holder → Leads given before (entry.Spawn id way target args kid) after
    → tree_of after ≡ with_task (tree_of before) kid (innermost_of holder.scope holder.opened)

-- A finish and a loop open a scope.
abbrev pub FinishesOpenScopes : Type 0
FinishesOpenScopes =
    (given : Given) (before after : State) (id : TaskId) (holder : Holder) → Holds before id holder → Leads given before (entry.Finish id) after
    → tree_of after ≡ with_opened (tree_of before) id holder

abbrev pub LoopsOpenScopes : Type 0
LoopsOpenScopes =
    (given : Given) (before after : State) (id : TaskId) (holder : Holder) (lo hi grain target : ℕ) (args : List ℕ)
    → Holds before id holder → Leads given before (entry.Loop id lo hi grain target args) after
    → tree_of after ≡ with_opened (tree_of before) id holder

-- A loop that is passed at once leaves a scope that nobody has open.
abbrev pub EmptyLoopsLeaveScopes : Type 0
EmptyLoopsLeaveScopes =
    (given : Given) (before between after : State) (id : TaskId) (lo hi grain target : ℕ) (args : List ℕ)
    → Leads given before (entry.Loop id lo hi grain target args) between → Leads given between (entry.Pass id) after
    → tree_of after ≡ with_empty (tree_of before)

-- An index that begins is a task in the loop's scope, its owner's innermost.
abbrev pub IndicesMakeTasks : Type 0
IndicesMakeTasks =
    (given : Given) (before after : State) (owner : TaskId) (holder : Holder) (number : ℕ) (outer : List ℕ) (index : ℕ) (kid : TaskId)
    → Holds before owner holder → holder.opened ≡ number ∷ outer → Leads given before (entry.Begin owner index kid) after
    → tree_of after ≡ with_task (tree_of before) kid number

-- A pass leaves the innermost scope, and the end of all work the root.
abbrev pub PassesLeaveScopes : Type 0
PassesLeaveScopes =
    (given : Given) (before after : State) (id : TaskId) (holder : Holder) → Holds before id holder → Leads given before (entry.Pass id) after
    → tree_of after ≡ with_passed (tree_of before) id holder

abbrev pub OverLeavesTheRoot : Type 0
OverLeavesTheRoot = (given : Given) (before after : State) → Leads given before entry.Over after → tree_of after ≡ with_over (tree_of before)
