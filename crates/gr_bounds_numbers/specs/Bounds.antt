-- What grows by one at most with each step: numbers that are given, and what may still take one.
use Rattle.std.specs.Prelude.{◌≡◌, ℕ, ◌+◌, ◌≤◌, false, List, [], ◌∷◌, length}
use Rattle.gr_msg.specs.Scopes.{same_scope}
use Rattle.gr_msg.specs.declared.message.ScopeId.{ScopeId}
use Rattle.gr_msg.specs.declared.message.Msg.TheVariants as msg
use Rattle.gr_net.specs.Sums.{total, weigh, Each}
use Rattle.gr_machine.specs.States.{Body}
use Rattle.gr_stands.specs.Worlds.{Weight}
use Rattle.gr_scopes.specs.Sums.{if_scope, slots_in, active_at}

-- No message weighs anything.
abbrev pub weightless : Weight
weightless from to message = 0

-- No scope is named twice.
abbrev pub AreDistinct : List ScopeId → Type 0
AreDistinct [] = Unit
AreDistinct (scope ∷ scopes) = Each (λ other. same_scope other scope ≡ false) scopes × AreDistinct scopes

-- How many slots of a core wait until it may count tasks of a scope.
abbrev pub waiting_in : Body → ScopeId → ℕ
waiting_in body scope = length (slots_in (body.scopes.counts scope))

-- The number of a core's next task, with the slots that wait until they may make one.
abbrev pub TasksAtMost : ℕ → Body → ℕ → Type 0
TasksAtMost core body most = (scopes : List ScopeId) → AreDistinct scopes → body.tasks.next + weigh (waiting_in body) scopes ≤ most

-- The number of its next batch, with the calls that wait to be combined on the first objects, so many.
abbrev pub BatchesAtMost : ℕ → Body → ℕ → Type 0
BatchesAtMost core body most = (objects : ℕ) → body.batches.next + total objects (λ object. length (body.batches.combiners object)) ≤ most

-- The number of its next scope.
abbrev pub ScopesAtMost : ℕ → Body → ℕ → Type 0
ScopesAtMost core body most = body.scopes.next ≤ most

-- Ends of tasks: a core holds none, and a Complete tells of so many.
abbrev pub EndsAtMost : ℕ → Body → ℕ → Type 0
EndsAtMost core body most = Unit

abbrev pub ends_told : Weight
ends_told from to (msg.Complete scope tasks) = tasks
ends_told from to _ = 0

-- The active cores of a scope's master, with the cores that ask to be one.
abbrev pub ActiveAtMost : ScopeId → ℕ → Body → ℕ → Type 0
ActiveAtMost scope core body most = active_at (body.scopes.masters scope) ≤ most

abbrev pub enrols_asked : ScopeId → Weight
enrols_asked scope from to (msg.Enrol other) = if_scope scope other 1
enrols_asked scope from to _ = 0
