-- Part 3 of 'stands for', scopes: a core counts of each scope the tasks and indices that are left and whose ends it counts; a scope's master counts the cores
-- that do so; and cores that ask to do so wait for one message each.
use Rattle.std.specs.Prelude.{◌≡◌, ℕ, ◌+◌, ◌<◌, ◌≤◌, Bool, true, false, List, [], ◌∷◌, length, Option, Some, None}
use Rattle.gr_lang.specs.declared.action.Action.{Action}
use Rattle.gr_lang.specs.declared.action.Action.TheVariants as action
use Rattle.gr_lang.specs.declared.action.How.{How}
use Rattle.gr_lang.specs.declared.action.TaskId.{TaskId}
use Rattle.gr_lang.specs.Steps.{has_core}
use Rattle.gr_msg.specs.Scopes.{same_scope}
use Rattle.gr_msg.specs.declared.message.ScopeId.{ScopeId}
use Rattle.gr_msg.specs.declared.message.Msg.{Msg}
use Rattle.gr_msg.specs.declared.message.Msg.TheVariants as msg
use Rattle.gr_msg.specs.declared.message.Unit.{Unit as WorkUnit}
use Rattle.gr_msg.specs.declared.message.Unit.TheVariants as unit
use Rattle.gr_event.specs.declared.counts.LocalCount.{LocalCount}
use Rattle.gr_event.specs.declared.counts.LocalCount.TheVariants as count
use Rattle.gr_event.specs.declared.masters.Master.{Master}
use Rattle.gr_event.specs.declared.masters.Waiter.{Waiter}
use Rattle.gr_event.specs.declared.masters.Waiter.TheVariants as waiter
use Rattle.gr_net.specs.Sums.{total, Each}
use Rattle.gr_net.specs.Flights.{Everywhere}
use Rattle.gr_machine.specs.declared.waits.Waits.{Waits}
use Rattle.gr_machine.specs.declared.waits.Waits.TheVariants as wait
use Rattle.gr_machine.specs.States.{Suspended, Scopes, Body}
use Rattle.gr_machine.specs.Nets.{messages_in}
use Rattle.gr_machine.specs.Openings.{root_scope}
use Rattle.gr_machine.specs.Slots.{innermost}
use Rattle.gr_stands.specs.Worlds.{Given, World, bodies, in_flight}
use Rattle.gr_stands.specs.Censuses.{census}
use Rattle.gr_stands.specs.Calls.{of_slot, times}
use Rattle.gr_scopes.specs.Trees.{Tree, Rises, Names, IsHeld, IsScope}
use Rattle.gr_scopes.specs.Sums.{counted, is_active, is_waiting, slots_in, active_at, is_there, is_waited_for, is_enrolling, late_at, of_scope, completes, leaves, acks, enrolments}
use Rattle.gr_scopes.specs.Depths.{HasDepth}

-- What a task waits for

-- It waits to make a task under its innermost scope, which is this.
pub record IsEnrolling (given : Given) (task : Suspended) (scope : ScopeId) : Type 0 where
  pub under : innermost task ≡ scope
  pub way : How
  pub target : ℕ
  pub args : List ℕ
  pub next : task.action ≡ action.Spawn way target args
  pub core : has_core given.setup.cores way ≡ true

-- A task that waits at a scope does so at its loop, or at the end of a finish.
abbrev pub WaitsThere : Action → Type 0
WaitsThere (action.Loop lo hi grain target args) = Unit
WaitsThere action.Arrive = Unit
WaitsThere _ = ⊥

-- It waits at this scope, its innermost, and stands as the waiter at the scope's master.
pub record IsWaiter (body : Body) (slot : ℕ) (task : Suspended) (scope : ScopeId) : Type 0 where
  pub outer : List ScopeId
  pub opened : task.opened ≡ scope ∷ outer
  pub master : Master
  pub there : body.scopes.masters scope ≡ Some master
  pub waits : master.waiter ≡ Some (waiter.Task slot)
  pub action : WaitsThere task.action

-- The action is a call.
abbrev pub IsCall : Action → Type 0
IsCall (action.Call call) = Unit
IsCall _ = ⊥

-- A task that is ready, or is trapped, waits for nothing; one that waits for no scope does so for what comes of its call.
abbrev pub WaitStands : Given → Body → ℕ → Suspended → Waits → Type 0
WaitStands given body slot task (wait.Enrolment scope) = IsEnrolling given task scope
WaitStands given body slot task (wait.Scope scope) = IsWaiter body slot task scope
WaitStands given body slot task wait.Going = Unit
WaitStands given body slot task wait.Nothing = Unit
WaitStands given body slot task _ = IsCall task.action

-- A task in a slot: its scopes are those of the plain state, the core keeps the masters of those that it has opened, and it waits rightly.
pub record SlotStands (given : Given) (names : Names) (tree : Tree) (core : ℕ) (body : Body) (slot : ℕ) (task : Suspended) : Type 0 where
  pub held : IsHeld names tree task.id task.scope task.opened
  pub homes : Each (λ scope. scope.core ≡ core) task.opened
  pub depth : HasDepth given.program task
  pub waits : WaitStands given body slot task task.waits

-- Masters

-- Who waits at the master of a scope: the root's end at the root's alone; a task in a slot of the same core, which waits for this.
pub record IsWaitedForBy (body : Body) (scope : ScopeId) (slot : ℕ) : Type 0 where
  pub task : Suspended
  pub there : body.tasks.slots slot ≡ Some task
  pub waits : task.waits ≡ wait.Scope scope
  pub inner : same_scope scope root_scope ≡ false

abbrev pub WaiterStands : Body → ScopeId → Option Waiter → Type 0
WaiterStands body scope None = same_scope scope root_scope ≡ false
WaiterStands body scope (Some (waiter.Task slot)) = IsWaitedForBy body scope slot
WaiterStands body scope (Some waiter.Root) = scope ≡ root_scope

-- A master is kept at its scope's home, and a core is active in its scope.
pub record MasterStands (core : ℕ) (body : Body) (scope : ScopeId) (master : Master) : Type 0 where
  pub home : scope.core ≡ core
  pub alive : 0 < master.active
  pub waiter : WaiterStands body scope master.waiter

-- A count is at least 1, and where slots wait there is one.
abbrev pub CountIsSome : Option LocalCount → Type 0
CountIsSome None = Unit
CountIsSome (Some (count.Active tasks)) = 0 < tasks
CountIsSome (Some (count.Waits slots)) = 0 < length slots

-- A core

-- The counts, masters and tasks of a core. The owner of a scope is under way or waits at the master; and the scopes that come next have no master.
pub record CoreStands (given : Given) (names : Names) (tree : Tree) (core : ℕ) (body : Body) : Type 0 where
  pub counts : (scope : ScopeId) → CountIsSome (body.scopes.counts scope)
  pub masters : (scope : ScopeId) (master : Master) → body.scopes.masters scope ≡ Some master → MasterStands core body scope master
  pub owners : (scope : ScopeId) → is_waited_for (body.scopes.masters scope) + late_at scope given.slots body ≡ is_there (body.scopes.masters scope)
  pub waiters : (scope : ScopeId) (slot : ℕ) → times slot (slots_in (body.scopes.counts scope)) ≡ of_slot (is_enrolling scope) (body.tasks.slots slot)
  pub slots : (slot : ℕ) (task : Suspended) → body.tasks.slots slot ≡ Some task → SlotStands given names tree core body slot task
  pub fresh : (number : ℕ) → body.scopes.next ≤ number → body.scopes.masters (record { core = core; number = number }) ≡ None

-- Units and messages

abbrev pub UnitStands : Given → Names → Tree → WorkUnit → Type 0
UnitStands given names tree (unit.Single target args scope origin id) = IsHeld names tree id scope []
UnitStands given names tree (unit.Chunk target args scope origin owner lo hi grain) = IsScope names scope × (origin < given.setup.cores)

abbrev pub MessageStands : Given → Names → Tree → ℕ → ℕ → Msg → Type 0
MessageStands given names tree from to (msg.Complete scope tasks) = (0 < tasks) × (scope.core < given.setup.cores)
MessageStands given names tree from to (msg.Leave scope) = to ≡ scope.core
MessageStands given names tree from to (msg.Enrol scope) = (to ≡ scope.core) × (from < given.setup.cores)
MessageStands given names tree from to (msg.Spawn work) = UnitStands given names tree work
MessageStands given names tree from to (msg.StealGive work) = UnitStands given names tree work
MessageStands given names tree from to _ = Unit

-- The part

-- The names of scopes: each is that of one scope, given by a core that there is; and each task has opened its scopes after the one in which it stands, in order.
pub record NamesStand (given : Given) (names : Names) (body : ℕ → Body) (tree : Tree) : Type 0 where
  pub root : names 0 ≡ Some root_scope
  pub apart : (one other : ℕ) (scope : ScopeId) → names one ≡ Some scope → names other ≡ Some scope → one ≡ other
  pub opened : (number : ℕ) (scope : ScopeId) → names number ≡ Some scope → number < tree.count
  pub given_by : (number : ℕ) (scope : ScopeId) → names number ≡ Some scope → (scope.core < given.setup.cores) × (scope.number < (body scope.core).scopes.next)
  pub rises : (id : TaskId) (scope : ℕ) (open_ones : List ℕ) → tree.holders id ≡ Some (record { scope = scope; opened = open_ones }) → Rises scope tree.count open_ones

abbrev pub one_unless : Bool → ℕ
one_unless true = 0
one_unless false = 1

-- The root has its master until it is passed.
pub record RootStands (body : ℕ → Body) (tree : Tree) : Type 0 where
  pub master : is_there ((body 0).scopes.masters root_scope) ≡ one_unless tree.passed
  pub passed : (body 0).stops.passed ≡ tree.passed

pub record ScopesStand (given : Given) (names : Names) (world : World) (tree : Tree) : Type 0 where
  pub cores : (core : ℕ) → CoreStands given names tree core (bodies world core)
  pub private : (core : ℕ) → core < given.setup.cores → Each (UnitStands given names tree) (bodies world core).work.private
  pub public : (core : ℕ) → core < given.setup.cores → Each (UnitStands given names tree) (bodies world core).work.public
  pub messages : Everywhere messages_in (MessageStands given names tree) given.setup.cores world
  pub named : NamesStand given names (bodies world) tree
  pub root : RootStands (bodies world) tree
  -- a core's count of a scope: the tasks of the scope and the indices not begun whose ends it counts, the owner that hasn't arrived, and what Completes take off
  pub counts : (scope : ScopeId) (core : ℕ) → counted ((bodies world core).scopes.counts scope)
      ≡ census (of_scope scope core) given world + late_at scope given.slots (bodies world core) + in_flight (completes scope core) given.setup.cores world
  -- a master's active cores: the cores that count, Leaves and EnrolAcks
  pub active : (scope : ScopeId) → active_at ((bodies world scope.core).scopes.masters scope)
      ≡ total given.setup.cores (λ core. is_active ((bodies world core).scopes.counts scope)) + in_flight (leaves scope) given.setup.cores world + in_flight (acks scope) given.setup.cores world
  -- a core where slots wait has one Enrol or EnrolAck in flight, and no other has one
  pub enrolling : (scope : ScopeId) (core : ℕ) → in_flight (enrolments scope core) given.setup.cores world ≡ is_waiting ((bodies world core).scopes.counts scope)
