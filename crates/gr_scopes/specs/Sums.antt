-- What the part of scopes counts: at a core by its counts and masters, and over the tasks, the units of work and the messages of a world.
use Rattle.std.specs.Prelude.{ℕ, ◌-◌, ◌==◌, if◌then◌else◌, List, [], ◌∷◌, drop, Option, Some, None}
use Rattle.gr_msg.specs.Scopes.{same_scope}
use Rattle.gr_msg.specs.declared.message.ScopeId.{ScopeId}
use Rattle.gr_msg.specs.declared.message.Msg.{Msg}
use Rattle.gr_msg.specs.declared.message.Msg.TheVariants as msg
use Rattle.gr_msg.specs.declared.message.Unit.{Unit as WorkUnit}
use Rattle.gr_msg.specs.declared.message.Unit.TheVariants as unit
use Rattle.gr_event.specs.declared.counts.LocalCount.{LocalCount}
use Rattle.gr_event.specs.declared.counts.LocalCount.TheVariants as count
use Rattle.gr_event.specs.declared.masters.Master.{Master}
use Rattle.gr_event.specs.declared.masters.Waiter.{Waiter}
use Rattle.gr_net.specs.Sums.{total, weigh}
use Rattle.gr_machine.specs.declared.waits.Waits.{Waits}
use Rattle.gr_machine.specs.declared.waits.Waits.TheVariants as wait
use Rattle.gr_machine.specs.States.{Suspended, Body}
use Rattle.gr_stands.specs.Censuses.{Weights, of_held}

-- This number where both names are those of one scope, and else 0; the same for two cores.
unfoldable pub if_scope : ScopeId → ScopeId → ℕ → ℕ
if_scope one other number = if same_scope one other then number else 0

unfoldable pub if_core : ℕ → ℕ → ℕ → ℕ
if_core one other number = if other == one then number else 0

-- A core's count of a scope: how many it counts; 1 where it counts some; 1 where slots wait until it may; and these slots.
abbrev pub counted : Option LocalCount → ℕ
counted (Some (count.Active tasks)) = tasks
counted _ = 0

abbrev pub is_active : Option LocalCount → ℕ
is_active (Some (count.Active tasks)) = 1
is_active _ = 0

abbrev pub is_waiting : Option LocalCount → ℕ
is_waiting (Some (count.Waits slots)) = 1
is_waiting _ = 0

abbrev pub slots_in : Option LocalCount → List ℕ
slots_in (Some (count.Waits slots)) = slots
slots_in _ = []

-- The master of a scope: its active cores; 1 where it is there; 1 where somebody waits.
abbrev pub active_at : Option Master → ℕ
active_at None = 0
active_at (Some master) = master.active

abbrev pub is_there : Option Master → ℕ
is_there None = 0
is_there (Some master) = 1

abbrev pub one_if_some : Option Waiter → ℕ
one_if_some None = 0
one_if_some (Some waiter) = 1

abbrev pub is_waited_for : Option Master → ℕ
is_waited_for None = 0
is_waited_for (Some master) = one_if_some master.waiter

-- 1 for a task that waits until its core may count in this scope.
abbrev pub is_enrolling : ScopeId → Waits → ℕ
is_enrolling scope (wait.Enrolment other) = if_scope scope other 1
is_enrolling scope _ = 0

-- Of the scopes that a task has opened and not passed, those at whose end it hasn't arrived: all but the one at which it waits, its innermost.
abbrev pub late_scopes : Waits → List ScopeId → List ScopeId
late_scopes (wait.Scope scope) opened = drop 1 opened
late_scopes _ opened = opened

abbrev pub is_late : ScopeId → Suspended → ℕ
is_late scope task = weigh (λ other. if_scope scope other 1) (late_scopes task.waits task.opened)

-- The tasks of a core, in so many slots, that have opened the scope and haven't arrived at its end.
unfoldable pub late_at : ScopeId → ℕ → Body → ℕ
late_at scope slots body = total slots (λ slot. of_held (is_late scope) (body.tasks.slots slot))

-- The tasks of a scope whose end this core counts, and the indices not begun in chunks whose tasks' ends it counts.
abbrev pub of_unit : ScopeId → ℕ → WorkUnit → ℕ
of_unit scope core (unit.Single target args inside origin id) = if_core core origin (if_scope scope inside 1)
of_unit scope core (unit.Chunk target args inside origin owner lo hi grain) = if_core core origin (if_scope scope inside (hi - lo))

abbrev pub of_scope : ScopeId → ℕ → Weights
of_scope scope core = record { of_task = λ task. if_core core task.origin (if_scope scope task.scope 1); of_unit = of_unit scope core }

-- Messages: the tasks that Completes to a core count; Leaves; EnrolAcks; and a core's Enrols with the EnrolAcks to it.
abbrev pub completes : ScopeId → ℕ → ℕ → ℕ → Msg → ℕ
completes scope core from to (msg.Complete other tasks) = if_core core to (if_scope scope other tasks)
completes scope core from to _ = 0

abbrev pub leaves : ScopeId → ℕ → ℕ → Msg → ℕ
leaves scope from to (msg.Leave other) = if_scope scope other 1
leaves scope from to _ = 0

abbrev pub acks : ScopeId → ℕ → ℕ → Msg → ℕ
acks scope from to (msg.EnrolAck other) = if_scope scope other 1
acks scope from to _ = 0

abbrev pub enrolments : ScopeId → ℕ → ℕ → ℕ → Msg → ℕ
enrolments scope core from to (msg.Enrol other) = if_core core from (if_scope scope other 1)
enrolments scope core from to (msg.EnrolAck other) = if_core core to (if_scope scope other 1)
enrolments scope core from to _ = 0
