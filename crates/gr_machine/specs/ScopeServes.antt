-- Serve: cores become active in scopes and leave them, and tasks pass a scope when the last core has left it; and units that are asked for.
use Rattle.std.specs.Prelude.{ℕ, ◌&&◌, ◌^◌, Bool, true, false, nat_lt, if◌then◌else◌, List, [], ◌∷◌, ◌++◌, Option, Some, None}
use Rattle.std.specs.Option.{option_map, option_map_or}
use Rattle.std.specs.List.{list_all}
use Rattle.gr_lang.specs.declared.action.Action.{Action}
use Rattle.gr_lang.specs.declared.action.Action.TheVariants as action
use Rattle.gr_lang.specs.declared.action.Entry.TheVariants as entry
use Rattle.gr_view.specs.Places.{put}
use Rattle.gr_msg.specs.declared.message.ScopeId.{ScopeId}
use Rattle.gr_msg.specs.declared.message.Unit.{Unit as WorkUnit}
use Rattle.gr_msg.specs.declared.message.Msg.TheVariants as msg
use Rattle.gr_event.specs.Counts.{waiting_slots, when_acked, completed, left_of}
use Rattle.gr_event.specs.Masters.{active_of, enrol_one, released, release_of}
use Rattle.gr_event.specs.declared.counts.LocalCount.{LocalCount}
use Rattle.gr_event.specs.declared.counts.LocalLeft.{LocalLeft}
use Rattle.gr_event.specs.declared.counts.LocalLeft.TheVariants as rest
use Rattle.gr_event.specs.declared.masters.Master.{Master}
use Rattle.gr_event.specs.declared.masters.Waiter.TheVariants as waiter
use Rattle.gr_event.specs.declared.masters.Release.{Release}
use Rattle.gr_event.specs.declared.masters.Release.TheVariants as release
use Rattle.gr_machine.specs.Machines.{Machine, is_core}
use Rattle.gr_machine.specs.States.{Suspended, Body}
use Rattle.gr_machine.specs.Outcomes.{Outcome, to, marked, quietly, followed}
use Rattle.gr_machine.specs.Slots.{dropped, awaits_enrolment, awaits_scope, slot_awaits}
use Rattle.gr_machine.specs.Spawns.{private_last, private_first, planted, with_count}
use Rattle.gr_machine.specs.ScopeRuns.{with_leave, with_master, can_complete, can_leave, passes}

-- A unit comes from another core
abbrev pub spawned : Body → WorkUnit → Outcome
spawned body work = quietly (private_last body work)

-- Enrolment

-- A scope at whose master fewer than 2^63 cores are active.
abbrev pub can_enrol_one : Option Master → Bool
can_enrol_one master = option_map_or (λ active. nat_lt active (2 ^ 63)) (active_of master) false

-- The core that asks is active in the scope.
abbrev pub core_enrolled_at : Body → ℕ → ScopeId → Option Master → Outcome
core_enrolled_at body from scope master = record { body = with_master body scope (option_map enrol_one master); sends = to from (msg.EnrolAck scope); marks = [] }

abbrev pub core_enrolled : Body → ℕ → ScopeId → Option Master → Option Outcome
core_enrolled body from scope master = if can_enrol_one master then Some (core_enrolled_at body from scope master) else None

-- The task in a slot makes the unit for which it waited.
abbrev pub planted_by : Machine → ℕ → Body → ℕ → Suspended → Action → Outcome
planted_by machine me body slot task (action.Spawn way target args) = planted machine me body slot task way target args
planted_by machine me body slot task _ = dropped body slot

abbrev pub planted_in : Machine → ℕ → Body → ℕ → Option Suspended → Outcome
planted_in machine me body slot None = quietly body
planted_in machine me body slot (Some task) = planted_by machine me body slot task task.action

-- So do some, one after another.
abbrev pub planted_all : Machine → ℕ → Outcome → List ℕ → Outcome
planted_all machine me outcome [] = outcome
planted_all machine me outcome (slot ∷ slots) =
    planted_all machine me (followed outcome (planted_in machine me outcome.body slot (outcome.body.tasks.slots slot))) slots

-- This core counts in the scope: each slot that waited for that makes its unit.
abbrev pub acked_slots : Machine → ℕ → Body → ScopeId → Option LocalCount → Option (List ℕ) → Option Outcome
acked_slots machine me body scope count None = None
acked_slots machine me body scope count (Some slots) =
    if list_all (λ slot. slot_awaits (awaits_enrolment scope) body slot) slots
    then Some (planted_all machine me (quietly (with_count body scope (when_acked count))) slots)
    else None

abbrev pub acked : Machine → ℕ → Body → ScopeId → Option LocalCount → Option Outcome
acked machine me body scope count = acked_slots machine me body scope count (waiting_slots count)

-- Tasks that have ended

-- So many tasks less are counted. The scope's home is told when none is left.
abbrev pub completed_to : Body → ScopeId → LocalLeft → Outcome
completed_to body scope rest.More = quietly body
completed_to body scope rest.Zero = record { body = body; sends = to scope.core (msg.Leave scope); marks = [] }

abbrev pub tasks_completed : Machine → Body → ScopeId → ℕ → Option LocalCount → Option Outcome
tasks_completed machine body scope ended count =
    if is_core machine scope.core && can_complete count ended
    then Some (completed_to (with_count body scope (completed count ended)) scope (left_of count ended))
    else None

-- The waiter passes the scope in this very event, if it is a task here that waits for just that.
abbrev pub passed_by : Machine → Body → ScopeId → ℕ → Option Suspended → Option Outcome
passed_by machine body scope slot None = None
passed_by machine body scope slot (Some task) = if awaits_scope scope task.waits then Some (passes machine (with_leave body scope) slot task) else None

-- The program has ended.
abbrev pub over : Body → ScopeId → Outcome
over body scope = record {
  body = record (with_leave body scope) { stops = record body.stops { passed = true } };
  sends = [];
  marks = marked entry.Over;
}

-- One core less is active: others are, or nobody waits; or the waiter passes.
abbrev pub left_with : Machine → Body → ScopeId → Release → Option Outcome
left_with machine body scope release.Held = Some (quietly (with_leave body scope))
left_with machine body scope (release.Released (waiter.Task slot)) = passed_by machine body scope slot (body.tasks.slots slot)
left_with machine body scope (release.Released waiter.Root) = Some (over body scope)

abbrev pub core_left : Machine → Body → ScopeId → Option Master → Option Outcome
core_left machine body scope master = if can_leave master then left_with machine body scope (release_of (released master)) else None

-- Units that are asked for

-- The core that asks waits here, the last.
abbrev pub waits_here : Body → ℕ → Outcome
waits_here body from = quietly (record body { steals = record body.steals { waiting = body.steals.waiting ++ from ∷ [] } })

-- A unit that this core has asked for is its first, and it may ask again.
abbrev pub given : Body → ℕ → WorkUnit → Option Outcome
given body from work =
    if body.steals.asked from
    then Some (quietly (record (private_first body work) { steals = record body.steals { asked = put body.steals.asked from false } }))
    else None
