-- Run: a ready task opens a finish or a loop, arrives at the end of a finish, or ends.
use Rattle.std.specs.Prelude.{ℕ, ◌+◌, ◌-◌, ◌&&◌, not, Bool, false, nat_lt, nat_le, if◌then◌else◌, List, [], ◌∷◌, ◌++◌, drop, Option, Some, None, is_none}
use Rattle.std.specs.Option.{option_map, option_map_or}
use Rattle.gr_lang.specs.declared.action.Entry.TheVariants as entry
use Rattle.gr_lang.specs.Effects.{nothing}
use Rattle.gr_msg.specs.declared.message.ScopeId.{ScopeId}
use Rattle.gr_msg.specs.declared.message.Unit.TheVariants as unit
use Rattle.gr_msg.specs.declared.message.Msg.TheVariants as msg
use Rattle.gr_event.specs.Scopes.{put_scope}
use Rattle.gr_event.specs.Counts.{active_count, completed, left_of}
use Rattle.gr_event.specs.Masters.{new_master, active_of, is_waited, wait_for, released, release_of, after_leave}
use Rattle.gr_event.specs.declared.counts.LocalCount.{LocalCount}
use Rattle.gr_event.specs.declared.counts.LocalCount.TheVariants as count
use Rattle.gr_event.specs.declared.counts.LocalLeft.{LocalLeft}
use Rattle.gr_event.specs.declared.counts.LocalLeft.TheVariants as rest
use Rattle.gr_event.specs.declared.masters.Master.{Master}
use Rattle.gr_event.specs.declared.masters.Waiter.TheVariants as waiter
use Rattle.gr_event.specs.declared.masters.Release.{Release}
use Rattle.gr_event.specs.declared.masters.Release.TheVariants as release
use Rattle.gr_machine.specs.Machines.{Machine, is_core}
use Rattle.gr_machine.specs.declared.waits.Waits.TheVariants as wait
use Rattle.gr_machine.specs.States.{Suspended, Body}
use Rattle.gr_machine.specs.Outcomes.{Outcome, to, marked, quietly}
use Rattle.gr_machine.specs.Slots.{with_slot, waiting, readied, dropped, goes_on}
use Rattle.gr_machine.specs.Spawns.{private_first}

-- Scopes that are opened

-- The name of the next scope that is opened at this core, and whether it is new.
abbrev pub own_scope : ℕ → Body → ScopeId
own_scope me body = record { core = me; number = body.scopes.next }

abbrev pub is_new_scope : Body → ScopeId → Bool
is_new_scope body scope = is_none (body.scopes.counts scope) && is_none (body.scopes.masters scope)

-- The scope is there, with this core alone active, which counts so many tasks of it.
abbrev pub with_scope : Body → ScopeId → ℕ → Master → Body
with_scope body scope tasks master = record body {
  scopes = record {
    counts = put_scope body.scopes.counts scope (Some (count.Active tasks));
    masters = put_scope body.scopes.masters scope (Some master);
    next = body.scopes.next + 1;
  };
}

-- It is the task's innermost.
abbrev pub opens : Suspended → ScopeId → Suspended
opens task scope = record task { opened = scope ∷ task.opened }

-- A finish counts 1, for its end.
abbrev pub finishes_in : Machine → Body → ℕ → Suspended → ScopeId → Outcome
finishes_in machine body slot task scope = record {
  body = readied (with_scope body scope 1 new_master) slot (goes_on machine (opens task scope) nothing);
  sends = [];
  marks = marked (entry.Finish task.id);
}

abbrev pub finishes : Machine → ℕ → Body → ℕ → Suspended → Outcome
finishes machine me body slot task =
    if is_new_scope body (own_scope me body) then finishes_in machine body slot task (own_scope me body) else dropped body slot

-- A loop counts its indices. The task waits, and the whole range is the core's first unit.
abbrev pub loops_in : ℕ → Body → ℕ → Suspended → ℕ → ℕ → ℕ → ℕ → List ℕ → ScopeId → Outcome
loops_in me body slot task lo hi grain target args scope = record {
  body = private_first
      (waiting (with_scope body scope (hi - lo) (wait_for (waiter.Task slot) new_master)) slot (opens task scope) (wait.Scope scope))
      (unit.Chunk target args scope me task.id lo hi grain);
  sends = [];
  marks = marked (entry.Loop task.id lo hi grain target args);
}

-- A loop over nothing opens no scope, and is passed at once.
abbrev pub loops_over_nothing : Machine → Body → ℕ → Suspended → ℕ → ℕ → ℕ → ℕ → List ℕ → Outcome
loops_over_nothing machine body slot task lo hi grain target args = record {
  body = readied body slot (goes_on machine task nothing);
  sends = [];
  marks = marked (entry.Loop task.id lo hi grain target args) ++ marked (entry.Pass task.id);
}

abbrev pub loops_over : ℕ → Body → ℕ → Suspended → ℕ → ℕ → ℕ → ℕ → List ℕ → Outcome
loops_over me body slot task lo hi grain target args =
    if is_new_scope body (own_scope me body) then loops_in me body slot task lo hi grain target args (own_scope me body) else dropped body slot

abbrev pub loops : Machine → ℕ → Body → ℕ → Suspended → ℕ → ℕ → ℕ → ℕ → List ℕ → Outcome
loops machine me body slot task lo hi grain target args =
    if nat_lt lo hi then loops_over me body slot task lo hi grain target args else loops_over_nothing machine body slot task lo hi grain target args

-- Scopes that are passed

-- The task passes its innermost scope.
abbrev pub passes : Machine → Body → ℕ → Suspended → Outcome
passes machine body slot task = record {
  body = readied body slot (goes_on machine (record task { opened = drop 1 task.opened }) nothing);
  sends = [];
  marks = marked (entry.Pass task.id);
}

abbrev pub with_master : Body → ScopeId → Option Master → Body
with_master body scope master = record body { scopes = record body.scopes { masters = put_scope body.scopes.masters scope master } }

-- One core less is active in the scope.
abbrev pub with_leave : Body → ScopeId → Body
with_leave body scope = with_master body scope (after_leave (body.scopes.masters scope))

-- Whether a scope counts at least so many tasks, and whether a core is active in it.
abbrev pub can_complete : Option LocalCount → ℕ → Bool
can_complete local ended = option_map_or (λ tasks. nat_le ended tasks) (active_count local) false

abbrev pub can_leave : Option Master → Bool
can_leave master = option_map_or (λ active. nat_lt 0 active) (active_of master) false

-- The core's count is less by one, and the task in the slot waits at the master.
abbrev pub arrived : Body → ScopeId → ℕ → Body
arrived body scope slot = record body {
  scopes = record body.scopes {
    counts = put_scope body.scopes.counts scope (completed (body.scopes.counts scope) 1);
    masters = put_scope body.scopes.masters scope (option_map (wait_for (waiter.Task slot)) (body.scopes.masters scope));
  };
}

-- The task waits for the end of the scope.
abbrev pub arrives_early : Body → ℕ → Suspended → ScopeId → Outcome
arrives_early body slot task scope = quietly (waiting body slot task (wait.Scope scope))

-- This core has left the scope: the task waits for others that are active, or passes.
abbrev pub arrives_last : Machine → Body → ℕ → Suspended → ScopeId → Release → Outcome
arrives_last machine body slot task scope release.Held = arrives_early (with_leave body scope) slot task scope
arrives_last machine body slot task scope (release.Released who) = passes machine (with_leave body scope) slot task

-- The core counts on, and the task waits; or this core leaves the scope in the same event.
abbrev pub arrives_with : Machine → Body → ℕ → Suspended → ScopeId → LocalLeft → Outcome
arrives_with machine body slot task scope rest.More = arrives_early body slot task scope
arrives_with machine body slot task scope rest.Zero = arrives_last machine body slot task scope (release_of (released (body.scopes.masters scope)))

-- The scope is counted here, its master is here, and nobody waits there.
abbrev pub can_arrive : Body → ScopeId → Bool
can_arrive body scope = can_complete (body.scopes.counts scope) 1 && can_leave (body.scopes.masters scope) && not (is_waited (body.scopes.masters scope))

abbrev pub arrives_in : Machine → Body → ℕ → Suspended → ScopeId → Outcome
arrives_in machine body slot task scope =
    if can_arrive body scope then arrives_with machine (arrived body scope slot) slot task scope (left_of (body.scopes.counts scope) 1) else dropped body slot

abbrev pub arrives : Machine → Body → ℕ → Suspended → List ScopeId → Outcome
arrives machine body slot task [] = dropped body slot
arrives machine body slot task (scope ∷ scopes) = arrives_in machine body slot task scope

-- The task ends, and the core that counts it is told.
abbrev pub ends_at : Body → ℕ → Suspended → Outcome
ends_at body slot task = record { body = with_slot body slot None; sends = to task.origin (msg.Complete task.scope 1); marks = marked (entry.End task.id) }

abbrev pub ends : Machine → Body → ℕ → Suspended → Outcome
ends machine body slot task = if is_core machine task.origin then ends_at body slot task else dropped body slot
