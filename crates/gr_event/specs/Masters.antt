-- The master of a scope: how many cores are active in it, who waits for its end, and who is released when a core leaves.
use Rattle.std.specs.Prelude.{ℕ, ◌+◌, ◌-◌, ◌==◌, Bool, false, List, Option, Some, None, is_some, if◌then◌else◌}
use Rattle.gr_msg.specs.declared.message.ScopeId.{ScopeId}
use Rattle.gr_event.specs.declared.masters.Master.{Master}
use Rattle.gr_event.specs.declared.masters.Waiter.{Waiter}
use Rattle.gr_event.specs.declared.masters.Release.{Release}
use Rattle.gr_event.specs.declared.masters.Release.TheVariants.{Released, Held}
use Rattle.gr_event.specs.Scopes.{at_scope}

-- The master of each scope; none where the scope isn't there.
abbrev pub masters_of : List (ScopeId × Master) → ScopeId → Option Master
masters_of entries = at_scope entries

-- A scope begins with one active core, and nobody waits.
abbrev pub new_master : Master
new_master = record { active = 1; waiter = None }

-- The number of active cores of a scope that is there.
abbrev pub active_of : Option Master → Option ℕ
active_of None = None
active_of (Some master) = Some master.active

-- Somebody waits.
abbrev pub is_waited : Option Master → Bool
is_waited None = false
is_waited (Some master) = is_some master.waiter

-- This one waits.
abbrev pub wait_for : Waiter → Master → Master
wait_for waiter master = record { active = master.active; waiter = Some waiter }

-- One more core is active.
abbrev pub enrol_one : Master → Master
enrol_one master = record { active = master.active + 1; waiter = master.waiter }

-- Who is released when one core leaves: whoever waits, where that core was the last.
abbrev pub released : Option Master → Option Waiter
released None = None
released (Some master) = if master.active == 1 then master.waiter else None

abbrev pub release_of : Option Waiter → Release
release_of None = Held
release_of (Some waiter) = Released waiter

-- The master after one core has left: it is removed where somebody was released.
abbrev pub after_leave : Option Master → Option Master
after_leave None = None
after_leave (Some master) = if is_some (released (Some master)) then None else Some (record { active = master.active - 1; waiter = master.waiter })
