-- Enrolment and leaving, for private functions and proofs.
use Rattle.std.specs.Prelude.{ℕ, ◌<◌, ◌^◌, IsSomeAnd, Option}
use Rattle.std.specs.Option.{option_map}
use Rattle.gr_msg.specs.declared.message.ScopeId.{ScopeId}
use Rattle.gr_event.specs.declared.counts.LocalCount.{LocalCount}
use Rattle.gr_event.specs.declared.masters.Master.{Master}
use Rattle.gr_event.specs.Counts.{waiting_slots, when_acked}
use Rattle.gr_event.specs.Masters.{active_of}
use Rattle.gr_machine.specs.Machines.{Machine}
use Rattle.gr_machine.specs.States.{Body}
use Rattle.gr_machine.specs.Outcomes.{Outcome, quietly}
use Rattle.gr_machine.specs.Spawns.{with_count}
use Rattle.gr_machine.specs.ScopeServes.{planted_all}

-- Fewer than 2^63 cores are active in the scope; at least one is.
abbrev pub HasFew : Option Master → Type 0
HasFew master = IsSomeAnd (active_of master) (λ active. active < 2 ^ 63)

abbrev pub HasSome : Option Master → Type 0
HasSome master = IsSomeAnd (active_of master) (λ active. 0 < active)

-- This core counts in the scope, and the slots that wait there make their units.
abbrev pub counts_and_plants : Machine → ℕ → Body → ScopeId → Option LocalCount → Option Outcome
counts_and_plants machine me body scope count = option_map (planted_all machine me (quietly (with_count body scope (when_acked count)))) (waiting_slots count)
