-- Worked rows of which events are enabled, and which are not.
use Rattle.std.specs.Prelude.{◌≡◌, ℕ, zero, suc, List, [], ◌∷◌, ◌++◌, map, length, take, Option, Some}
use Rattle.std.specs.Option.{option_map, option_map_or}
use Rattle.std.specs.List.{filter}
use Rattle.gr_syntax.specs.declared.limits.TheConstants.{HEAP}
use Rattle.gr_machine.specs.declared.event.Event.{Event}
use Rattle.gr_machine.specs.declared.event.Event.TheVariants as event
use Rattle.gr_machine.specs.Machines.{Machine}
use Rattle.gr_machine.specs.Enabled.{enabled}
use Rattle.gr_machine.specs.GlobalRuns.{World, Step, opening_world, global_run}
use Rattle.gr_machine.specs.RowWords.{Line, steps_in, stepped}
use Rattle.gr_machine.specs.CounterRows.{counter, counter_lines}
use Rattle.gr_machine.specs.RemoteRows.{remote, remote_lines}
use Rattle.gr_machine.specs.BatchRows.{batch, batch_lines}
use Rattle.gr_machine.specs.TurnRows.{turn, turn_lines}
use Rattle.gr_machine.specs.EnrolRows.{enrolled, enrolled_lines}
use Rattle.gr_machine.specs.TrapRows.{trapped, trapped_lines}

-- The numbers below one.
abbrev pub below : ℕ → List ℕ
below zero = []
below (suc count) = below count ++ count ∷ []

-- All events that a core could make, and one of each kind that names what there isn't.
abbrev pub events_of : Machine → List Event
events_of machine = event.Serve ∷ event.Run
    ∷ map event.Take (below (machine.setup.cores)) ++ event.Take 9
    ∷ map event.Ship (below (machine.setup.cores)) ++ event.Ship 9
    ∷ map event.Close (below (length machine.code.objects.things)) ++ event.Close HEAP ∷ event.Close 9
    ∷ map event.Steal (below (machine.setup.cores)) ++ event.Steal 9 ∷ []

-- Those that are enabled.
abbrev pub enabled_at : Machine → World → ℕ → List Event
enabled_at machine world core = filter (λ what. enabled machine core (world.states core).core what) (events_of machine)

-- Those that were enabled at the core of each step before it.
abbrev pub enabled_before : Machine → World → List Step → List (List Event)
enabled_before machine world [] = []
enabled_before machine world (step ∷ steps) =
    enabled_at machine world step.0 ∷ option_map_or (λ after. enabled_before machine after steps) (stepped machine world step) []

abbrev pub enabled_in : Machine → List Line → List (List Event)
enabled_in machine lines = enabled_before machine (opening_world machine 0) (steps_in lines)

-- Those that are enabled at a core after some lines.
abbrev pub enabled_behind : Machine → List Line → ℕ → Option (List Event)
enabled_behind machine lines core = option_map (λ world. enabled_at machine world core) (global_run machine 0 (steps_in lines))

-- Of a call at another core: before each of the 21 events. A message is shipped where it fills a packet; a core asks for work only while it is idle, and
-- not twice; nobody takes from, ships to or asks itself.
abbrev pub RemoteEnabled : Type 0
RemoteEnabled = enabled_in remote remote_lines ≡
    (event.Run ∷ event.Take 1 ∷ [])
    ∷ (event.Take 1 ∷ event.Ship 1 ∷ event.Steal 1 ∷ [])
    ∷ (event.Take 1 ∷ event.Steal 1 ∷ [])
    ∷ (event.Take 1 ∷ event.Ship 1 ∷ [])
    ∷ (event.Take 0 ∷ event.Steal 0 ∷ [])
    ∷ (event.Serve ∷ event.Take 0 ∷ [])
    ∷ (event.Take 0 ∷ event.Ship 0 ∷ event.Steal 0 ∷ [])
    ∷ (event.Take 0 ∷ event.Steal 0 ∷ [])
    ∷ (event.Serve ∷ event.Take 0 ∷ [])
    ∷ (event.Take 0 ∷ event.Steal 0 ∷ [])
    ∷ (event.Take 0 ∷ event.Ship 0 ∷ [])
    ∷ (event.Take 1 ∷ [])
    ∷ (event.Serve ∷ event.Take 1 ∷ [])
    ∷ (event.Run ∷ event.Take 1 ∷ [])
    ∷ (event.Serve ∷ event.Run ∷ event.Take 1 ∷ [])
    ∷ (event.Run ∷ event.Take 1 ∷ [])
    ∷ (event.Serve ∷ event.Take 1 ∷ [])
    ∷ (event.Serve ∷ event.Take 1 ∷ [])
    ∷ (event.Run ∷ event.Take 1 ∷ [])
    ∷ (event.Serve ∷ event.Take 1 ∷ [])
    ∷ (event.Serve ∷ event.Take 1 ∷ [])
    ∷ []

-- Three inserts don't fill a packet: the set is closed only when nothing else is to do.
abbrev pub BatchEnabled : Type 0
BatchEnabled = enabled_in batch (take 14 batch_lines) ≡
    (event.Run ∷ [])
    ∷ (event.Run ∷ [])
    ∷ (event.Run ∷ [])
    ∷ (event.Run ∷ [])
    ∷ (event.Run ∷ [])
    ∷ (event.Run ∷ [])
    ∷ (event.Run ∷ [])
    ∷ (event.Run ∷ [])
    ∷ (event.Run ∷ [])
    ∷ (event.Run ∷ [])
    ∷ (event.Run ∷ [])
    ∷ (event.Close 0 ∷ [])
    ∷ (event.Serve ∷ [])
    ∷ (event.Serve ∷ [])
    ∷ []

abbrev pub with_limit : Machine → ℕ → Machine
with_limit machine limit = record machine { setup = record machine.setup { limit = limit } }

-- Behind the first push: the vector can be closed at once where one call fills a packet, and else not while a unit waits.
pub record CallsFill : Type 0 where
  pub one : enabled_behind turn (take 6 turn_lines) 0 ≡ Some (event.Run ∷ event.Take 1 ∷ event.Close 0 ∷ [])
  pub two : enabled_behind (with_limit turn 2) (take 6 turn_lines) 0 ≡ Some (event.Run ∷ event.Take 1 ∷ [])
  pub both : enabled_behind (with_limit turn 2) (take 8 turn_lines) 0 ≡ Some (event.Take 1 ∷ event.Close 0 ∷ [])

-- Two messages of the 32 that fill a packet: they are shipped only when the core is idle. Where two fill one, they are shipped at once.
pub record MessagesFill : Type 0 where
  pub busy : enabled_behind enrolled (take 3 enrolled_lines) 0 ≡ Some (event.Run ∷ event.Take 1 ∷ [])
  pub idle : enabled_behind enrolled (take 4 enrolled_lines) 0 ≡ Some (event.Take 1 ∷ event.Ship 1 ∷ event.Steal 1 ∷ [])
  pub full : enabled_behind (with_limit enrolled 2) (take 3 enrolled_lines) 0 ≡ Some (event.Run ∷ event.Take 1 ∷ event.Ship 1 ∷ [])

-- Behind a trap, behind the end, and at the limit of its clock a core makes no event.
abbrev pub with_events : Machine → ℕ → Machine
with_events machine events = record machine { setup = record machine.setup { events = events } }

pub record NothingMore : Type 0 where
  pub trapped : enabled_behind trapped trapped_lines 0 ≡ Some []
  pub passed : enabled_behind remote remote_lines 0 ≡ Some []
  pub other : enabled_behind remote remote_lines 1 ≡ Some (event.Take 0 ∷ [])
  pub spent : enabled_behind (with_events counter 2) (take 2 counter_lines) 0 ≡ Some []
  pub last : enabled_behind (with_events counter 3) (take 2 counter_lines) 0 ≡ Some (event.Serve ∷ [])
