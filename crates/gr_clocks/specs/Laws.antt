-- The laws of clocks, of any machine whose clocks tick and of the machine.
use Rattle.std.specs.Prelude.{◌≡◌, ℕ, ◌+◌, ◌*◌, ◌≤◌, List, length, Some}
use Rattle.gr_merge.specs.Machines as merging
use Rattle.gr_merge.specs.GlobalRuns as global
use Rattle.gr_merge.specs.GlobalRuns.{opening, fold_global}
use Rattle.gr_net.specs.Sums.{Each}
use Rattle.gr_machine.specs.Machines.{Machine}
use Rattle.gr_machine.specs.Steppers.{stepper}
use Rattle.gr_machine.specs.GlobalRuns.{Step, World, global_run}
use Rattle.gr_clocks.specs.Ticking.{IsTicking}

-- A run of some steps from clocks at 0, of a machine whose clocks tick, at so many cores and below a limit, and where it ends.
pub record IsRun {State Entry Packet Mark : Type 0} (machine : merging.Machine State Entry Packet Mark) (time : State → ℕ) (cores limit : ℕ)
    (steps : List (ℕ × Entry)) (end : global.World State Packet Mark) : Type 0 where
  pub ticking : IsTicking machine time cores limit
  pub states : ℕ → State
  pub start : (core : ℕ) → time (states core) ≡ 0
  pub run : fold_global machine (opening states) steps ≡ Some end

-- Each clock is at most the number of steps, and at most one above the limit.
abbrev pub ClocksCountSteps : (State Entry Packet Mark : Type 0) → Type 0
ClocksCountSteps State Entry Packet Mark =
    (machine : merging.Machine State Entry Packet Mark) (time : State → ℕ) (cores limit : ℕ) (steps : List (ℕ × Entry)) (end : global.World State Packet Mark)
    → IsRun machine time cores limit steps end
    → (core : ℕ) → (time (end.states core) ≤ length steps) × (time (end.states core) ≤ limit + 1)

-- The stamp of each packet under way is at most the number of steps, and at most the limit.
abbrev pub StampsCountSteps : (State Entry Packet Mark : Type 0) → Type 0
StampsCountSteps State Entry Packet Mark =
    (machine : merging.Machine State Entry Packet Mark) (time : State → ℕ) (cores limit : ℕ) (steps : List (ℕ × Entry)) (end : global.World State Packet Mark)
    → IsRun machine time cores limit steps end
    → (origin dest : ℕ) → Each (λ packet. (machine.stamp packet ≤ length steps) × (machine.stamp packet ≤ limit)) (end.transit origin dest)

-- The steps are at most as many as the limit, at each core.
abbrev pub StepsAreFew : (State Entry Packet Mark : Type 0) → Type 0
StepsAreFew State Entry Packet Mark =
    (machine : merging.Machine State Entry Packet Mark) (time : State → ℕ) (cores limit : ℕ) (steps : List (ℕ × Entry)) (end : global.World State Packet Mark)
    → IsRun machine time cores limit steps end
    → length steps ≤ cores * limit

-- The machine's clocks tick, at the cores of its setup and below its limit of events.
abbrev pub EntriesTickOnce : Type 0
EntriesTickOnce = (machine : Machine) → IsTicking (stepper machine) (λ counted. counted.core.clock) machine.setup.cores machine.setup.events

-- A clock in a global run is at most the number of its steps, and at most one above the limit of events.
abbrev pub ClocksAreLow : Type 0
ClocksAreLow =
    (machine : Machine) (slot : ℕ) (steps : List Step) (end : World) → global_run machine slot steps ≡ Some end
    → (core : ℕ) → ((end.states core).core.clock ≤ length steps) × ((end.states core).core.clock ≤ machine.setup.events + 1)

-- A global run has at most as many steps as the limit of events, at each core.
abbrev pub RunsAreShort : Type 0
RunsAreShort =
    (machine : Machine) (slot : ℕ) (steps : List Step) (end : World) → global_run machine slot steps ≡ Some end
    → length steps ≤ machine.setup.cores * machine.setup.events
