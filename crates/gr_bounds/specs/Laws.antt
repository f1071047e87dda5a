-- The law of measures: what each step raises by at most one is at most its start and the number of steps.
use Rattle.std.specs.Prelude.{◌≡◌, ℕ, ◌+◌, ◌≤◌, List, length, Some}
use Rattle.gr_net.specs.Sums.{total}
use Rattle.gr_machine.specs.Machines.{Machine}
use Rattle.gr_machine.specs.States.{Body}
use Rattle.gr_machine.specs.GlobalRuns.{Step, global_run, opening_world}
use Rattle.gr_machine.specs.GlobalRuns as runs
use Rattle.gr_machine.specs.Nets.{world_in}
use Rattle.gr_stands.specs.Worlds.{Weight, bodies, in_flight}
use Rattle.gr_bounds.specs.Outcomes.{Rules, NoneKnown}

-- A body holds so much at most.
abbrev pub HoldsAtMost : (ℕ → Body → ℕ) → ℕ → Body → ℕ → Type 0
HoldsAtMost held core body most = held core body ≤ most

-- What bodies hold and messages in flight weigh, where each outcome of the machine raises it by so much at most.
abbrev pub MeasuresGrow : Type 0
MeasuresGrow =
    (held : ℕ → Body → ℕ) (weight : Weight) (machine : Machine) → Rules (HoldsAtMost held) weight machine NoneKnown
    → (slot : ℕ) (steps : List Step) (end : runs.World) → global_run machine slot steps ≡ Some end
    → total machine.setup.cores (λ core. held core (bodies (world_in end) core)) + in_flight weight machine.setup.cores (world_in end)
    ≤ total machine.setup.cores (λ core. held core (bodies (world_in (opening_world machine slot)) core)) + length steps
