-- Numbers that are shared out among the cores of a world and the messages in flight, and what a step of the machine makes of them.
use Rattle.std.specs.Prelude.{◌≡◌, ℕ, ◌+◌, ◌<◌, ◌≤◌, Some}
use Rattle.gr_merge.specs.GlobalRuns.{goes_at}
use Rattle.gr_net.specs.Sums.{total}
use Rattle.gr_machine.specs.declared.journal.Stamped.{Stamped}
use Rattle.gr_machine.specs.Machines.{Machine}
use Rattle.gr_machine.specs.States.{Body}
use Rattle.gr_machine.specs.Steppers.{kind_of, stepper}
use Rattle.gr_machine.specs.GlobalRuns as runs
use Rattle.gr_machine.specs.GlobalRuns.{opening_world}
use Rattle.gr_machine.specs.Nets.{world_in}
use Rattle.gr_stands.specs.Worlds.{World, Weight, bodies, in_flight}

-- Each core has a share, which its body doesn't exceed; and the shares, with what the messages in flight weigh, are together at most so much.
pub record Shared (AtMost : ℕ → Body → ℕ → Type 0) (weight : Weight) (count most : ℕ) (world : World) : Type 0 where
  pub shares : ℕ → ℕ
  pub each : (core : ℕ) → core < count → AtMost core (bodies world core) (shares core)
  pub all : total count shares + in_flight weight count world ≤ most

-- A step of the machine, by an entry of the journal of a core.
abbrev pub Steps : Machine → runs.World → runs.World → ℕ → Stamped → Type 0
Steps machine before after me entry = goes_at (stepper machine) (kind_of entry.event) me before entry ≡ Some after

-- Each step raises it by at most one, and a run begins with one.
pub record GrowsByOne (AtMost : ℕ → Body → ℕ → Type 0) (weight : Weight) : Type 0 where
  pub opens : (machine : Machine) (slot : ℕ) → Shared AtMost weight machine.setup.cores 1 (world_in (opening_world machine slot))
  pub steps : (machine : Machine) (before after : runs.World) (me : ℕ) (entry : Stamped) (most : ℕ) → Steps machine before after me entry
      → Shared AtMost weight machine.setup.cores most (world_in before) → Shared AtMost weight machine.setup.cores (most + 1) (world_in after)
