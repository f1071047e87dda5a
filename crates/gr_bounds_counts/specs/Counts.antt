-- How many tasks of a scope a core counts, with those that wait until they are counted: a step counts one more, but for a loop, which counts its indices.
use Rattle.std.specs.Prelude.{◌≡◌, ℕ, ◌+◌, ◌-◌, ◌<◌, ◌≤◌, length, Some}
use Rattle.gr_lang.specs.declared.action.Action.{Action}
use Rattle.gr_lang.specs.declared.action.Action.TheVariants as action
use Rattle.gr_msg.specs.declared.message.ScopeId.{ScopeId}
use Rattle.gr_machine.specs.declared.journal.Stamped.{Stamped}
use Rattle.gr_machine.specs.Machines.{Machine}
use Rattle.gr_machine.specs.States.{Suspended, Body}
use Rattle.gr_machine.specs.GlobalRuns as runs
use Rattle.gr_machine.specs.GlobalRuns.{opening_world}
use Rattle.gr_machine.specs.Nets.{world_in}
use Rattle.gr_stands.specs.Worlds.{Weight, bodies}
use Rattle.gr_scopes.specs.Sums.{counted, slots_in}
use Rattle.gr_bounds.specs.Shares.{Shared, Steps}

-- A loop has so many indices at most.
abbrev pub LoopFits : ℕ → Action → Type 0
LoopFits most (action.Loop lo hi grain target args) = hi - lo ≤ most
LoopFits most _ = Unit

-- So has each loop to which a task in a slot of a core comes next.
abbrev pub LoopsFit : ℕ → ℕ → Body → Type 0
LoopsFit most core body = (slot : ℕ) (task : Suspended) → body.tasks.slots slot ≡ Some task → LoopFits most task.action

-- The tasks of a scope that a core counts, with the slots that wait until it may, are at most so many above what a loop may have.
abbrev pub CountAtMost : ScopeId → ℕ → ℕ → Body → ℕ → Type 0
CountAtMost scope loop core body most = counted (body.scopes.counts scope) + length (slots_in (body.scopes.counts scope)) ≤ most + loop

-- Each step raises it by at most one where something is known of each core, and a run begins with one.
pub record GrowsWhere (Known : ℕ → Body → Type 0) (AtMost : ℕ → Body → ℕ → Type 0) (weight : Weight) : Type 0 where
  pub opens : (machine : Machine) (slot : ℕ) → Shared AtMost weight machine.setup.cores 1 (world_in (opening_world machine slot))
  pub steps : (machine : Machine) (before after : runs.World) (me : ℕ) (entry : Stamped) (most : ℕ) → Steps machine before after me entry
      → ((core : ℕ) → core < machine.setup.cores → Known core (bodies (world_in before) core))
      → Shared AtMost weight machine.setup.cores most (world_in before) → Shared AtMost weight machine.setup.cores (most + 1) (world_in after)
