-- The guards of the machine against numbers that wrap, and that none of them drops anything.
use Rattle.std.specs.Prelude.{◌≡◌, ℕ, ◌<◌, true, List, Some, is_some}
use Rattle.gr_msg.specs.declared.message.ScopeId.{ScopeId}
use Rattle.gr_machine.specs.GlobalRuns as runs
use Rattle.gr_machine.specs.GlobalRuns.{Step, global_run}
use Rattle.gr_machine.specs.Nets.{world_in}
use Rattle.gr_machine.specs.Spawns.{can_enrol}
use Rattle.gr_machine.specs.ScopeServes.{can_enrol_one}
use Rattle.gr_stands.specs.Worlds.{Given, machine_in, World, bodies}
use Rattle.gr_stands_histories.specs.Running.{AllSlotsFit}
use Rattle.gr_lines_steps.specs.Behind.{GrantsTell}
use Rattle.gr_bounds_stands.specs.Standing.{LoopsTell}
use Rattle.gr_bounds_stands.specs.Telling.{BoundsTell}

-- Of a world: what is numbered and counted fits its words; each scope of a core that there is may count one task more at each core; each master may have one
-- active core more; and what the oldest group pushes has positions that fit a word, where a Grant comes first.
pub record GuardsAreOpen (given : Given) (world : World) : Type 0 where
  pub numbers : BoundsTell given world
  pub counts : (core : ℕ) (scope : ScopeId) → scope.core < given.setup.cores
      → can_enrol (machine_in given) scope ((bodies world core).scopes.counts scope) ≡ true
  pub masters : (core : ℕ) (scope : ScopeId) → is_some ((bodies world core).scopes.masters scope) ≡ true
      → can_enrol_one ((bodies world core).scopes.masters scope) ≡ true
  pub grants : (core : ℕ) → GrantsTell given world core

-- A fact of the part of what fits, at the end of each run from this slot that takes slots that there are: each loop to which a task comes next has at most as many
-- indices as there are words.
abbrev pub LoopsTellInRuns : Given → ℕ → Type 0
LoopsTellInRuns given slot =
    (steps : List Step) (world : runs.World) → AllSlotsFit given steps → global_run (machine_in given) slot steps ≡ Some world → LoopsTell given (world_in world)
