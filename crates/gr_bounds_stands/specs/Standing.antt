-- Part 7 of 'stands for', bounds: what a run gives numbers to and counts is at most the number of its steps and one.
use Rattle.std.specs.Prelude.{◌≡◌, ℕ, ◌+◌, ◌<◌, ◌≤◌, ◌^◌}
use Rattle.gr_msg.specs.declared.message.ScopeId.{ScopeId}
use Rattle.gr_machine.specs.Openings.{no_scopes}
use Rattle.gr_stands.specs.Worlds.{Given, World, bodies}
use Rattle.gr_bounds.specs.Shares.{Shared}
use Rattle.gr_bounds_numbers.specs.Bounds.{weightless, TasksAtMost, BatchesAtMost, ScopesAtMost, EndsAtMost, ends_told, ActiveAtMost, enrols_asked}
use Rattle.gr_bounds_counts.specs.Counts.{LoopsFit, CountAtMost}
use Rattle.gr_bounds_tails.specs.Tails.{TailAtMost, tails_told}

-- After so many steps: the numbers of the next tasks, with the slots that wait to make one; of the next batches, with the calls that wait; of the next scopes;
-- the ends of tasks of which messages tell; the active cores of each scope, with those that ask to be one; the tasks that cores count of it, above the indices
-- of a loop; and where each vector's words end, with the pushes that wait. A number beyond those of the cores counts nothing.
pub record BoundsStand (given : Given) (world : World) (steps : ℕ) : Type 0 where
  pub tasks : Shared TasksAtMost weightless given.setup.cores (steps + 1) world
  pub batches : Shared BatchesAtMost weightless given.setup.cores (steps + 1) world
  pub scopes : Shared ScopesAtMost weightless given.setup.cores (steps + 1) world
  pub ends : Shared EndsAtMost ends_told given.setup.cores (steps + 1) world
  pub active : (scope : ScopeId) → Shared (ActiveAtMost scope) (enrols_asked scope) given.setup.cores (steps + 1) world
  pub counts : (scope : ScopeId) → Shared (CountAtMost scope (2 ^ 64)) weightless given.setup.cores (steps + 1) world
  pub tails : (number : ℕ) → Shared (TailAtMost number) (tails_told number) given.setup.cores (steps + 1) world
  pub unused : (core : ℕ) → 0 < core → given.setup.cores ≤ core → (bodies world core).scopes ≡ no_scopes

-- A fact of the part of what fits: each loop to which a task in a slot comes next has at most as many indices as there are words.
abbrev pub LoopsTell : Given → World → Type 0
LoopsTell given world = (core : ℕ) → core < given.setup.cores → LoopsFit (2 ^ 64) core (bodies world core)
