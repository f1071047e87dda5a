-- Invariants: what all parts of 'stands for' must be, taken together, so that each run has a legal history.
use Rattle.std.specs.Prelude.{◌≡◌, ◌+◌, ◌≤◌, ◌<◌, ℕ, List, length, Some}
use Rattle.gr_lang.specs.States.{State, opening_state}
use Rattle.gr_lang.specs.Histories.{final}
use Rattle.gr_merge.specs.GlobalRuns.{goes_at}
use Rattle.gr_machine.specs.declared.journal.Stamped.{Stamped}
use Rattle.gr_machine.specs.Histories.{Sent, history_of}
use Rattle.gr_machine.specs.Steppers.{kind_of, stepper}
use Rattle.gr_machine.specs.GlobalRuns as runs
use Rattle.gr_machine.specs.GlobalRuns.{Step, opening_world, global_run}
use Rattle.gr_machine.specs.Nets.{world_in}
use Rattle.gr_stands.specs.Worlds.{Given, machine_in, World}
use Rattle.gr_stands.specs.Stands.{IsSound}
use Rattle.gr_stands_steps.specs.Entries.{StandsAmongCores}
use Rattle.gr_stands_steps.specs.Telling.{PartsTell}
use Rattle.gr_stands_made.specs.Keeping.{KeptByPieces}
use Rattle.gr_stands_histories.specs.Running.{AllSlotsFit, none_sent}

-- Facts of worlds and plain states, where some batches have gone off, between events and in the course of one at a core; and a fact of worlds by how many steps have led
-- there, which are fewer than the most. They hold before the first step; they tell what a step at any core needs; each piece of a step keeps them; and each step
-- counts.
pub record IsInvariant (given : Given) (most : ℕ) (Counted : ℕ → World → Type 0) (Holds : Sent → World → State → Type 0) (Between : ℕ → Sent → World → State → Type 0) : Type 0 where
  pub opens : (slot : ℕ) → slot < given.slots
      → Holds none_sent (world_in (opening_world (machine_in given) slot)) (opening_state given.program given.setup.steps)
  pub begins : (slot : ℕ) → slot < given.slots → Counted 0 (world_in (opening_world (machine_in given) slot))
  pub tells : (steps : ℕ) (sent : Sent) (world : World) (state : State) (me : ℕ)
      → steps < most → me < given.setup.cores → StandsAmongCores given world state → Counted steps world → Holds sent world state
      → PartsTell given sent world state me
  pub counts : (steps : ℕ) (sent : Sent) (before after : runs.World) (state : State) (me : ℕ) (entry : Stamped)
      → steps < most → goes_at (stepper (machine_in given)) (kind_of entry.event) me before entry ≡ Some after
      → StandsAmongCores given (world_in before) state → Holds sent (world_in before) state
      → Counted steps (world_in before) → Counted (steps + 1) (world_in after)
  pub keeps : (steps : ℕ) → steps < most → KeptByPieces given (λ sent world state. Counted steps world × Holds sent world state) Between Holds

-- The history of the marks of a world is legal, the world stands for the plain state after it, and the fact holds there.
pub record RunHolds (given : Given) (Holds : Sent → World → State → Type 0) (world : runs.World) : Type 0 where
  pub state : State
  pub leads : final given.program given.setup.cores given.setup.steps (history_of world.marks) ≡ Some state
  pub stands : StandsAmongCores given (world_in world) state
  pub sent : Sent
  pub holds : Holds sent (world_in world) state

-- Each global run of the machine of at most so many steps, whatever its schedule, the slots of whose new tasks are below the number that is given. It speaks of
-- any facts, and so no contract can state it: it is a lemma for other proofs.
abbrev pub InvariantsHold : Type 1
InvariantsHold =
    (given : Given) (most : ℕ) (Counted : ℕ → World → Type 0) (Holds : Sent → World → State → Type 0) (Between : ℕ → Sent → World → State → Type 0)
    → IsSound given → IsInvariant given most Counted Holds Between
    → (slot : ℕ) (steps : List Step) (world : runs.World) → slot < given.slots → AllSlotsFit given steps → length steps ≤ most
    → global_run (machine_in given) slot steps ≡ Some world → RunHolds given Holds world
