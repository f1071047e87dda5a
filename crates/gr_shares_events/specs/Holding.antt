-- What is kept of the part of work in the course of events, and what it needs of the names of scopes.
use Rattle.std.specs.Prelude.{◌≡◌, ℕ, List, map, Some}
use Rattle.std.specs.FinMap as fin
use Rattle.gr_lang.specs.States.{Task, State}
use Rattle.gr_lang.specs.Histories.{after}
use Rattle.gr_machine.specs.States.{Letter, Suspended}
use Rattle.gr_machine.specs.Outcomes.{Outcome}
use Rattle.gr_machine.specs.Histories.{Sent}
use Rattle.gr_stands.specs.Worlds.{Given, World, bodies, Acts}
use Rattle.gr_stands_outcomes.specs.Marks.{entries_from}
use Rattle.gr_scopes.specs.Trees.{Names, NamesGrow}
use Rattle.gr_shares.specs.Loops.{loops_of}
use Rattle.gr_shares.specs.Shares.{SharesHold}
use Rattle.gr_shares_ranges.specs.Ranges.{RangesStand}

-- The units and the questions stand for the loops of the plain state, and each of its loops is waited at until all its indices have begun.
pub record WorkHolds (given : Given) (names : Names) (world : World) (state : State) : Type 0 where
  pub shares : SharesHold given names world (loops_of state)
  pub ranges : RangesStand state

-- A fact of the part of scopes: the scopes that a task in a slot has opened have the names that the slot says.
abbrev pub OpenedAreNamed : Names → World → State → Type 0
OpenedAreNamed names world state =
    (core slot : ℕ) (task : Suspended) (plain : Task) → (bodies world core).tasks.slots slot ≡ Some task → fin.get state.tasks task.id ≡ Some plain
    → map names plain.opened ≡ map Some task.opened

-- Facts of the part of scopes: each scope keeps its name, and then those that are open have theirs.
pub record NamesGoOn (names more : Names) (later : World) (next : State) : Type 0 where
  pub named : NamesGrow names more
  pub opened : OpenedAreNamed more later next

-- An outcome at a core leads from one world to the other, and the entries of its marks from one plain state to the other.
pub record Leads (given : Given) (sent : Sent) (before later : World) (state next : State) (me : ℕ) (got : List Letter) (outcome : Outcome) : Type 0 where
  pub acts : Acts given.setup.cores before later me got outcome
  pub leads : after given.program given.setup.cores given.setup.steps state (entries_from sent me outcome.marks) ≡ Some next
