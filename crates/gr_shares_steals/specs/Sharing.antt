-- What comes of an event for the part of work.
use Rattle.std.specs.Prelude.{◌≡◌, ℕ, List, Option, Some}
use Rattle.gr_machine.specs.States.{Letter}
use Rattle.gr_machine.specs.Outcomes.{Outcome}
use Rattle.gr_stands.specs.Worlds.{Given, World, Acts}
use Rattle.gr_scopes.specs.Trees.{Names}
use Rattle.gr_shares.specs.Loops.{Loops}
use Rattle.gr_shares.specs.Shares.{SharesHold}

-- The outcome at the core, which has taken up these letters, keeps the sums of the part of work; from then on it is that of these names and loops.
abbrev pub KeepsShares : Given → World → ℕ → List Letter → Outcome → Names → Loops → Type 0
KeepsShares given world me got outcome names loops = (next : World) → Acts given.setup.cores world next me got outcome → SharesHold given names next loops

-- What is made acts, and keeps them.
pub record ActsSharing (given : Given) (world : World) (me : ℕ) (got : List Letter) (made : Option Outcome) (names : Names) (loops : Loops) : Type 0 where
  pub outcome : Outcome
  pub acts : made ≡ Some outcome
  pub keeps : KeepsShares given world me got outcome names loops
