-- What comes of a message for the part of scopes.
use Rattle.std.specs.Prelude.{◌≡◌, ℕ, ◌<◌, List, Option, Some}
use Rattle.gr_net.specs.Sums.{Each}
use Rattle.gr_machine.specs.States.{Letter}
use Rattle.gr_machine.specs.Outcomes.{Outcome}
use Rattle.gr_stands.specs.Worlds.{Given, World}
use Rattle.gr_scopes.specs.Trees.{Tree, Names}
use Rattle.gr_scopes_opens.specs.Keeping.{KeepsScopes}

-- What is made acts; it sends to cores that there are, and keeps the part of scopes.
pub record KeepsMade (given : Given) (world : World) (me : ℕ) (got : List Letter) (made : Option Outcome) (names : Names) (tree : Tree) : Type 0 where
  pub outcome : Outcome
  pub acts : made ≡ Some outcome
  pub sends : Each (λ send. send.to < given.setup.cores) outcome.sends
  pub keeps : KeepsScopes given world me got outcome names tree
