-- What comes of an event for the part of scopes.
use Rattle.std.specs.Prelude.{◌≡◌, ℕ, ◌<◌, List, Some}
use Rattle.gr_lang.specs.States.{State}
use Rattle.gr_machine.specs.States.{Letter, Suspended}
use Rattle.gr_machine.specs.Outcomes.{Outcome}
use Rattle.gr_stands.specs.Worlds.{Given, World, Acts}
use Rattle.gr_stands.specs.Stands.{Stands}
use Rattle.gr_stands_calls.specs.Acting.{IsFirst}
use Rattle.gr_scopes.specs.Trees.{Holder, Tree, Names, tree_of}
use Rattle.gr_scopes.specs.Scopes.{ScopesStand}

-- The outcome at the core, which has taken up these letters, keeps the part of scopes; from then on it is that of these names and this tree.
abbrev pub KeepsScopes : Given → World → ℕ → List Letter → Outcome → Names → Tree → Type 0
KeepsScopes given world me got outcome names tree = (next : World) → Acts given.setup.cores world next me got outcome → ScopesStand given names next tree

-- The world stands for the plain state, with the scopes of these names.
pub record StandsWith (given : Given) (names : Names) (world : World) (state : State) : Type 0 where
  pub stands : Stands given world state
  pub scopes : ScopesStand given names world (tree_of state)

-- The first ready task of a core, and what the plain state has of its scopes.
pub record IsNext (given : Given) (world : World) (state : State) (me slot : ℕ) (more : List ℕ) (task : Suspended) (holder : Holder) : Type 0 where
  pub here : me < given.setup.cores
  pub first : IsFirst world me slot more task
  pub held : (tree_of state).holders task.id ≡ Some holder
