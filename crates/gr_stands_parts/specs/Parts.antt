-- All parts of 'stands for', between events and in the course of one.
use Rattle.std.specs.Prelude.{ℕ, Bool, true, false, List}
use Rattle.gr_lang.specs.States.{State}
use Rattle.gr_vector.specs.declared.ends.Ends.{Ends}
use Rattle.gr_machine.specs.Histories.{Sent}
use Rattle.gr_stands.specs.Worlds.{Given, World}
use Rattle.gr_scopes.specs.Trees.{Names, tree_of}
use Rattle.gr_scopes.specs.Scopes.{ScopesStand}
use Rattle.gr_shares_steps.specs.Stepping.{WorkStands, WorkGoesOn}
use Rattle.gr_batches.specs.Batches.{BatchesStand}
use Rattle.gr_lines.specs.Waiting.{LinesStand}
use Rattle.gr_lines_turns.specs.Tokens.{TurnsStand}
use Rattle.gr_lines_steps.specs.Behind.{GrantsTell}
use Rattle.gr_elements_steps.specs.Behind.{ElementsHold}
use Rattle.gr_elements_lines.specs.Lines.{HasWords}
use Rattle.gr_fits.specs.Reached.{IsReached}
use Rattle.gr_bounds_stands.specs.Standing.{BoundsStand}
use Rattle.gr_bounds_stands.specs.Telling.{BoundsTell}

-- The part of work: between events, and in the course of one of this core.
abbrev pub WorkAt : Given → Names → Bool → ℕ → World → State → Type 0
WorkAt given names true me world state = WorkStands given names world state
WorkAt given names false me world state = WorkGoesOn given names me world state

-- All parts: a history leads to the plain state; its scopes have names, with which scopes and work stand; batches, calls that wait on vectors, whose turn it is
-- of each, which words it has and where they are. In the course of an event only the part of work is another.
pub record PartsStand (given : Given) (rests : Bool) (me : ℕ) (sent : Sent) (world : World) (state : State) : Type 0 where
  pub reached : IsReached given state
  pub names : Names
  pub scopes : ScopesStand given names world (tree_of state)
  pub work : WorkAt given names rests me world state
  pub batches : BatchesStand given sent world state
  pub lines : LinesStand given world
  pub ends : ℕ → Ends
  pub turns : TurnsStand given world ends
  pub words : ℕ → List ℕ
  pub lists : HasWords given state words
  pub elements : ElementsHold given world ends words

-- Between events, whatever the core.
abbrev pub PartsRest : Given → Sent → World → State → Type 0
PartsRest given sent world state = PartsStand given true 0 sent world state

-- In the course of an event of a core.
abbrev pub PartsGoOn : Given → ℕ → Sent → World → State → Type 0
PartsGoOn given me sent world state = PartsStand given false me sent world state

-- What bounds tell at the start of an event: numbers and counts have room, and so have the positions of what a granted turn pushes.
pub record HasRoom (given : Given) (world : World) : Type 0 where
  pub bounds : BoundsTell given world
  pub grants : (core : ℕ) → GrantsTell given world core

-- After so many steps the bounds stand.
abbrev pub BoundsAfter : Given → ℕ → World → Type 0
BoundsAfter given steps world = BoundsStand given world steps

abbrev pub RoomAt : Bool → Given → World → Type 0
RoomAt true given world = HasRoom given world
RoomAt false given world = Unit
