-- The part of work between events, and in the course of one.
use Rattle.std.specs.Prelude.{◌≢◌, ℕ}
use Rattle.gr_lang.specs.States.{State}
use Rattle.gr_stands.specs.Worlds.{Given, World, bodies}
use Rattle.gr_scopes.specs.Trees.{Names}
use Rattle.gr_shares.specs.Loops.{loops_of}
use Rattle.gr_shares.specs.Shares.{KeepsNothing, SharesStand}
use Rattle.gr_shares_ranges.specs.Ranges.{RangesStand}
use Rattle.gr_shares_events.specs.Holding.{WorkHolds}

-- The part of work: the units and the questions stand for the loops of the plain state, no core has units for others while one waits, and each loop is waited
-- at until all its indices have begun.
pub record WorkStands (given : Given) (names : Names) (world : World) (state : State) : Type 0 where
  pub shares : SharesStand given names world (loops_of state)
  pub ranges : RangesStand state

-- In the course of an event of this core it alone may have units for others while one waits at it; the gifts at the event's end mend that.
pub record WorkGoesOn (given : Given) (names : Names) (me : ℕ) (world : World) (state : State) : Type 0 where
  pub holds : WorkHolds given names world state
  pub others : (core : ℕ) → core ≢ me → KeepsNothing (bodies world core)
