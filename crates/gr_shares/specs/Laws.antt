-- The laws of work: before the first step the part holds.
use Rattle.std.specs.Prelude.{ℕ}
use Rattle.gr_lang.specs.States.{opening_state}
use Rattle.gr_machine.specs.GlobalRuns.{opening_world}
use Rattle.gr_machine.specs.Nets.{world_in}
use Rattle.gr_stands.specs.Worlds.{Given, machine_in}
use Rattle.gr_scopes.specs.Trees.{Names}
use Rattle.gr_shares.specs.Loops.{loops_of}
use Rattle.gr_shares.specs.Shares.{SharesStand}

abbrev pub OpeningsHaveShares : Type 0
OpeningsHaveShares =
    (given : Given) (names : Names) (slot : ℕ)
    → SharesStand given names (world_in (opening_world (machine_in given) slot)) (loops_of (opening_state given.program given.setup.steps))
