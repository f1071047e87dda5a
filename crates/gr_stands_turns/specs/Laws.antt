-- The law of the end of a turn.
use Rattle.std.specs.Prelude.{◌≡◌, ℕ, ◌<◌, List, [], Some}
use Rattle.gr_lang.specs.States.{State}
use Rattle.gr_vector.specs.declared.ends.Ends.{Ends}
use Rattle.gr_machine.specs.States.{Turn, Vector}
use Rattle.gr_machine.specs.TurnServes.{turn_finished}
use Rattle.gr_stands.specs.Worlds.{Given, machine_in, World, bodies}
use Rattle.gr_stands.specs.Stands.{IsSound, Stands}
use Rattle.gr_stands_chains.specs.Chains.{ActsWithEntries}
use Rattle.gr_stands_turns.specs.Turning.{TurnTells}

-- Serve: a turn of which nothing is left is finished, after the message that left it so.
abbrev pub TurnsFinish : Type 0
TurnsFinish =
    (given : Given) (world : World) (state : State) (me number : ℕ) (vector : Vector) (turn : Turn) (ends : Ends)
    → IsSound given → Stands given world state → me < given.setup.cores → TurnTells world state me number turn
    → ActsWithEntries given world state me [] (Some (turn_finished (machine_in given) (bodies world me) number vector turn ends))
