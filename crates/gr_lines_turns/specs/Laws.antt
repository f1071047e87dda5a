-- The laws of whose turn it is, whatever happens.
use Rattle.std.specs.Prelude.{ℕ, List}
use Rattle.gr_vector.specs.declared.ends.Ends.{Ends}
use Rattle.gr_net.specs.Flights.{Everywhere}
use Rattle.gr_machine.specs.States.{Letter}
use Rattle.gr_machine.specs.Outcomes.{Outcome}
use Rattle.gr_machine.specs.GlobalRuns.{opening_world}
use Rattle.gr_machine.specs.Nets.{world_in, messages_in}
use Rattle.gr_stands.specs.Worlds.{Given, machine_in, World, bodies, Acts, Moves}
use Rattle.gr_lines_turns.specs.Tokens.{TokenStands, TurnStands, TurnsStand}
use Rattle.gr_lines_turns.specs.TokenActs.{TurnAct, LeavesTurns}

-- An outcome that does what is asked of it keeps the turns of a vector. Where its words stand elsewhere than before, no message may tell of the old place.
abbrev pub TurnsAreKept : Type 0
TurnsAreKept =
    (given : Given) (world after : World) (number me : ℕ) (got : List Letter) (outcome : Outcome) (ends next : Ends)
    → Acts given.setup.cores world after me got outcome → TurnAct given world number me got outcome next
    → (Everywhere messages_in (TokenStands (machine_in given) number ends) given.setup.cores world → Everywhere messages_in (TokenStands (machine_in given) number next) given.setup.cores world)
    → TurnStands given world number ends → TurnStands given after number next

-- So does an outcome that leaves them.
abbrev pub OthersKeepTurns : Type 0
OthersKeepTurns =
    (given : Given) (world after : World) (number me : ℕ) (got : List Letter) (outcome : Outcome) (ends : Ends)
    → Acts given.setup.cores world after me got outcome → LeavesTurns number (bodies world me) got outcome
    → TurnStands given world number ends → TurnStands given after number ends

-- A Ship and a Take keep all.
abbrev pub MovesKeepTurns : Type 0
MovesKeepTurns =
    (given : Given) (world after : World) (ends : ℕ → Ends) → Moves given.setup.cores world after → TurnsStand given world ends → TurnsStand given after ends

-- Before the first step no turn is out, and each vector's words would stand from 0.
abbrev pub OpeningsHaveTurns : Type 0
OpeningsHaveTurns =
    (given : Given) (slot : ℕ) → TurnsStand given (world_in (opening_world (machine_in given) slot)) (λ number. record { head = 0; tail = 0 })
