-- The laws of messages of turns, of calls that go off and of the end of a turn.
use Rattle.std.specs.Prelude.{◌≡◌, ℕ, [], ◌∷◌, true, Some}
use Rattle.gr_msg.specs.declared.message.Msg.{Msg}
use Rattle.gr_vector.specs.declared.ends.Ends.{Ends}
use Rattle.gr_machine.specs.Machines.{thing}
use Rattle.gr_machine.specs.Openings.{is_vector}
use Rattle.gr_machine.specs.Outcomes.{Outcome}
use Rattle.gr_machine.specs.Serves.{serves}
use Rattle.gr_machine.specs.Closes.{closes}
use Rattle.gr_machine.specs.TurnServes.{settled_vector}
use Rattle.gr_stands.specs.Worlds.{Given, machine_in, World, bodies, Acts}
use Rattle.gr_lines.specs.Lines.{vector_in}
use Rattle.gr_lines.specs.Waiting.{HasLines}
use Rattle.gr_lines_turns.specs.Tokens.{TurnStands}
use Rattle.gr_lines_tokens.specs.Granting.{IsToken, GrantFits, IsMade, ends_behind}

-- Serve: a message of the turns of a vector that a core takes up, whatever it does then, finds something to act on.
abbrev pub TokensAreServed : Type 0
TokensAreServed =
    (given : Given) (world after : World) (number me from : ℕ) (message : Msg) (outcome : Outcome) (ends : Ends)
    → Acts given.setup.cores world after me (record { from = from; message = message } ∷ []) outcome
    → HasLines given me (bodies world me) → is_vector (thing (machine_in given) number) ≡ true → GrantFits (bodies world me) number ends message
    → TurnStands given world number ends → IsToken number message → IsMade (serves (machine_in given) me (bodies world me) from message)

-- Serve: a message, whichever it is, where it finds something to act on.
abbrev pub MessagesKeepTurns : Type 0
MessagesKeepTurns =
    (given : Given) (world after : World) (number me from : ℕ) (message : Msg) (outcome : Outcome) (ends : Ends)
    → Acts given.setup.cores world after me (record { from = from; message = message } ∷ []) outcome
    → serves (machine_in given) me (bodies world me) from message ≡ Some outcome
    → HasLines given me (bodies world me) → is_vector (thing (machine_in given) number) ≡ true
    → TurnStands given world number ends → TurnStands given after number ends

-- Close: calls go off.
abbrev pub ClosesKeepTurns : Type 0
ClosesKeepTurns =
    (given : Given) (world after : World) (number me object : ℕ) (ends : Ends)
    → Acts given.setup.cores world after me [] (closes (machine_in given) (bodies world me) object)
    → HasLines given me (bodies world me) → is_vector (thing (machine_in given) number) ≡ true
    → TurnStands given world number ends → TurnStands given after number ends

-- Serve: a turn of the vector ends behind a message. Its words stand then where its calls leave them.
abbrev pub EndsKeepTurns : Type 0
EndsKeepTurns =
    (given : Given) (world after : World) (number me : ℕ) (outcome : Outcome) (ends : Ends)
    → Acts given.setup.cores world after me [] outcome
    → settled_vector (machine_in given) (bodies world me) number ((bodies world me).vectors.vectors number) ≡ Some outcome
    → HasLines given me (bodies world me) → is_vector (thing (machine_in given) number) ≡ true
    → TurnStands given world number ends
    → TurnStands given after number (ends_behind (vector_in ((bodies world me).vectors.vectors number)).turn ends)
