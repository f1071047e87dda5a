-- The laws of messages, of the ends of turns, of gifts, of Closes and of Steals.
use Rattle.std.specs.Prelude.{ℕ, ◌<◌, [], ◌∷◌}
use Rattle.gr_lang.specs.States.{State}
use Rattle.gr_msg.specs.declared.message.Msg.{Msg}
use Rattle.gr_msg.specs.declared.message.Msg.TheVariants as msg
use Rattle.gr_msg.specs.declared.message.ScopeId.{ScopeId}
use Rattle.gr_machine.specs.Histories.{Sent}
use Rattle.gr_machine.specs.Serves.{serves, settles}
use Rattle.gr_machine.specs.Closes.{closes}
use Rattle.gr_machine.specs.Events.{gives, asks}
use Rattle.gr_stands.specs.Worlds.{Given, machine_in, World, bodies}
use Rattle.gr_stands_calls.specs.Acting.{letter, IsFirstLetter}
use Rattle.gr_stands_closes.specs.Closing.{CloseTells}
use Rattle.gr_stands_outcomes.specs.Inner.{outcome_of}
use Rattle.gr_scopes.specs.Trees.{Names}
use Rattle.gr_scopes_opens.specs.Keeping.{StandsWith}
use Rattle.gr_scopes_runs.specs.Leading.{KeepsLeading}
use Rattle.gr_scopes_serves.specs.Serving.{ServeTells, SettleTells}

-- A core may count in a scope: each task that waited for that makes its new one.
abbrev pub EnrolmentsLead : Type 0
EnrolmentsLead =
    (given : Given) (sent : Sent) (names : Names) (world : World) (state : State) (me from : ℕ) (scope : ScopeId)
    → StandsWith given names world state → IsFirstLetter given world me from (msg.EnrolAck scope)
    → KeepsLeading given sent names world state me (letter from (msg.EnrolAck scope) ∷ [])
    (outcome_of (bodies world me) (serves (machine_in given) me (bodies world me) from (msg.EnrolAck scope)))

-- A core has left a scope: others are active there, the task that waits passes, or the program has ended.
abbrev pub LeavesLead : Type 0
LeavesLead =
    (given : Given) (sent : Sent) (names : Names) (world : World) (state : State) (me from : ℕ) (scope : ScopeId)
    → StandsWith given names world state → IsFirstLetter given world me from (msg.Leave scope)
    → KeepsLeading given sent names world state me (letter from (msg.Leave scope) ∷ [])
    (outcome_of (bodies world me) (serves (machine_in given) me (bodies world me) from (msg.Leave scope)))

-- Any message, whether or not it finds something to act on.
abbrev pub MessagesLead : Type 0
MessagesLead =
    (given : Given) (sent : Sent) (names : Names) (world : World) (state : State) (me from : ℕ) (message : Msg)
    → StandsWith given names world state → IsFirstLetter given world me from message → ServeTells world me from message
    → KeepsLeading given sent names world state me (letter from message ∷ []) (outcome_of (bodies world me) (serves (machine_in given) me (bodies world me) from message))

-- The end of a turn, to which a message may have led.
abbrev pub TurnEndsLead : Type 0
TurnEndsLead =
    (given : Given) (sent : Sent) (names : Names) (world : World) (state : State) (me : ℕ) (message : Msg)
    → StandsWith given names world state → me < given.setup.cores → SettleTells world state me message
    → KeepsLeading given sent names world state me [] (outcome_of (bodies world me) (settles (machine_in given) (bodies world me) message))

abbrev pub GiftsLead : Type 0
GiftsLead =
    (given : Given) (sent : Sent) (names : Names) (world : World) (state : State) (me : ℕ)
    → StandsWith given names world state → me < given.setup.cores → KeepsLeading given sent names world state me [] (gives (bodies world me))

abbrev pub ClosesLead : Type 0
ClosesLead =
    (given : Given) (sent : Sent) (names : Names) (world : World) (state : State) (me object : ℕ)
    → StandsWith given names world state → me < given.setup.cores → CloseTells world me object
    → KeepsLeading given sent names world state me [] (closes (machine_in given) (bodies world me) object)

abbrev pub StealsLead : Type 0
StealsLead =
    (given : Given) (sent : Sent) (names : Names) (world : World) (state : State) (me victim : ℕ)
    → StandsWith given names world state → me < given.setup.cores → KeepsLeading given sent names world state me [] (asks victim (bodies world me))
