-- The laws of events and of the part of work.
use Rattle.std.specs.Prelude.{◌≡◌, ℕ, false, [], ◌∷◌}
use Rattle.gr_lang.specs.States.{State, opening_state}
use Rattle.gr_valid.specs.Valid.{IsValid}
use Rattle.gr_msg.specs.declared.message.Msg.{Msg}
use Rattle.gr_machine.specs.Histories.{Sent}
use Rattle.gr_machine.specs.GlobalRuns.{opening_world}
use Rattle.gr_machine.specs.Nets.{world_in}
use Rattle.gr_machine.specs.Serves.{serves, settles}
use Rattle.gr_machine.specs.Closes.{closes}
use Rattle.gr_machine.specs.Events.{gives, asks}
use Rattle.gr_stands.specs.Worlds.{Given, machine_in, World, bodies, Moves}
use Rattle.gr_stands.specs.Actions.{ActionsFit}
use Rattle.gr_stands.specs.Stands.{Stands}
use Rattle.gr_stands_calls.specs.Acting.{letter, IsFirstLetter}
use Rattle.gr_stands_outcomes.specs.Inner.{outcome_of, run_outcome}
use Rattle.gr_scopes.specs.Trees.{Names, tree_of, NamesGrow}
use Rattle.gr_scopes.specs.Scopes.{ScopesStand}
use Rattle.gr_shares_events.specs.Holding.{WorkHolds, OpenedAreNamed, NamesGoOn, Leads}

-- What a Run does first: a ready task acts, or a unit is taken up.
abbrev pub RunsKeepWork : Type 0
RunsKeepWork =
    (given : Given) (sent : Sent) (names more : Names) (before later : World) (state next : State) (me slot : ℕ)
    → Stands given before state → ActionsFit given state → IsValid given.program state
    → Leads given sent before later state next me [] (run_outcome (machine_in given) me (bodies before me) slot (bodies before me).tasks.ready)
    → NamesGoOn names more later next → WorkHolds given names before state → WorkHolds given more later next

-- What a Serve does first with its message.
abbrev pub ServesKeepWork : Type 0
ServesKeepWork =
    (given : Given) (sent : Sent) (names more : Names) (before later : World) (state next : State) (me from : ℕ) (message : Msg)
    → IsFirstLetter given before me from message → IsValid given.program state
    → Leads given sent before later state next me (letter from message ∷ []) (outcome_of (bodies before me) (serves (machine_in given) me (bodies before me) from message))
    → NamesGrow names more → WorkHolds given names before state → WorkHolds given more later next

-- The end of a turn, after any message.
abbrev pub EndsKeepWork : Type 0
EndsKeepWork =
    (given : Given) (sent : Sent) (names more : Names) (before later : World) (state next : State) (me : ℕ) (message : Msg)
    → IsValid given.program state
    → Leads given sent before later state next me [] (outcome_of (bodies before me) (settles (machine_in given) (bodies before me) message))
    → NamesGrow names more → WorkHolds given names before state → WorkHolds given more later next

abbrev pub ClosesKeepWork : Type 0
ClosesKeepWork =
    (given : Given) (sent : Sent) (names more : Names) (before later : World) (state next : State) (me object : ℕ)
    → IsValid given.program state → Leads given sent before later state next me [] (closes (machine_in given) (bodies before me) object)
    → NamesGrow names more → WorkHolds given names before state → WorkHolds given more later next

-- Gifts, and a question for work that isn't out yet.
abbrev pub GivesKeepWork : Type 0
GivesKeepWork =
    (given : Given) (sent : Sent) (names more : Names) (before later : World) (state next : State) (me : ℕ)
    → Leads given sent before later state next me [] (gives (bodies before me))
    → NamesGrow names more → WorkHolds given names before state → WorkHolds given more later next

abbrev pub StealsKeepWork : Type 0
StealsKeepWork =
    (given : Given) (sent : Sent) (names more : Names) (before later : World) (state next : State) (me victim : ℕ)
    → (bodies before me).steals.asked victim ≡ false → Leads given sent before later state next me [] (asks victim (bodies before me))
    → NamesGrow names more → WorkHolds given names before state → WorkHolds given more later next

abbrev pub OpeningsHoldWork : Type 0
OpeningsHoldWork =
    (given : Given) (names : Names) (slot : ℕ)
    → WorkHolds given names (world_in (opening_world (machine_in given) slot)) (opening_state given.program given.setup.steps)

-- A Ship and a Take.
abbrev pub MovesKeepWork : Type 0
MovesKeepWork =
    (given : Given) (names more : Names) (before later : World) (state : State)
    → Moves given.setup.cores before later → NamesGrow names more → WorkHolds given names before state → WorkHolds given more later state

-- The part of scopes tells how open scopes are named.
abbrev pub ScopesTellNames : Type 0
ScopesTellNames = (given : Given) (names : Names) (world : World) (state : State) → ScopesStand given names world (tree_of state) → OpenedAreNamed names world state
