-- The laws of cores that ask whether they may count in a scope, and of those that may: each event acts and keeps the part of scopes.
use Rattle.std.specs.Prelude.{◌≡◌, ℕ, ◌^◌, true, nat_lt, List, [], ◌∷◌, length, Some}
use Rattle.gr_lang.specs.States.{State}
use Rattle.gr_msg.specs.declared.message.ScopeId.{ScopeId}
use Rattle.gr_msg.specs.declared.message.Msg.TheVariants as msg
use Rattle.gr_event.specs.declared.masters.Master.{Master}
use Rattle.gr_machine.specs.Serves.{serves}
use Rattle.gr_stands.specs.Worlds.{Given, machine_in, World, bodies}
use Rattle.gr_stands_calls.specs.Acting.{letter, IsFirstLetter}
use Rattle.gr_scopes.specs.Trees.{Names, tree_of}
use Rattle.gr_scopes_opens.specs.Keeping.{StandsWith}
use Rattle.gr_scopes_leaves.specs.Served.{KeepsMade}
use Rattle.gr_scopes_enrols.specs.Several.{with_tasks, AreWaiting}

-- Where a core asks, the scope has a master.
abbrev pub EnrolsFindMasters : Type 0
EnrolsFindMasters =
    (given : Given) (names : Names) (world : World) (state : State) (me from : ℕ) (scope : ScopeId)
    → StandsWith given names world state → IsFirstLetter given world me from (msg.Enrol scope)
    → (master : Master) × ((bodies world me).scopes.masters scope ≡ Some master)

-- Serve: a core asks, and is active in the scope from then on.
abbrev pub EnrolsKeepScopes : Type 0
EnrolsKeepScopes =
    (given : Given) (names : Names) (world : World) (state : State) (me from : ℕ) (scope : ScopeId) (master : Master)
    → StandsWith given names world state → IsFirstLetter given world me from (msg.Enrol scope)
    → (bodies world me).scopes.masters scope ≡ Some master → nat_lt master.active (2 ^ 63) ≡ true
    → KeepsMade given world me (letter from (msg.Enrol scope) ∷ []) (serves (machine_in given) me (bodies world me) from (msg.Enrol scope)) names (tree_of state)

-- Where a core is told that it may count, slots wait for that.
abbrev pub AcksFindSlots : Type 0
AcksFindSlots =
    (given : Given) (names : Names) (world : World) (state : State) (me from : ℕ) (scope : ScopeId)
    → StandsWith given names world state → IsFirstLetter given world me from (msg.EnrolAck scope)
    → (number : ℕ) × (slots : List ℕ) × AreWaiting names (bodies world me) scope number slots

-- Serve: the core may count, and each task that waited for that makes its new one, in the order of their slots.
abbrev pub AcksKeepScopes : Type 0
AcksKeepScopes =
    (given : Given) (names : Names) (world : World) (state : State) (me from : ℕ) (scope : ScopeId) (number : ℕ) (slots : List ℕ)
    → StandsWith given names world state → IsFirstLetter given world me from (msg.EnrolAck scope) → AreWaiting names (bodies world me) scope number slots
    → KeepsMade given world me (letter from (msg.EnrolAck scope) ∷ []) (serves (machine_in given) me (bodies world me) from (msg.EnrolAck scope))
    names (with_tasks (tree_of state) me (bodies world me).tasks.next number (length slots))
