-- The laws of what the part of scopes tells at the start of a step.
use Rattle.std.specs.Prelude.{ℕ, List}
use Rattle.gr_lang.specs.States.{State}
use Rattle.gr_msg.specs.declared.message.ScopeId.{ScopeId}
use Rattle.gr_msg.specs.declared.message.Msg.TheVariants as msg
use Rattle.gr_machine.specs.States.{Suspended}
use Rattle.gr_stands.specs.Worlds.{Given, World}
use Rattle.gr_stands_calls.specs.Acting.{IsFirst, IsFirstLetter}
use Rattle.gr_stands_enrols.specs.Enrolling.{EnrolTells}
use Rattle.gr_stands_passes.specs.Passing.{LeaveTells}
use Rattle.gr_stands_runs.specs.Telling.{ScopesTell}
use Rattle.gr_scopes.specs.Trees.{Names}
use Rattle.gr_scopes_tells.specs.Told.{StandsTold}

-- Of the first ready task of a core: its core may count a new one or ask whether it may, the scope that it opens next is new, where it arrives at the end of a
-- finish that is counted there, and where it passes no work is left; nor is any in a loop over nothing.
abbrev pub TasksAreTold : Type 0
TasksAreTold =
    (given : Given) (names : Names) (world : World) (state : State) (me slot : ℕ) (more : List ℕ) (task : Suspended)
    → StandsTold given names world state → IsFirst world me slot more task → ScopesTell given world state me slot task

-- Of a core that leaves a scope: where it is the last, whoever waits there may pass.
abbrev pub LeavesAreTold : Type 0
LeavesAreTold =
    (given : Given) (names : Names) (world : World) (state : State) (me from : ℕ) (scope : ScopeId)
    → StandsTold given names world state → IsFirstLetter given world me from (msg.Leave scope) → LeaveTells world state me scope

-- Of the tasks that wait until their core may count in a scope: their next action is a spawn that fits, and they are in slots of their own.
abbrev pub EnrolmentsAreTold : Type 0
EnrolmentsAreTold =
    (given : Given) (names : Names) (world : World) (state : State) (me : ℕ) (scope : ScopeId) → StandsTold given names world state → EnrolTells given world me scope
