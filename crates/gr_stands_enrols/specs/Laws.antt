-- The law of a core that counts in a scope from now on.
use Rattle.std.specs.Prelude.{◌≡◌, ℕ, List, [], ◌∷◌, Some}
use Rattle.gr_lang.specs.States.{State}
use Rattle.gr_msg.specs.declared.message.Msg.TheVariants as msg
use Rattle.gr_msg.specs.declared.message.ScopeId.{ScopeId}
use Rattle.gr_machine.specs.Outcomes.{Outcome}
use Rattle.gr_machine.specs.Serves.{serves}
use Rattle.gr_stands.specs.Worlds.{Given, machine_in, World, bodies}
use Rattle.gr_stands.specs.Stands.{Stands}
use Rattle.gr_stands_calls.specs.Acting.{letter, IsFirstLetter}
use Rattle.gr_stands_chains.specs.Chains.{ActsWithEntries}
use Rattle.gr_stands_enrols.specs.Enrolling.{EnrolTells}

-- Serve: each task that waited for that makes its new one, in the order of their slots.
abbrev pub EnrolmentsAreServed : Type 0
EnrolmentsAreServed =
    (given : Given) (world : World) (state : State) (me from : ℕ) (scope : ScopeId) (outcome : Outcome)
    → Stands given world state → IsFirstLetter given world me from (msg.EnrolAck scope) → EnrolTells given world me scope
    → serves (machine_in given) me (bodies world me) from (msg.EnrolAck scope) ≡ Some outcome
    → ActsWithEntries given world state me (letter from (msg.EnrolAck scope) ∷ []) (Some outcome)
