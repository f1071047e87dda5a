-- The laws of worlds, and what the parts of 'stands for' ask of what happens.
use Rattle.std.specs.Prelude.{◌≡◌, ℕ, ◌+◌, ◌<◌, List, Some}
use Rattle.gr_msg.specs.declared.message.Msg.{Msg}
use Rattle.gr_agg.specs.Laws.{Adds}
use Rattle.gr_view.specs.Places.{put}
use Rattle.gr_lang.specs.States.{State}
use Rattle.gr_merge.specs.Machines.{takes, ships}
use Rattle.gr_merge.specs.GlobalRuns.{goes_at}
use Rattle.gr_machine.specs.declared.event.Event.TheVariants as event
use Rattle.gr_machine.specs.Machines.{Machine}
use Rattle.gr_machine.specs.Steppers.{stepper}
use Rattle.gr_machine.specs.GlobalRuns as runs
use Rattle.gr_machine.specs.Nets.{world_in}
use Rattle.gr_machine.specs.States.{Letter}
use Rattle.gr_machine.specs.Outcomes.{Outcome}
use Rattle.gr_stands.specs.Worlds.{Given, machine_in, World, Weight, bodies, in_flight, of_letters, of_sends, Acts, Moves}
use Rattle.gr_stands.specs.Censuses.{Weights, body_census, carried, census}
use Rattle.gr_stands.specs.Stands.{Stands}

-- An outcome at a core puts its body there, and no other core has another one.
abbrev pub OutcomesPutBodies : Type 0
OutcomesPutBodies =
    (count : ℕ) (before after : World) (me : ℕ) (got : List Letter) (outcome : Outcome) → Acts count before after me got outcome
    → bodies after ≡ put (bodies before) me outcome.body

-- What is sent is in flight, and what was taken up is not, at weights that add up over counts of one scope.
abbrev pub OutcomesFlow : Type 0
OutcomesFlow =
    (count : ℕ) (before after : World) (me : ℕ) (got : List Letter) (outcome : Outcome) → Acts count before after me got outcome
    → (weight : Weight) → ((from to : ℕ) → Adds (weight from to))
    → in_flight weight count after + of_letters weight me got ≡ in_flight weight count before + of_sends weight me outcome.sends

-- So do tasks and units.
abbrev pub OutcomesMoveTasks : Type 0
OutcomesMoveTasks =
    (given : Given) (before after : World) (me : ℕ) (got : List Letter) (outcome : Outcome) → Acts given.setup.cores before after me got outcome
    → (weights : Weights)
    → census weights given after + (body_census weights given.slots (bodies before me) + of_letters (carried weights.of_unit) me got)
    ≡ census weights given before + (body_census weights given.slots outcome.body + of_sends (carried weights.of_unit) me outcome.sends)

-- A Ship and a Take leave all bodies, and all that is in flight.
abbrev pub MovesKeepBodies : Type 0
MovesKeepBodies = (count : ℕ) (before after : World) → Moves count before after → bodies after ≡ bodies before

abbrev pub MovesKeepFlight : Type 0
MovesKeepFlight = (count : ℕ) (before after : World) → Moves count before after → (weight : Weight) → in_flight weight count after ≡ in_flight weight count before

-- So the world stands for the same plain state.
abbrev pub MovesKeepStanding : Type 0
MovesKeepStanding =
    (given : Given) (before after : World) (state : State) → Moves given.setup.cores before after → Stands given before state → Stands given after state

-- The Ships and Takes of the machine are such.
abbrev pub ShipsMove : Type 0
ShipsMove =
    (machine : Machine) (before after : runs.World) (me dest clock : ℕ) (slots : List ℕ)
    → goes_at (stepper machine) (ships dest) me before (record { clock = clock; event = event.Ship dest; slots = slots }) ≡ Some after
    → Moves machine.setup.cores (world_in before) (world_in after)

abbrev pub TakesMove : Type 0
TakesMove =
    (machine : Machine) (before after : runs.World) (me from clock : ℕ) (slots : List ℕ)
    → goes_at (stepper machine) (takes from) me before (record { clock = clock; event = event.Take from; slots = slots }) ≡ Some after
    → Moves machine.setup.cores (world_in before) (world_in after)
