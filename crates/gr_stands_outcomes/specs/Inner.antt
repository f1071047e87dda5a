-- What an event that is inner to its core does there, as one outcome: what is found to do first, the end of a turn, and gifts.
use Rattle.std.specs.Prelude.{ℕ, List, [], ◌∷◌, Option, Some, None}
use Rattle.gr_msg.specs.declared.message.Msg.{Msg}
use Rattle.gr_machine.specs.declared.event.Event.{Event}
use Rattle.gr_machine.specs.declared.event.Event.TheVariants as event
use Rattle.gr_machine.specs.declared.mark.Mark.{Mark}
use Rattle.gr_machine.specs.declared.journal.Stamped.{Stamped}
use Rattle.gr_machine.specs.Machines.{Machine}
use Rattle.gr_machine.specs.States.{Letter, Body, Core}
use Rattle.gr_machine.specs.Outcomes.{Outcome, quietly, followed}
use Rattle.gr_machine.specs.Runs.{without_ready, run_slot, first_unit, without_unit, run_unit}
use Rattle.gr_machine.specs.Serves.{serves, settles}
use Rattle.gr_machine.specs.Closes.{closes}
use Rattle.gr_machine.specs.Events.{gives, asks, slot_of}

-- The outcome of what is made at a body; where nothing is, the body stays.
abbrev pub outcome_of : Body → Option Outcome → Outcome
outcome_of body None = quietly body
outcome_of body (Some outcome) = outcome

-- An outcome, and then the gifts of its core.
abbrev pub with_gifts : Outcome → Outcome
with_gifts outcome = followed outcome (gives outcome.body)

-- A Run: the task in the first of these ready slots acts; where there is none, the next unit is taken up.
abbrev pub run_outcome : Machine → ℕ → Body → ℕ → List ℕ → Outcome
run_outcome machine me body slot [] = outcome_of (without_unit body) (run_unit machine me (without_unit body) slot (first_unit body))
run_outcome machine me body slot (ready ∷ more) = outcome_of (without_ready body) (run_slot machine me (without_ready body) ready (body.tasks.slots ready))

-- An outcome of a message, and then the end of a turn of which it has left nothing.
abbrev pub and_settled : Machine → Msg → Outcome → Outcome
and_settled machine message first = followed first (outcome_of first.body (settles machine first.body message))

-- A Serve: the first of these letters is served.
abbrev pub serve_outcome : Machine → ℕ → Body → List Letter → Outcome
serve_outcome machine me body [] = quietly body
serve_outcome machine me body (letter ∷ letters) = and_settled machine letter.message (outcome_of body (serves machine me body letter.from letter.message))

-- Each event that is inner to its core. A Run and a Serve end with gifts.
abbrev pub inner_outcome : Machine → ℕ → Core → ℕ → Event → Outcome
inner_outcome machine me core slot event.Run = with_gifts (run_outcome machine me core.body slot core.body.tasks.ready)
inner_outcome machine me core slot event.Serve = with_gifts (serve_outcome machine me core.body core.inbox)
inner_outcome machine me core slot (event.Close object) = closes machine core.body object
inner_outcome machine me core slot (event.Steal victim) = asks victim core.body
inner_outcome machine me core slot _ = quietly core.body

-- The marks that an entry of a core leaves: a Ship and a Take leave none.
abbrev pub marks_made : Machine → ℕ → Core → Stamped → List Mark
marks_made machine me core entry = (inner_outcome machine me core (slot_of entry.slots) entry.event).marks

-- The first letter, if there is one.
abbrev pub first_of : List Letter → List Letter
first_of [] = []
first_of (letter ∷ letters) = letter ∷ []

-- The letters that an event takes up: a Serve the first, and no other event any.
abbrev pub taken_up_by : Event → List Letter → List Letter
taken_up_by event.Serve inbox = first_of inbox
taken_up_by _ inbox = []
