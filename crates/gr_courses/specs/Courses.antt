-- The events of a core as its code makes them.
use Rattle.std.specs.Prelude.{ℕ, List, [], ◌∷◌, Option, Some, None}
use Rattle.gr_msg.specs.declared.message.Msg.{Msg}
use Rattle.gr_msg.specs.declared.message.Msg.TheVariants as msg
use Rattle.gr_machine.specs.Machines.{Machine}
use Rattle.gr_machine.specs.States.{Letter, Body}
use Rattle.gr_machine.specs.Outcomes.{Outcome}
use Rattle.gr_machine.specs.Serves.{serves, settles}
use Rattle.gr_machine.specs.TurnServes.{settled_vector}
use Rattle.gr_machine.specs.Runs.{run_slot, run_unit, first_unit, without_ready, without_unit}
use Rattle.gr_machine.specs.Events.{gives}
use Rattle.gr_courses.specs.Seen.{Seen, does_to, with_body}

-- The vector of which a turn may be finished after a message.
abbrev pub settling : Msg → Option ℕ
settling (msg.Grant vector head tail) = Some vector
settling (msg.ElemAck vector position got) = Some vector
settling _ = None

abbrev pub settled_by : Machine → Body → Option ℕ → Option Outcome
settled_by machine body None = None
settled_by machine body (Some vector) = settled_vector machine body vector (body.vectors.vectors vector)

-- Units are given.
abbrev pub gives_to : Seen → Seen
gives_to seen = does_to seen (Some (gives seen.core.body))

-- A letter is in the inbox no more; it is served; and a turn is settled.
abbrev pub without_letter : Seen → List Letter → Seen
without_letter seen letters = record seen { core = record seen.core { inbox = letters } }

abbrev pub settles_to : Seen → Msg → Seen
settles_to seen message = does_to seen (settles seen.machine seen.core.body message)

abbrev pub served_from : Seen → List Letter → Seen
served_from seen [] = seen
served_from seen (letter ∷ letters) =
    settles_to (does_to (without_letter seen letters) (serves seen.machine seen.me seen.core.body letter.from letter.message)) letter.message

-- The first ready slot acts, or where none is the next unit is taken up.
abbrev pub ran_from : Seen → ℕ → List ℕ → Seen
ran_from seen slot [] =
    does_to (with_body seen (without_unit seen.core.body)) (run_unit seen.machine seen.me (without_unit seen.core.body) slot (first_unit seen.core.body))
ran_from seen slot (ready ∷ more) =
    does_to (with_body seen (without_ready seen.core.body)) (run_slot seen.machine seen.me (without_ready seen.core.body) ready (seen.core.body.tasks.slots ready))
