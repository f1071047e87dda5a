-- The events of a core are those of the machine.
use Rattle.std.proofs.Common.{◌≡◌, ℕ, List, [], ◌∷◌, ap, ◌∙◌, refl}
use Rattle.std.specs.Prelude.{Option, Some}
use Rattle.gr_msg.specs.declared.message.Msg.{Msg}
use Rattle.gr_msg.specs.declared.message.Msg.TheVariants as msg
use Rattle.gr_machine.specs.Machines.{Machine}
use Rattle.gr_machine.specs.States.{Letter, Body, Core}
use Rattle.gr_machine.specs.Outcomes.{Outcome}
use Rattle.gr_machine.specs.Serves.{serves, settles}
use Rattle.gr_machine.specs.Runs.{run_slot, run_unit, first_unit, without_ready, without_unit}
use Rattle.gr_machine.specs.Closes.{closes}
use Rattle.gr_machine.specs.Events.{Course, begun, does, gives, asks, served_first, served, ran_first, ran, closed, stolen}
use Rattle.gr_courses.specs.Seen.{Seen, does_to, after}
use Rattle.gr_courses.specs.Courses.{settling, settled_by, gives_to, served_from, ran_from}
use Rattle.gr_courses.proofs.Doing.{acted_clock, does_after, after_begun}

pub settles_is : (machine : Machine) (body : Body) (message : Msg) → settles machine body message ≡ settled_by machine body (settling message)
settles_is machine body (msg.Request slot id operation x y z) = refl
settles_is machine body (msg.Reply slot id first second) = refl
settles_is machine body (msg.Spawn unit) = refl
settles_is machine body (msg.Enrol scope) = refl
settles_is machine body (msg.EnrolAck scope) = refl
settles_is machine body (msg.Complete scope count) = refl
settles_is machine body (msg.Leave scope) = refl
settles_is machine body msg.StealAsk = refl
settles_is machine body (msg.StealGive unit) = refl
settles_is machine body (msg.Batch object key effect batch) = refl
settles_is machine body (msg.BatchReply batch before) = refl
settles_is machine body (msg.Turn vector) = refl
settles_is machine body (msg.Grant vector head tail) = refl
settles_is machine body (msg.Done vector head tail) = refl
settles_is machine body (msg.ElemPut vector position word) = refl
settles_is machine body (msg.ElemGet vector position) = refl
settles_is machine body (msg.ElemAck vector position got) = refl

-- The first outcome of an event.
one_outcome : (seen : Seen) (core : Core) (outcome : Option Outcome) → core.clock ≡ seen.core.clock → after seen (does seen.me (begun core) outcome) ≡ does_to (record seen { core = core }) outcome
one_outcome seen core outcome same = does_after seen (begun core) outcome same ∙ ap (λ (next : Seen). does_to next outcome) (after_begun seen core)

served_by : (seen : Seen) (letters : List Letter) → after seen (served_first seen.machine seen.me seen.core letters) ≡ served_from seen letters
served_by seen [] = after_begun seen seen.core
served_by seen (letter ∷ letters) =
    let what : Option Outcome = serves seen.machine seen.me seen.core.body letter.from letter.message in
    let first : Course = does seen.me (begun (record seen.core { inbox = letters })) what in
    does_after seen first (settles seen.machine first.core.body letter.message) (acted_clock seen.me (record seen.core { inbox = letters }) what)
    ∙ ap (λ (next : Seen). does_to next (settles seen.machine first.core.body letter.message)) (one_outcome seen (record seen.core { inbox = letters }) what refl)

served_clock : (seen : Seen) (letters : List Letter) → (served_first seen.machine seen.me seen.core letters).core.clock ≡ seen.core.clock
served_clock seen [] = refl
served_clock seen (letter ∷ letters) =
    let what : Option Outcome = serves seen.machine seen.me seen.core.body letter.from letter.message in
    let first : Course = does seen.me (begun (record seen.core { inbox = letters })) what in
    acted_clock seen.me first.core (settles seen.machine first.core.body letter.message) ∙ acted_clock seen.me (record seen.core { inbox = letters }) what

pub served_is : (seen : Seen) → after seen (served seen.machine seen.me seen.core) ≡ gives_to (served_from seen seen.core.inbox)
served_is seen =
    let first : Course = served_first seen.machine seen.me seen.core seen.core.inbox in
    does_after seen first (Some (gives first.core.body)) (served_clock seen seen.core.inbox)
    ∙ ap gives_to (served_by seen seen.core.inbox)

ran_by : (seen : Seen) (slot : ℕ) (ready : List ℕ) → after seen (ran_first seen.machine seen.me seen.core slot ready) ≡ ran_from seen slot ready
ran_by seen slot [] = one_outcome seen (record seen.core { body = without_unit seen.core.body }) (run_unit seen.machine seen.me (without_unit seen.core.body) slot (first_unit seen.core.body)) refl
ran_by seen slot (ready ∷ more) = one_outcome seen (record seen.core { body = without_ready seen.core.body }) (run_slot seen.machine seen.me (without_ready seen.core.body) ready (seen.core.body.tasks.slots ready)) refl

ran_clock : (seen : Seen) (slot : ℕ) (ready : List ℕ) → (ran_first seen.machine seen.me seen.core slot ready).core.clock ≡ seen.core.clock
ran_clock seen slot [] = acted_clock seen.me (record seen.core { body = without_unit seen.core.body }) (run_unit seen.machine seen.me (without_unit seen.core.body) slot (first_unit seen.core.body))
ran_clock seen slot (ready ∷ more) = acted_clock seen.me (record seen.core { body = without_ready seen.core.body }) (run_slot seen.machine seen.me (without_ready seen.core.body) ready (seen.core.body.tasks.slots ready))

pub ran_is : (seen : Seen) (slot : ℕ) → after seen (ran seen.machine seen.me seen.core slot) ≡ gives_to (ran_from seen slot seen.core.body.tasks.ready)
ran_is seen slot =
    let first : Course = ran_first seen.machine seen.me seen.core slot seen.core.body.tasks.ready in
    does_after seen first (Some (gives first.core.body)) (ran_clock seen slot seen.core.body.tasks.ready)
    ∙ ap gives_to (ran_by seen slot seen.core.body.tasks.ready)

pub closed_is : (seen : Seen) (object : ℕ) → after seen (closed seen.machine seen.me seen.core object) ≡ does_to seen (Some (closes seen.machine seen.core.body object))
closed_is seen object = one_outcome seen seen.core (Some (closes seen.machine seen.core.body object)) refl

pub stolen_is : (seen : Seen) (victim : ℕ) → after seen (stolen seen.me seen.core victim) ≡ does_to seen (Some (asks victim seen.core.body))
stolen_is seen victim = one_outcome seen seen.core (Some (asks victim seen.core.body)) refl
