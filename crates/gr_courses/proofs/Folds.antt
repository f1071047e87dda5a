-- Outcomes of lists: batches that go off, tasks that make the units for which they waited, gifts, and calls that are marked.
use Rattle.std.proofs.Common.{◌≡◌, ◌+◌, ℕ, if◌then◌else◌, List, [], ◌∷◌, ◌++◌, ap, ◌∙◌, sym, refl}
use Rattle.std.specs.Prelude.{Some}
use Rattle.std.proofs.lemmas.List.{append-nil, append_assoc}
use Rattle.gr_msg.specs.declared.message.Unit.{Unit as WorkUnit}
use Rattle.gr_msg.specs.declared.message.Msg.TheVariants as msg
use Rattle.gr_batch.specs.declared.combiner.Batch.{Batch}
use Rattle.gr_machine.specs.declared.mark.Mark.{Mark}
use Rattle.gr_machine.specs.declared.journal.StampedMark.{StampedMark}
use Rattle.gr_machine.specs.Counting.{is_closed, is_gift}
use Rattle.gr_machine.specs.Steppers.{stamped}
use Rattle.gr_machine.specs.States.{Body, Core}
use Rattle.gr_machine.specs.Outcomes.{Send, Outcome, followed}
use Rattle.gr_machine.specs.Closes.{batch_sent, batches_sent}
use Rattle.gr_machine.specs.ScopeServes.{planted_in, planted_all}
use Rattle.gr_machine.specs.Events.{gives, gifts, still_waiting, still_public}
use Rattle.gr_courses.specs.Seen.{Seen, batches_with, does_to, with_send, with_mark, with_body, sends_to, marks_to}
use Rattle.gr_courses.specs.Folds.{batches_from, planted_from, in_queues, gift_to}
use Rattle.gr_courses.proofs.Doing.{in_body, sent_in, all_sent_in, does_followed, does_quietly, does_sends}

-- The body after an outcome is the outcome's.
pub does_body : (seen : Seen) (outcome : Outcome) → (does_to seen (Some outcome)).core.body ≡ outcome.body
does_body seen outcome = ap (λ (core : Core). core.body) (all_sent_in seen.me seen.core outcome.body outcome.sends)

-- Batches go off one after another.
pub batches_go : (seen : Seen) (object : ℕ) (outcome : Outcome) (batches : List Batch)
    → does_to seen (Some (batches_sent seen.machine object outcome batches)) ≡ batches_from object (does_to seen (Some outcome)) batches
batches_go seen object outcome [] = refl
batches_go seen object outcome (batch ∷ batches) =
    batches_go seen object (followed outcome (batch_sent seen.machine outcome.body object batch)) batches
    ∙ ap (λ (next : Seen). batches_from object next batches)
    (does_followed seen outcome (batch_sent seen.machine outcome.body object batch)
    ∙ ap (λ (body : Body). does_to (does_to seen (Some outcome)) (Some (batch_sent seen.machine body object batch))) (sym (does_body seen outcome)))

-- Tasks make their units one after another.
pub units_go : (seen : Seen) (outcome : Outcome) (slots : List ℕ)
    → does_to seen (Some (planted_all seen.machine seen.me outcome slots)) ≡ planted_from (does_to seen (Some outcome)) slots
units_go seen outcome [] = refl
units_go seen outcome (slot ∷ slots) =
    units_go seen (followed outcome (planted_in seen.machine seen.me outcome.body slot (outcome.body.tasks.slots slot))) slots
    ∙ ap (λ (next : Seen). planted_from next slots)
    (does_followed seen outcome (planted_in seen.machine seen.me outcome.body slot (outcome.body.tasks.slots slot))
    ∙ ap (λ (body : Body). does_to (does_to seen (Some outcome)) (Some (planted_in seen.machine seen.me body slot (body.tasks.slots slot)))) (sym (does_body seen outcome)))

-- Gifts

abbrev given_from : Body → List ℕ → List WorkUnit → Outcome
given_from body waiting public = record { body = in_queues body (still_waiting waiting public) (still_public waiting public); sends = gifts waiting public; marks = [] }

given_none : (seen : Seen) (public : List WorkUnit) → does_to seen (Some (given_from seen.core.body [] public)) ≡ with_body seen (in_queues seen.core.body [] public)
given_none seen public = does_quietly seen (in_queues seen.core.body [] public)

given_nothing : (seen : Seen) (waiting : List ℕ) → does_to seen (Some (given_from seen.core.body waiting [])) ≡ with_body seen (in_queues seen.core.body waiting [])
given_nothing seen [] = does_quietly seen (in_queues seen.core.body [] [])
given_nothing seen (core ∷ cores) = does_quietly seen (in_queues seen.core.body (core ∷ cores) [])

-- No core waits, or there is no unit.
pub gives_to_none : (seen : Seen) → seen.core.body.steals.waiting ≡ [] → does_to seen (Some (gives seen.core.body)) ≡ seen
gives_to_none seen none =
    ap (λ (waiting : List ℕ). does_to seen (Some (given_from seen.core.body waiting seen.core.body.work.public))) none
    ∙ given_none seen seen.core.body.work.public
    ∙ ap (λ (waiting : List ℕ). with_body seen (in_queues seen.core.body waiting seen.core.body.work.public)) (sym none)

pub gives_nothing : (seen : Seen) → seen.core.body.work.public ≡ [] → does_to seen (Some (gives seen.core.body)) ≡ seen
gives_nothing seen none =
    ap (λ (public : List WorkUnit). does_to seen (Some (given_from seen.core.body seen.core.body.steals.waiting public))) none
    ∙ given_nothing seen seen.core.body.steals.waiting
    ∙ ap (λ (public : List WorkUnit). with_body seen (in_queues seen.core.body seen.core.body.steals.waiting public)) (sym none)

-- A message is sent before or after the body is changed.
with_send_in : (seen : Seen) (final middle : Body) (send : Send) → with_send (with_body seen final) send ≡ with_body (with_send (with_body seen middle) send) final
with_send_in seen final middle send =
    ap (λ (core : Core). record seen { core = core; counts = record seen.counts { gives = if is_gift send.message then seen.counts.gives + 1 else seen.counts.gives } })
    (sent_in seen.me seen.core final send ∙ sym (ap (λ (core : Core). in_body core final) (sent_in seen.me seen.core middle send)))

-- One gift.
given_one : (seen : Seen) (core : ℕ) (cores : List ℕ) (unit : WorkUnit) (units : List WorkUnit)
    → does_to seen (Some (given_from seen.core.body (core ∷ cores) (unit ∷ units)))
    ≡ does_to (with_send (with_body seen (in_queues seen.core.body cores units)) (record { to = core; message = msg.StealGive unit })) (Some (given_from seen.core.body cores units))
given_one seen core cores unit units =
    let final : Body = in_queues seen.core.body (still_waiting cores units) (still_public cores units) in
    let middle : Body = in_queues seen.core.body cores units in
    let gift : Send = record { to = core; message = msg.StealGive unit } in
    does_sends seen final (gift ∷ gifts cores units)
    ∙ ap (λ (next : Seen). sends_to next (gifts cores units)) (with_send_in seen final middle gift)
    ∙ sym (does_sends (with_send (with_body seen middle) gift) final (gifts cores units))

gift_body : (seen : Seen) (core : ℕ) (cores : List ℕ) (unit : WorkUnit) (units : List WorkUnit) → (gift_to seen core cores unit units).core.body ≡ in_queues seen.core.body cores units
gift_body seen core cores unit units =
    ap (λ (next : Core). next.body) (sent_in seen.me seen.core (in_queues seen.core.body cores units) (record { to = core; message = msg.StealGive unit }))

pub gives_one : (seen : Seen) (core : ℕ) (cores : List ℕ) (unit : WorkUnit) (units : List WorkUnit)
    → seen.core.body.steals.waiting ≡ core ∷ cores → seen.core.body.work.public ≡ unit ∷ units
    → does_to seen (Some (gives seen.core.body)) ≡ does_to (gift_to seen core cores unit units) (Some (gives (gift_to seen core cores unit units).core.body))
gives_one seen core cores unit units waits there =
    ap (λ (waiting : List ℕ). does_to seen (Some (given_from seen.core.body waiting seen.core.body.work.public))) waits
    ∙ ap (λ (public : List WorkUnit). does_to seen (Some (given_from seen.core.body (core ∷ cores) public))) there
    ∙ given_one seen core cores unit units
    ∙ ap (λ (body : Body). does_to (gift_to seen core cores unit units) (Some (gives body))) (sym (gift_body seen core cores unit units))

-- Marks

marked_one_by_one : (seen : Seen) (marks : List Mark)
    → (record seen { marks = seen.marks ++ stamped seen.core.clock marks; counts = record seen.counts { batches = batches_with seen.counts.batches marks } }) ≡ marks_to seen marks
marked_one_by_one seen [] = ap (λ (all : List StampedMark). record seen { marks = all }) (append-nil seen.marks)
marked_one_by_one seen (mark ∷ marks) =
    ap (λ (all : List StampedMark). record seen { marks = all; counts = record seen.counts { batches = batches_with (if is_closed mark then seen.counts.batches + 1 else seen.counts.batches) marks } })
    (sym (append_assoc seen.marks (record { clock = seen.core.clock; mark = mark } ∷ []) (stamped seen.core.clock marks)))
    ∙ marked_one_by_one (with_mark seen mark) marks

-- Some marks and then a message.
pub does_marks : (seen : Seen) (body : Body) (send : Send) (marks : List Mark)
    → does_to seen (Some (record { body = body; sends = send ∷ []; marks = marks })) ≡ with_send (marks_to (with_body seen body) marks) send
does_marks seen body send marks = ap (λ (next : Seen). with_send next send) (marked_one_by_one (with_body seen body) marks)
