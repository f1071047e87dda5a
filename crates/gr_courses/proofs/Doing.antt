-- Outcomes one after another, and messages and marks one by one.
use Rattle.std.proofs.Common.{◌≡◌, ◌+◌, ◌==◌, ℕ, if◌then◌else◌, List, [], ◌∷◌, ◌++◌, ap, ◌∙◌, sym, refl}
use Rattle.std.specs.Prelude.{Bool, true, false, Option, Some, None}
use Rattle.std.proofs.lemmas.List.{append-nil, append_assoc, map-append}
use Rattle.gr_view.specs.Places.{put}
use Rattle.gr_agg.specs.Buffers.{add_last}
use Rattle.gr_machine.specs.declared.mark.Mark.{Mark}
use Rattle.gr_machine.specs.declared.journal.StampedMark.{StampedMark}
use Rattle.gr_machine.specs.States.{Body, Core}
use Rattle.gr_machine.specs.Outcomes.{Send, Outcome, sent, sent_all, acted, marks_of, sends_of, quietly, followed}
use Rattle.gr_machine.specs.Counting.{is_closed, is_gift}
use Rattle.gr_machine.specs.Events.{Course, does, begun}
use Rattle.gr_machine.specs.Steppers.{stamped}
use Rattle.gr_courses.specs.Seen.{Seen, batches_with, gives_with, does_to, with_send, with_body, sends_to, after}

-- Lists that grow

batches_more : (count : ℕ) (marks more : List Mark) → batches_with count (marks ++ more) ≡ batches_with (batches_with count marks) more
batches_more count [] more = refl
batches_more count (mark ∷ marks) more = batches_more (if is_closed mark then count + 1 else count) marks more

gives_more : (count : ℕ) (sends more : List Send) → gives_with count (sends ++ more) ≡ gives_with (gives_with count sends) more
gives_more count [] more = refl
gives_more count (send ∷ sends) more = gives_more (if is_gift send.message then count + 1 else count) sends more

stamped_more : (before : List StampedMark) (clock : ℕ) (marks more : List Mark) → before ++ stamped clock (marks ++ more) ≡ before ++ stamped clock marks ++ stamped clock more
stamped_more before clock marks more =
    ap (λ (all : List StampedMark). before ++ all) (map-append (λ mark. record { clock = clock; mark = mark }) marks more)
    ∙ sym (append_assoc before (stamped clock marks) (stamped clock more))

-- Messages and the body

abbrev pub in_body : Core → Body → Core
in_body core body = record core { body = body }

pub sent_in : (me : ℕ) (core : Core) (body : Body) (send : Send) → sent me (in_body core body) send ≡ in_body (sent me core send) body
sent_in me core body send = by (send.to == me)
  where
    by : (own : Bool) → (if own then record (in_body core body) { inbox = core.inbox ++ record { from = me; message = send.message } ∷ [] } else record (in_body core body) { buffers = put core.buffers send.to (add_last (core.buffers send.to) send.message) })
        ≡ in_body (if own then record core { inbox = core.inbox ++ record { from = me; message = send.message } ∷ [] } else record core { buffers = put core.buffers send.to (add_last (core.buffers send.to) send.message) }) body
    by true = refl
    by false = refl

pub all_sent_in : (me : ℕ) (core : Core) (body : Body) (sends : List Send) → sent_all me (in_body core body) sends ≡ in_body (sent_all me core sends) body
all_sent_in me core body [] = refl
all_sent_in me core body (send ∷ sends) = ap (λ (first : Core). sent_all me first sends) (sent_in me core body send) ∙ all_sent_in me (sent me core send) body sends

sent_more : (me : ℕ) (core : Core) (sends more : List Send) → sent_all me core (sends ++ more) ≡ sent_all me (sent_all me core sends) more
sent_more me core [] more = refl
sent_more me core (send ∷ sends) more = sent_more me (sent me core send) sends more

sent_clock : (me : ℕ) (core : Core) (send : Send) → (sent me core send).clock ≡ core.clock
sent_clock me core send = by (send.to == me)
  where
    by : (own : Bool) → (if own then record core { inbox = core.inbox ++ record { from = me; message = send.message } ∷ [] } else record core { buffers = put core.buffers send.to (add_last (core.buffers send.to) send.message) }).clock ≡ core.clock
    by true = refl
    by false = refl

all_sent_clock : (me : ℕ) (core : Core) (sends : List Send) → (sent_all me core sends).clock ≡ core.clock
all_sent_clock me core [] = refl
all_sent_clock me core (send ∷ sends) = all_sent_clock me (sent me core send) sends ∙ sent_clock me core send

pub acted_clock : (me : ℕ) (core : Core) (outcome : Option Outcome) → (acted me core outcome).clock ≡ core.clock
acted_clock me core None = refl
acted_clock me core (Some outcome) = all_sent_clock me (in_body core outcome.body) outcome.sends

-- Outcomes

abbrev seen_as : Seen → Core → List StampedMark → ℕ → ℕ → Seen
seen_as seen core marks batches gives = record seen { core = core; marks = marks; counts = record seen.counts { batches = batches; gives = gives } }

seen_with : (seen : Seen) (one other : Core) (marks more : List StampedMark) (batches fewer gives less : ℕ) → one ≡ other → marks ≡ more → batches ≡ fewer → gives ≡ less
    → seen_as seen one marks batches gives ≡ seen_as seen other more fewer less
seen_with seen one other marks more batches fewer gives less same_core same_marks same_batches same_gives =
    ap (λ (core : Core). seen_as seen core marks batches gives) same_core
    ∙ ap (λ (all : List StampedMark). seen_as seen other all batches gives) same_marks
    ∙ ap (λ (count : ℕ). seen_as seen other more count gives) same_batches
    ∙ ap (λ (count : ℕ). seen_as seen other more fewer count) same_gives

-- An outcome of the course of an event.
pub does_after : (seen : Seen) (course : Course) (outcome : Option Outcome) → course.core.clock ≡ seen.core.clock
    → after seen (does seen.me course outcome) ≡ does_to (after seen course) outcome
does_after seen course outcome same = seen_with seen _ _ _ _ _ _ _ _
    refl
    (stamped_more seen.marks seen.core.clock course.marks (marks_of outcome)
    ∙ ap (λ (clock : ℕ). seen.marks ++ stamped seen.core.clock course.marks ++ stamped clock (marks_of outcome)) (sym same))
    (batches_more seen.counts.batches course.marks (marks_of outcome))
    (gives_more seen.counts.gives course.sent (sends_of outcome))

-- Nothing happens.
pub does_nothing : (seen : Seen) → does_to seen None ≡ seen
does_nothing seen = seen_with seen _ _ _ _ _ _ _ _ refl (append-nil seen.marks) refl refl

-- The body alone is new.
pub does_quietly : (seen : Seen) (body : Body) → does_to seen (Some (quietly body)) ≡ with_body seen body
does_quietly seen body = seen_with seen _ _ _ _ _ _ _ _ refl (append-nil seen.marks) refl refl

-- Messages and marks one by one.
pub does_sends : (seen : Seen) (body : Body) (sends : List Send) → does_to seen (Some (record { body = body; sends = sends; marks = [] })) ≡ sends_to (with_body seen body) sends
does_sends seen body sends = seen_with seen _ _ _ _ _ _ _ _ refl (append-nil seen.marks) refl refl ∙ one_by_one (with_body seen body) sends
  where
    one_by_one : (seen : Seen) (sends : List Send) → (record seen { core = sent_all seen.me seen.core sends; counts = record seen.counts { gives = gives_with seen.counts.gives sends } }) ≡ sends_to seen sends
    one_by_one seen [] = refl
    one_by_one seen (send ∷ sends) = one_by_one (with_send seen send) sends

-- One outcome, and then another one, of the body of the first.
pub does_followed : (seen : Seen) (first second : Outcome) → does_to seen (Some (followed first second)) ≡ does_to (does_to seen (Some first)) (Some second)
does_followed seen first second = seen_with seen _ _ _ _ _ _ _ _
    (sent_more seen.me (in_body seen.core second.body) first.sends second.sends
    ∙ ap (λ (core : Core). sent_all seen.me core second.sends)
    (all_sent_in seen.me seen.core second.body first.sends
    ∙ sym (ap (λ (core : Core). in_body core second.body) (all_sent_in seen.me seen.core first.body first.sends))))
    (stamped_more seen.marks seen.core.clock first.marks second.marks
    ∙ ap (λ (clock : ℕ). seen.marks ++ stamped seen.core.clock first.marks ++ stamped clock second.marks) (sym (all_sent_clock seen.me (in_body seen.core first.body) first.sends)))
    (batches_more seen.counts.batches first.marks second.marks)
    (gives_more seen.counts.gives first.sends second.sends)

-- The clock stays.
pub does_clock : (seen : Seen) (outcome : Option Outcome) → (does_to seen outcome).core.clock ≡ seen.core.clock
does_clock seen outcome = acted_clock seen.me seen.core outcome

pub after_begun : (seen : Seen) (core : Core) → after seen (begun core) ≡ (record seen { core = core })
after_begun seen core = seen_with seen _ _ _ _ _ _ _ _ refl (append-nil seen.marks) refl refl
