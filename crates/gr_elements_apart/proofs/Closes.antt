-- Calls that go off, gifts and questions leave where words of vectors are.
use Rattle.std.proofs.Common.{◌≡◌, ℕ, List, [], ◌∷◌, ◌++◌, ◌∙◌, ap, refl, Option, Some, None}
use Rattle.gr_lang.specs.declared.action.WaitingCall.{WaitingCall}
use Rattle.gr_msg.specs.declared.message.Unit.{Unit as WorkUnit}
use Rattle.gr_batch.specs.Batches.{batches_of, rest_of}
use Rattle.gr_batch.specs.declared.combiner.Batch.{Batch}
use Rattle.gr_vector.specs.Groups.{group_of}
use Rattle.gr_net.proofs.Spreads.{Each-append}
use Rattle.gr_machine.specs.declared.waits.Waits.{Waits}
use Rattle.gr_machine.specs.declared.waits.Waits.TheVariants as wait
use Rattle.gr_machine.specs.Machines.{Machine}
use Rattle.gr_machine.specs.States.{Suspended, Vector, Vectors, Body}
use Rattle.gr_machine.specs.Outcomes.{Send, Outcome, quietly, followed}
use Rattle.gr_machine.specs.Slots.{rewaiting, rewaiting_task}
use Rattle.gr_machine.specs.TurnServes.{with_vector}
use Rattle.gr_machine.specs.Closes.{batch_sent, batches_sent, with_combiner, closes_combiner, closes_vector, closes_as}
use Rattle.gr_machine.specs.Events.{gifts, gives, asks}
use Rattle.gr_elements_apart.specs.Leaving.{IsOfNoLine, LeavesWords}
use Rattle.gr_elements_apart.specs.Laws as laws
use Rattle.gr_elements_apart.proofs.Apart.{IsNoElement, NoElements, IsApart, leaves_apart, kept_leaves}

-- Tasks that wait for something else leave the vectors.
one_stays : (b : Body) (slot : ℕ) (reason : Waits) (held : Option Suspended) → (rewaiting_task b slot reason held).vectors ≡ b.vectors
one_stays b slot reason None = refl
one_stays b slot reason (Some task) = refl

pub rewaits_stay : (reason : Waits) (b : Body) (calls : List WaitingCall) → (rewaiting b reason calls).vectors ≡ b.vectors
rewaits_stay reason b [] = refl
rewaits_stay reason b (call ∷ calls) = rewaits_stay reason (rewaiting_task b call.slot reason (b.tasks.slots call.slot)) calls ∙ one_stays b call.slot reason (b.tasks.slots call.slot)

sends_all : (machine : Machine) (start : Body) (object : ℕ) (outcome : Outcome) (batches : List Batch) → IsApart start outcome.body outcome.sends outcome.marks
    → IsApart start (batches_sent machine object outcome batches).body (batches_sent machine object outcome batches).sends (batches_sent machine object outcome batches).marks
sends_all machine start object outcome [] a = a
sends_all machine start object outcome (batch ∷ batches) a =
    let sent = batch_sent machine outcome.body object batch in
    sends_all machine start object (followed outcome sent) batches (record {
      vectors = rewaits_stay (wait.Batch outcome.body.batches.next) outcome.body batch.calls ∙ a.vectors;
      sends = Each-append (λ (s : Send). IsNoElement s.message) outcome.sends sent.sends a.sends (tt, tt);
      marks = Each-append IsOfNoLine outcome.marks sent.marks a.marks (tt, tt);
    })

pub closes_leave : laws.ClosesLeaveWords
closes_leave machine number object body = by (body.vectors.vectors object) refl
  where
    by : (held : Option Vector) → body.vectors.vectors object ≡ held → LeavesWords number body [] (closes_as machine body object held)
    by None there = leaves_apart number body [] (closes_combiner machine body object (body.batches.combiners object)) tt
        (sends_all machine body object (quietly (with_combiner body object (rest_of (body.batches.combiners object)))) (batches_of (body.batches.combiners object)) (record { vectors = refl; sends = tt; marks = tt }))
    by (Some vector) there =
        let next : Vector = record vector { combiner = []; groups = vector.groups ++ group_of vector.combiner ∷ [] } in
        let stays = rewaits_stay (wait.Turn object) (with_vector body object next) (group_of vector.combiner) in
        kept_leaves number object body [] (closes_vector machine body object vector (group_of vector.combiner)) vector next there refl refl tt (tt, tt) tt
        (ap (λ (x : Vectors). x.vectors) stays)

gifts_apart : (cores : List ℕ) (units : List WorkUnit) → NoElements (gifts cores units)
gifts_apart [] units = tt
gifts_apart (core ∷ cores) [] = tt
gifts_apart (core ∷ cores) (unit ∷ units) = (tt, gifts_apart cores units)

pub gifts_leave : laws.GiftsLeaveWords
gifts_leave number body = leaves_apart number body [] (gives body) tt (record { vectors = refl; sends = gifts_apart body.steals.waiting body.work.public; marks = tt })

pub questions_leave : laws.QuestionsLeaveWords
questions_leave number victim body = leaves_apart number body [] (asks victim body) tt (record { vectors = refl; sends = (tt, tt); marks = tt })
