-- The end of a turn leaves calls that are combined.
use Rattle.std.proofs.Common.{◌≡◌, ℕ, ◌==◌, Bool, true, false, if◌then◌else◌, List, [], ◌∷◌, drop, sym, ◌∙◌, ap, subst, refl, Option, Some, None}
use Rattle.std.proofs.lemmas.Bool.{eqb-true}
use Rattle.gr_lang.specs.declared.action.Reply.{Reply}
use Rattle.gr_lang.specs.declared.action.TaskId.{TaskId}
use Rattle.gr_lang.specs.declared.action.WaitingCall.{WaitingCall}
use Rattle.gr_lang.specs.States.{State}
use Rattle.gr_msg.specs.declared.message.Msg.{Msg}
use Rattle.gr_msg.specs.declared.message.Msg.TheVariants as msg
use Rattle.gr_vector.specs.declared.ends.Ends.{Ends}
use Rattle.gr_vector.specs.Plans.{ends_after}
use Rattle.gr_net.specs.Sums.{Each}
use Rattle.gr_lang.specs.Effects.{line_after}
use Rattle.gr_machine.specs.Machines.{Machine}
use Rattle.gr_machine.specs.States.{Suspended, Vector, Turn, Body}
use Rattle.gr_machine.specs.Outcomes.{Outcome, quietly}
use Rattle.gr_machine.specs.TurnServes.{with_vector, turn_replies, wakes, call_marks, turn_finished, settled_turn, settled_vector}
use Rattle.gr_stands.specs.Worlds.{Given, machine_in, World, bodies}
use Rattle.gr_stands.specs.CallActs.{in_batch}
use Rattle.gr_stands_calls.proofs.Slots.{some_same}
use Rattle.gr_stands_turns.specs.Turning.{AreAnswered}
use Rattle.gr_stands_outcomes.specs.Inner.{outcome_of}
use Rattle.gr_stands_made.specs.Pieces.{ended_at, TurnEnds, EndStarts}
use Rattle.gr_batches.specs.Staying.{IsFree}
use Rattle.gr_batches_leaves.specs.Leaves.{IsMarkOf, LeavesCalls}
use Rattle.gr_batches_steps.proofs.Stays.{IsOff, turn_off, free_there, stays, vector_stays, all_resume}

module _ (Fact : TaskId → Type 0) (given : Given) (w : World) (S : State) (me : ℕ)
    (fact : (slot : ℕ) (task : Suspended) → (bodies w me).tasks.slots slot ≡ Some task → in_batch task.waits ≡ 0 → Fact task.id) where
  abbrev machine : Machine
  machine = machine_in given

  abbrev body : Body
  body = bodies w me

  abbrev Leaves : Outcome → Type 0
  Leaves outcome = LeavesCalls Fact body outcome

  quiet : Leaves (quietly body)
  quiet = record { calls = stays body body refl refl refl; sends = tt; marks = tt }

  -- Each task of a turn waits for that.
  all_free : (number : ℕ) (words : List ℕ) (answers : List (WaitingCall × Reply)) → AreAnswered body number words answers → Each (λ wake. IsFree body (body.tasks.slots wake.slot)) (wakes answers)
  all_free number words [] f = tt
  all_free number words (answer ∷ answers) f = (
    free_there body (body.tasks.slots answer.0.slot) (λ task at. subst (λ (t : Suspended). IsOff t.waits) (some_same f.0.task task (sym f.0.there ∙ at)) (subst IsOff (sym f.0.waits) (turn_off number))),
    all_free number (line_after answer.0.op words) answers f.2,
  )

  all_marked : (number : ℕ) (words : List ℕ) (answers : List (WaitingCall × Reply)) → AreAnswered body number words answers → Each (IsMarkOf Fact) (call_marks answers)
  all_marked number words [] f = tt
  all_marked number words (answer ∷ answers) f = (
    subst Fact f.0.named (fact answer.0.slot f.0.task f.0.there (ap in_batch f.0.waits)),
    all_marked number (line_after answer.0.op words) answers f.2,
  )

  finishes : (number : ℕ) (vector : Vector) (turn : Turn) (ends : Ends) (words : List ℕ) → AreAnswered body number words (turn_replies turn) → Leaves (turn_finished machine body number vector turn ends)
  finishes number vector turn ends words f =
      let next : Vector = record vector { groups = drop 1 vector.groups; turn = None } in
      record {
        calls = all_resume machine body (with_vector body number next) (wakes (turn_replies turn)) (vector_stays body (with_vector body number next) number next refl refl refl) (all_free number words (turn_replies turn) f);
        sends = (tt, tt);
        marks = all_marked number words (turn_replies turn) f;
      }

  settled : (number : ℕ) → TurnEnds w S me number → Leaves (outcome_of body (settled_vector machine body number (body.vectors.vectors number)))
  settled number told = of_vector (body.vectors.vectors number) refl
    where
      of_turn : (vector : Vector) (turn : Turn) → body.vectors.vectors number ≡ Some vector → vector.turn ≡ Some turn → Leaves (outcome_of body (settled_turn machine body number vector (Some turn)))
      of_turn vector turn e q = by (turn.left == 0) refl
        where
          ends : Ends
          ends = ends_after turn.calls turn.ends

          by : (z : Bool) → (turn.left == 0) ≡ z → Leaves (outcome_of body (if z then Some (turn_finished machine body number vector turn ends) else None))
          by true z = let t = told vector turn e q (eqb-true turn.left 0 z) in finishes number vector turn ends t.words t.answers
          by false z = quiet

      of_vector : (o : Option Vector) → body.vectors.vectors number ≡ o → Leaves (outcome_of body (settled_vector machine body number o))
      of_vector None e = quiet
      of_vector (Some vector) e = by vector.turn refl
        where
          by : (o : Option Turn) → vector.turn ≡ o → Leaves (outcome_of body (settled_turn machine body number vector o))
          by None q = quiet
          by (Some turn) q = of_turn vector turn e q

  pub end_leaves : (message : Msg) → EndStarts w S me message → Leaves (ended_at given w me message)
  end_leaves (msg.Grant vector head tail) told = settled vector told
  end_leaves (msg.ElemAck vector position got) told = settled vector told
  end_leaves _ told = quiet
