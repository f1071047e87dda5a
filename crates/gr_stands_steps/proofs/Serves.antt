-- What a Serve does.
use Rattle.std.proofs.Common.{◌≡◌, ◌<◌, ◌==◌, ℕ, List, [], ◌∷◌, ◌++◌, sym, ◌∙◌, ap, subst, refl}
use Rattle.std.specs.Prelude.{Bool, true, false, if◌then◌else◌, Option, Some, None}
use Rattle.std.proofs.lemmas.List.{append-nil}
use Rattle.std.proofs.lemmas.Bool.{eqb-true}
use Rattle.gr_lang.specs.States.{State}
use Rattle.gr_msg.specs.declared.message.Msg.{Msg}
use Rattle.gr_msg.specs.declared.message.Msg.TheVariants as msg
use Rattle.gr_vector.specs.declared.ends.Ends.{Ends}
use Rattle.gr_vector.specs.Plans.{ends_after}
use Rattle.gr_net.proofs.Spreads.{put_same}
use Rattle.gr_machine.specs.Machines.{Machine}
use Rattle.gr_machine.specs.declared.mark.Mark.{Mark}
use Rattle.gr_machine.specs.States.{Letter, Turn, Vector, Body}
use Rattle.gr_machine.specs.Outcomes.{Send, Outcome, quietly, followed}
use Rattle.gr_machine.specs.Histories.{Sent}
use Rattle.gr_machine.specs.ScopeServes.{spawned}
use Rattle.gr_machine.specs.TurnServes.{turn_finished, settled_turn, settled_vector}
use Rattle.gr_machine.specs.Serves.{serves, settles}
use Rattle.gr_stands.specs.Worlds.{Given, machine_in, World, bodies}
use Rattle.gr_stands.specs.Stands.{IsSound, Stands}
use Rattle.gr_stands_calls.specs.Rests.{IsOfNoTask}
use Rattle.gr_stands_calls.specs.Acting.{letter, IsFirstLetter, ActsQuietly}
use Rattle.gr_stands_calls.proofs.Made.{requests_are_made}
use Rattle.gr_stands_calls.proofs.Asked.{replies_are_taken}
use Rattle.gr_stands_calls.proofs.Stays.{units_come}
use Rattle.gr_stands_chains.specs.Chains.{ActsWithEntries}
use Rattle.gr_stands_chains.proofs.Follows.{quiet_outcomes_act}
use Rattle.gr_stands_changes.specs.Quiet.{IsQuiet}
use Rattle.gr_stands_changes.proofs.Leaves.{leaves_kept}
use Rattle.gr_stands_changes.proofs.Quiet.{quiet_messages_are_served}
use Rattle.gr_stands_changes.proofs.Units.{gifts_are_taken}
use Rattle.gr_stands_chains.proofs.Actions.{actions_follow}
use Rattle.gr_stands_changes.proofs.Leaves.{nothing_happens}
use Rattle.gr_stands_closes.proofs.Replies.{batches_come_back}
use Rattle.gr_stands_turns.specs.Turning.{TurnTells}
use Rattle.gr_stands_turns.proofs.Turns.{turns_finish}
use Rattle.gr_stands_enrols.proofs.Enrols.{enrolments_are_served}
use Rattle.gr_stands_passes.proofs.Leaving.{leaves_are_served}
use Rattle.gr_stands_outcomes.specs.Inner.{outcome_of, and_settled, serve_outcome, first_of}
use Rattle.gr_stands_steps.specs.Entries.{ActsWithMarks, StandsAmongCores}
use Rattle.gr_stands_steps.specs.Telling.{message_outcome, EndTells, MessageTells, PartsTell}
use Rattle.gr_stands_steps.specs.Laws as laws
use Rattle.gr_stands_steps.proofs.Marks.{of_entries, of_quiet, of_entry}

-- An outcome after which nothing else happens.
then_nothing : (e : Outcome) → followed e (quietly e.body) ≡ e
then_nothing e =
    ap (λ (ss : List Send). record { body = e.body; sends = ss; marks = e.marks ++ [] }) (append-nil e.sends)
    ∙ ap (λ (ms : List Mark). record { body = e.body; sends = e.sends; marks = ms }) (append-nil e.marks)

module _ (given : Given) (sent : Sent) (w : World) (S : State) (me from : ℕ) (sound : IsSound given) (all : StandsAmongCores given w S)
    (tells : PartsTell given sent w S me) where
  abbrev st : Stands given w S
  st = all.stands

  abbrev machine : Machine
  machine = machine_in given

  abbrev body : Body
  body = bodies w me

  abbrev First : Msg → Type 0
  First m = IsFirstLetter given w me from m

  abbrev Acts : Msg → Outcome → Type 0
  Acts m e = ActsWithMarks given sent w S me (letter from m ∷ []) e

  -- ---- nothing is found to act on

  pub nothing_found : (m : Msg) → First m → IsOfNoTask m → ActsQuietly given w S me (letter from m ∷ []) (Some (quietly body))
  nothing_found m first none = record {
    outcome = quietly body;
    acts = refl;
    sends = tt;
    marks = refl;
    keeps = leaves_kept given w S me (letter from m ∷ []) (quietly body) st first.here (record { tasks = refl; work = refl; words = refl; letters = (none, tt); sends = tt });
  }

  -- A fact of what a message finds, and of nothing.
  found_or : (m : Msg) → First m → IsOfNoTask m → ((e : Outcome) → serves machine me body from m ≡ Some e → Acts m e) → Acts m (outcome_of body (serves machine me body from m))
  found_or m first none each = by (serves machine me body from m) refl
    where
      by : (o : Option Outcome) → serves machine me body from m ≡ o → Acts m (outcome_of body o)
      by None e = of_quiet given sent w S me (letter from m ∷ []) body (Some (quietly body)) (nothing_found m first none)
      by (Some e) h = each e h

  pub quiet_made : (m : Msg) → First m → IsOfNoTask m → IsQuiet m → (o : Option Outcome) → serves machine me body from m ≡ o → ActsQuietly given w S me (letter from m ∷ []) (Some (outcome_of body o))
  quiet_made m first none quiet None h = nothing_found m first none
  quiet_made m first none quiet (Some e) h = quiet_messages_are_served given w S me from m e sound st all.senders tells.turns first quiet h

  quiet : (m : Msg) → First m → IsOfNoTask m → IsQuiet m → Acts m (outcome_of body (serves machine me body from m))
  quiet m first none q = of_quiet given sent w S me (letter from m ∷ []) body (Some (outcome_of body (serves machine me body from m)))
      (quiet_made m first none q (serves machine me body from m) refl)

  -- ---- what is found first

  pub found_acts : (m : Msg) → First m → MessageTells given sent w S me from m → Acts m (outcome_of body (serves machine me body from m))
  found_acts (msg.Request slot id operation x y z) first told =
      of_entry given sent w S me (letter from (msg.Request slot id operation x y z) ∷ []) body (serves machine me body from (msg.Request slot id operation x y z))
      (requests_are_made given w S me from slot id operation x y z sound st first)
  found_acts (msg.Reply slot id one other) first told =
      of_quiet given sent w S me (letter from (msg.Reply slot id one other) ∷ []) body (serves machine me body from (msg.Reply slot id one other))
      (replies_are_taken given w S me from slot id one other sound st first)
  found_acts (msg.Spawn work) first told = of_quiet given sent w S me (letter from (msg.Spawn work) ∷ []) body (Some (spawned body work))
      (record { outcome = spawned body work; acts = refl; sends = tt; marks = refl; keeps = units_come given w S me from work st first })
  found_acts (msg.Enrol scope) first told = quiet (msg.Enrol scope) first tt tt
  found_acts (msg.EnrolAck scope) first told = found_or (msg.EnrolAck scope) first tt (λ e h.
      of_entries given sent w S me (letter from (msg.EnrolAck scope) ∷ []) body (Some e) (enrolments_are_served given w S me from scope e st first told h))
  found_acts (msg.Complete scope count) first told = quiet (msg.Complete scope count) first tt tt
  found_acts (msg.Leave scope) first told = found_or (msg.Leave scope) first tt (λ e h.
      of_entries given sent w S me (letter from (msg.Leave scope) ∷ []) body (Some e) (leaves_are_served given w S me from scope e st first told h))
  found_acts msg.StealAsk first told = quiet msg.StealAsk first tt tt
  found_acts (msg.StealGive work) first told =
      of_quiet given sent w S me (letter from (msg.StealGive work) ∷ []) body (serves machine me body from (msg.StealGive work)) (gifts_are_taken given w S me from work st first told)
  found_acts (msg.Batch object key effect batch) first told = found_or (msg.Batch object key effect batch) first tt (λ e h. told e h)
  found_acts (msg.BatchReply batch before) first told = found_or (msg.BatchReply batch before) first tt (λ e h.
      of_quiet given sent w S me (letter from (msg.BatchReply batch before) ∷ []) body (Some e) (batches_come_back given w S me from batch before e st first told h))
  found_acts (msg.Turn vector) first told = quiet (msg.Turn vector) first tt tt
  found_acts (msg.Grant vector head tail) first told = quiet (msg.Grant vector head tail) first tt tt
  found_acts (msg.Done vector head tail) first told = quiet (msg.Done vector head tail) first tt tt
  found_acts (msg.ElemPut vector position word) first told = quiet (msg.ElemPut vector position word) first tt tt
  found_acts (msg.ElemGet vector position) first told = quiet (msg.ElemGet vector position) first tt tt
  found_acts (msg.ElemAck vector position answer) first told = quiet (msg.ElemAck vector position answer) first tt tt

  -- ---- no turn is finished

  alone : (m : Msg) → ((b : Body) → settles machine b m ≡ None) → Acts m (outcome_of body (serves machine me body from m)) → Acts m (and_settled machine m (outcome_of body (serves machine me body from m)))
  alone m none row =
      let e = outcome_of body (serves machine me body from m) in
      subst (Acts m) (sym (ap (λ (o : Option Outcome). followed e (outcome_of e.body o)) (none e.body) ∙ then_nothing e)) row

  -- ---- the end of a turn

  nothing_more : (v : World) (b : Body) → bodies v me ≡ b → Stands given v S → me < given.setup.cores → ActsWithEntries given v S me [] (Some (quietly b))
  nothing_more v b at stv here = subst (λ (x : Body). ActsWithEntries given v S me [] (Some (quietly x))) at
      (quiet_outcomes_act given v S me [] (Some (quietly (bodies v me))) (record { outcome = quietly (bodies v me); acts = refl; sends = tt; marks = refl; keeps = nothing_happens given v S me stv here }))

  of_turn : (number : ℕ) (v : World) (b : Body) → bodies v me ≡ b → Stands given v S → me < given.setup.cores → (vector : Vector) (turn : Turn) → (turn.left ≡ 0 → TurnTells v S me number turn)
      → ActsWithEntries given v S me [] (Some (outcome_of b (settled_turn machine b number vector (Some turn))))
  of_turn number v b at stv here vector turn told = by (turn.left == 0) refl
    where
      ends : Ends
      ends = ends_after turn.calls turn.ends

      by : (z : Bool) → (turn.left == 0) ≡ z → ActsWithEntries given v S me [] (Some (outcome_of b (if z then Some (turn_finished machine b number vector turn ends) else None)))
      by true e = subst (λ (x : Body). ActsWithEntries given v S me [] (Some (turn_finished machine x number vector turn ends))) at
          (turns_finish given v S me number vector turn ends sound stv here (told (eqb-true turn.left 0 e)))
      by false e = nothing_more v b at stv here

  settled : (number : ℕ) (v : World) (b : Body) → bodies v me ≡ b → Stands given v S → me < given.setup.cores
      → ((vector : Vector) (turn : Turn) → b.vectors.vectors number ≡ Some vector → vector.turn ≡ Some turn → turn.left ≡ 0 → TurnTells v S me number turn)
      → ActsWithEntries given v S me [] (Some (outcome_of b (settled_vector machine b number (b.vectors.vectors number))))
  settled number v b at stv here told = of_vector (b.vectors.vectors number) refl
    where
      of_vector : (o : Option Vector) → b.vectors.vectors number ≡ o → ActsWithEntries given v S me [] (Some (outcome_of b (settled_vector machine b number o)))
      of_vector None e = nothing_more v b at stv here
      of_vector (Some vector) e = by vector.turn refl
        where
          by : (o : Option Turn) → vector.turn ≡ o → ActsWithEntries given v S me [] (Some (outcome_of b (settled_turn machine b number vector o)))
          by None q = nothing_more v b at stv here
          by (Some turn) q = of_turn number v b at stv here vector turn (told vector turn e q)

  -- A message after which a turn may be finished.
  and_ends : (number : ℕ) (m : Msg) → First m → IsOfNoTask m → IsQuiet m → ((b : Body) → settles machine b m ≡ settled_vector machine b number (b.vectors.vectors number))
      → EndTells w S me number (message_outcome given w me from m).body → Acts m (and_settled machine m (message_outcome given w me from m))
  and_ends number m first none q ends told =
      let got = letter from m ∷ [] in
      let e : Outcome = message_outcome given w me from m in
      let made : ActsQuietly given w S me got (Some e) = quiet_made m first none q (serves machine me body from m) refl in
      let row : ActsWithEntries given w S me got (Some e) = record {
        outcome = made.outcome;
        acts = made.acts;
        sends = made.sends;
        entries = [];
        marks = made.marks;
        next = S;
        leads = refl;
        keeps = made.keeps;
      } in
      let second : Outcome = outcome_of e.body (settled_vector machine e.body number (e.body.vectors.vectors number)) in
      let both : ActsWithEntries given w S me got (Some (followed e second)) = actions_follow given w S me got first.core e second first.here first.without row
      (λ v is stv. settled number v e.body (ap (λ (x : ℕ → Body). x me) is ∙ put_same (bodies w) me e.body) stv first.here (λ vector turn. told v vector turn is)) in
      subst (λ (o : Option Outcome). Acts m (followed e (outcome_of e.body o))) (sym (ends e.body))
      (of_entries given sent w S me got body (Some (followed e second)) both)

  -- ---- any message

  any : (m : Msg) → First m → MessageTells given sent w S me from m → Acts m (and_settled machine m (outcome_of body (serves machine me body from m)))
  any (msg.Grant vector head tail) first told = and_ends vector (msg.Grant vector head tail) first tt tt (λ b. refl) told
  any (msg.ElemAck vector position answer) first told = and_ends vector (msg.ElemAck vector position answer) first tt tt (λ b. refl) told
  any (msg.Request slot id operation x y z) first told = alone (msg.Request slot id operation x y z) (λ b. refl) (found_acts (msg.Request slot id operation x y z) first told)
  any (msg.Reply slot id one other) first told = alone (msg.Reply slot id one other) (λ b. refl) (found_acts (msg.Reply slot id one other) first told)
  any (msg.Spawn work) first told = alone (msg.Spawn work) (λ b. refl) (found_acts (msg.Spawn work) first told)
  any (msg.Enrol scope) first told = alone (msg.Enrol scope) (λ b. refl) (found_acts (msg.Enrol scope) first told)
  any (msg.EnrolAck scope) first told = alone (msg.EnrolAck scope) (λ b. refl) (found_acts (msg.EnrolAck scope) first told)
  any (msg.Complete scope count) first told = alone (msg.Complete scope count) (λ b. refl) (found_acts (msg.Complete scope count) first told)
  any (msg.Leave scope) first told = alone (msg.Leave scope) (λ b. refl) (found_acts (msg.Leave scope) first told)
  any msg.StealAsk first told = alone msg.StealAsk (λ b. refl) (found_acts msg.StealAsk first told)
  any (msg.StealGive work) first told = alone (msg.StealGive work) (λ b. refl) (found_acts (msg.StealGive work) first told)
  any (msg.Batch object key effect batch) first told = alone (msg.Batch object key effect batch) (λ b. refl) (found_acts (msg.Batch object key effect batch) first told)
  any (msg.BatchReply batch before) first told = alone (msg.BatchReply batch before) (λ b. refl) (found_acts (msg.BatchReply batch before) first told)
  any (msg.Turn vector) first told = alone (msg.Turn vector) (λ b. refl) (found_acts (msg.Turn vector) first told)
  any (msg.Done vector head tail) first told = alone (msg.Done vector head tail) (λ b. refl) (found_acts (msg.Done vector head tail) first told)
  any (msg.ElemPut vector position word) first told = alone (msg.ElemPut vector position word) (λ b. refl) (found_acts (msg.ElemPut vector position word) first told)
  any (msg.ElemGet vector position) first told = alone (msg.ElemGet vector position) (λ b. refl) (found_acts (msg.ElemGet vector position) first told)

-- The first letter of an inbox.
pub first_is : (given : Given) (w : World) (me : ℕ) (l : Letter) (ls : List Letter) → me < given.setup.cores → (w.cores me).inbox ≡ l ∷ ls → IsFirstLetter given w me l.from l.message
first_is given w me l ls here e = record {
  here = here;
  core = record { body = (w.cores me).body; inbox = ls; buffers = (w.cores me).buffers };
  without = record { body = refl; inbox = e; buffers = refl };
}

pub serves_act : laws.ServesAct
serves_act given sent w S me sound all tells here = by (w.cores me).inbox refl
  where
    by : (inbox : List Letter) → (w.cores me).inbox ≡ inbox → ActsWithMarks given sent w S me (first_of inbox) (serve_outcome (machine_in given) me (bodies w me) inbox)
    by [] e = of_quiet given sent w S me [] (bodies w me) (Some (quietly (bodies w me)))
        (record { outcome = quietly (bodies w me); acts = refl; sends = tt; marks = refl; keeps = nothing_happens given w S me all.stands here })
    by (l ∷ ls) e =
        let first = first_is given w me l ls here e in
        any given sent w S me l.from sound all tells l.message first (tells.messages l.from l.message first)

pub messages_act : laws.MessagesAct
messages_act given sent w S me from m sound all tells first = found_acts given sent w S me from sound all tells m first (tells.messages from m first)
