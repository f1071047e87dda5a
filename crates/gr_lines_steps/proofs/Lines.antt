-- Each piece of a step keeps calls that wait on vectors.
use Rattle.std.proofs.Common.{◌≡◌, ◌≢◌, ℕ, ◌<◌, Bool, true, false, List, [], ◌∷◌, ◌∙◌, ap, refl, Option, Some, None, is_some}
use Rattle.gr_lang.specs.declared.action.WaitingCall.{WaitingCall}
use Rattle.gr_lang.specs.States.{State}
use Rattle.gr_msg.specs.declared.message.Msg.{Msg}
use Rattle.gr_msg.specs.declared.message.Unit.TheVariants as unit
use Rattle.gr_batch.specs.declared.combiner.Batch.{Batch}
use Rattle.gr_batch.specs.Batches.{batches_of}
use Rattle.gr_net.specs.Sums.{Each}
use Rattle.gr_net.proofs.Spreads.{Each-map}
use Rattle.gr_machine.specs.declared.waits.Waits.TheVariants as wait
use Rattle.gr_machine.specs.Machines.{thing}
use Rattle.gr_machine.specs.States.{Letter, Suspended, Vector, Body}
use Rattle.gr_machine.specs.Openings.{is_vector}
use Rattle.gr_machine.specs.Outcomes.{Outcome}
use Rattle.gr_machine.specs.Histories.{Sent}
use Rattle.gr_machine.specs.Runs.{acts, without_ready, without_unit, starts, splits, begins}
use Rattle.gr_machine.specs.Serves.{serves, settles}
use Rattle.gr_machine.specs.Closes.{closes}
use Rattle.gr_machine.specs.Events.{gives, asks, slot_of}
use Rattle.gr_stands.specs.Worlds.{Given, machine_in, World, bodies, Acts}
use Rattle.gr_stands.specs.Calls.{is_going}
use Rattle.gr_stands_calls.specs.Acting.{letter, IsFirst}
use Rattle.gr_stands_calls.proofs.Common.{first_goes}
use Rattle.gr_stands.proofs.Worlds.{facts_off}
use Rattle.gr_stands_chains.specs.Chains.{SendersStand}
use Rattle.gr_stands_closes.specs.Closing.{AreHeld}
use Rattle.gr_stands_outcomes.specs.Inner.{outcome_of}
use Rattle.gr_stands_steps.specs.Telling.{message_outcome}
use Rattle.gr_stands_made.specs.Pieces.{RunStarts, ran_at, ended_at}
use Rattle.gr_stands_made.specs.Rows.{RunRows}
use Rattle.gr_stands_made.proofs.Rows.{rows_are_found}
use Rattle.gr_lines.specs.Lines.{waits_on}
use Rattle.gr_lines.specs.Waiting.{HasLines, LinesStand}
use Rattle.gr_lines.specs.Leaving.{IsOffLines}
use Rattle.gr_lines.proofs.Kept.{lines_kept, lines_moved, has_still}
use Rattle.gr_lines_others.specs.Others.{HeapIsNoVector, AreOffLines}
use Rattle.gr_lines_others.proofs.Off.{off_none, off_task, off_close, stays}
use Rattle.gr_lines_others.proofs.Tasks.{starts_leave, begins_leave}
use Rattle.gr_lines_calls.proofs.Serves.{tasks_keep, closes_keep, messages_keep, turns_keep}
use Rattle.gr_lines_steps.specs.Laws as laws

-- ---- a Serve

module _ (given : Given) (w : World) (me : ℕ) (old : HasLines given me (bodies w me)) where
  pub serve_keeps : (from : ℕ) (message : Msg) → from < given.setup.cores → HasLines given me (message_outcome given w me from message).body
  serve_keeps from message l = by (serves (machine_in given) me (bodies w me) from message) refl
    where
      by : (o : Option Outcome) → serves (machine_in given) me (bodies w me) from message ≡ o → HasLines given me (outcome_of (bodies w me) o).body
      by None h = old
      by (Some e) h = messages_keep given me from (bodies w me) message e l old h

  end_keeps : (message : Msg) → HasLines given me (ended_at given w me message).body
  end_keeps message = by (settles (machine_in given) (bodies w me) message) refl
    where
      by : (o : Option Outcome) → settles (machine_in given) (bodies w me) message ≡ o → HasLines given me (outcome_of (bodies w me) o).body
      by None h = old
      by (Some e) h = turns_keep given me (bodies w me) message e old h

module _ (given : Given) (heap : HeapIsNoVector given) where
  -- An outcome after which its core has its lines.
  keeps : (w v : World) (me : ℕ) (got : List Letter) (e : Outcome) → Acts given.setup.cores w v me got e → HasLines given me e.body → LinesStand given w → LinesStand given v
  keeps w v me got e acts has old = lines_kept given w v me got e acts has old

  still : (me : ℕ) (body after : Body) → after.vectors ≡ body.vectors → after.tasks.slots ≡ body.tasks.slots → HasLines given me body → HasLines given me after
  still me body after vectors slots old = has_still given me body after (stays given body after vectors slots) old

  -- ---- a Run

  module _ (sent : Sent) (w : World) (S : State) (me : ℕ) (slots : List ℕ) (old : HasLines given me (bodies w me)) (start : RunStarts given sent w S me slots) where
    abbrev body : Body
    body = bodies w me

    abbrev rest : Body
    rest = without_unit body

    rested : HasLines given me rest
    rested = still me body rest refl refl old

    run_rows : (piece : (more : List ℕ) (slot : ℕ) (task : Suspended) → IsFirst w me slot more task → task.waits ≡ wait.Going) → RunRows given w S me slots (λ e. HasLines given me e.body)
    run_rows goes = record {
      task = λ slot more task first stood fits. tasks_keep given me (without_ready body) slot task heap (still me body (without_ready body) refl refl old) first.there (ap is_going (goes more slot task first));
      single = λ target args scope origin id next free. has_still given me rest (starts (machine_in given) rest (slot_of slots) target args scope origin id).body
          (starts_leave given me rest (slot_of slots) target args scope origin id free.free) rested;
      split = λ target args scope origin owner lo hi grain next sound more. still me rest (splits rest (unit.Chunk target args scope origin owner lo hi grain)).body refl refl rested;
      begin = λ target args scope origin owner lo hi grain next sound less free. has_still given me rest (begins (machine_in given) me rest (slot_of slots) target args scope origin owner lo hi grain).body
          (begins_leave given me rest (slot_of slots) target args scope origin owner lo hi grain free.free) rested;
      dropped = λ target args scope origin owner lo hi grain next not. rested;
    }

  -- ---- a Close

  -- Tasks that wait for calls on an object that is no vector.
  held_off : (body : Body) (object : ℕ) → is_vector (thing (machine_in given) object) ≢ true → (call : WaitingCall)
      → ((task : Suspended) → body.tasks.slots call.slot ≡ Some task → task.waits ≡ wait.Close object) → IsOffLines given (body.tasks.slots call.slot)
  held_off body object apart call held = by (body.tasks.slots call.slot) refl
    where
      no_line : (b : Bool) → b ≢ true → b ≡ false
      no_line true ne = absurd (ne refl)
      no_line false ne = refl

      by : (o : Option Suspended) → body.tasks.slots call.slot ≡ o → IsOffLines given o
      by None e = off_none given
      by (Some task) e = off_task given task (λ number is. ap (waits_on number) (held task e)
          ∙ off_close given object (no_line (is_vector (thing (machine_in given) object)) apart) number is)

  held_batches : (body : Body) (object : ℕ) → is_vector (thing (machine_in given) object) ≢ true → (batches : List Batch)
      → Each (λ batch. AreHeld body object batch.calls) batches → Each (λ batch. AreOffLines given body batch.calls) batches
  held_batches body object apart = Each-map (λ (batch : Batch). AreHeld body object batch.calls) (λ (batch : Batch). AreOffLines given body batch.calls)
      (λ batch held. Each-map (λ (call : WaitingCall). (task : Suspended) → body.tasks.slots call.slot ≡ Some task → task.waits ≡ wait.Close object)
      (λ (call : WaitingCall). IsOffLines given (body.tasks.slots call.slot)) (held_off body object apart) batch.calls held)

  no_vector : (me object : ℕ) (body : Body) → HasLines given me body → body.vectors.vectors object ≡ None → is_vector (thing (machine_in given) object) ≢ true
  no_vector me object body old none is = missing (body.vectors.vectors object) none (old.vectors object ∙ is)
    where
      missing : (o : Option Vector) → o ≡ None → is_some o ≡ true → ⊥
      missing o e is = cc

-- A message that is taken up comes from a core that there is.
sender : (given : Given) (w v : World) (me from : ℕ) (message : Msg) (e : Outcome) → Acts given.setup.cores w v me (letter from message ∷ []) e → SendersStand given w → from < given.setup.cores
sender given w v me from message e acts senders =
    (facts_off given.setup.cores w v me (letter from message ∷ []) e acts (λ (source target : ℕ) (m : Msg). source < given.setup.cores) senders).0.0

pub pieces_keep_lines : laws.PiecesKeepLines
pieces_keep_lines given heap = record {
  runs = λ sent w v S N me slots start piece old. keeps given heap w v me [] (ran_at given w me slots) piece.acts
      (rows_are_found given sent w S me slots (λ e. HasLines given me e.body) piece.stood.stands start
      (run_rows given heap sent w S me slots (old me) start (λ more slot task first. first_goes given w S me slot more task piece.stood.stands first))) old;
  serves = λ sent w v S N me from message start first piece old. keeps given heap w v me (letter from message ∷ []) (message_outcome given w me from message) piece.acts
      (serve_keeps given w me (old me) from message (sender given w v me from message (message_outcome given w me from message) piece.acts piece.stood.senders)) old;
  ends = λ sent w v S N me message told piece old. keeps given heap w v me [] (ended_at given w me message) piece.acts (end_keeps given w me (old me) message) old;
  gives = λ sent w v S me piece old. keeps given heap w v me [] (gives (bodies w me)) piece.acts (still given heap me (bodies w me) (gives (bodies w me)).body refl refl (old me)) old;
  closes = λ sent w v S N me object start piece old. keeps given heap w v me [] (closes (machine_in given) (bodies w me) object) piece.acts
      (closes_keep given me (bodies w me) object (old me)
      (λ none. held_batches given heap (bodies w me) object (no_vector given heap me object (bodies w me) (old me) none) (batches_of ((bodies w me).batches.combiners object)) ((start.tells.closes object).batches none))) old;
  steals = λ sent w v S me victim start piece old. keeps given heap w v me [] (asks victim (bodies w me)) piece.acts (still given heap me (bodies w me) (asks victim (bodies w me)).body refl refl (old me)) old;
  moves = λ sent w v S moved stood old. lines_moved given w v moved old;
}
