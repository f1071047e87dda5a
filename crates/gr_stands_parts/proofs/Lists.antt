-- Each stage keeps batches, and the words of vectors in the plain state.
use Rattle.std.proofs.Common.{◌≡◌, ℕ, List, [], ◌∷◌, sym, subst}
use Rattle.gr_lang.specs.declared.action.WaitingCall.{WaitingCall}
use Rattle.gr_lang.specs.declared.action.Op.{Op}
use Rattle.gr_lang.specs.declared.action.Op.TheVariants as op
use Rattle.gr_lang.specs.States.{State}
use Rattle.gr_msg.specs.declared.message.Msg.{Msg}
use Rattle.gr_msg.specs.declared.message.Msg.TheVariants as msg
use Rattle.gr_net.specs.Sums.{Each}
use Rattle.gr_machine.specs.Machines.{Machine}
use Rattle.gr_machine.specs.States.{Letter}
use Rattle.gr_machine.specs.Histories.{Sent}
use Rattle.gr_stands.specs.Worlds.{Given, machine_in, World, bodies}
use Rattle.gr_stands.specs.Stands.{IsSound}
use Rattle.gr_stands_calls.specs.Acting.{IsFirstLetter}
use Rattle.gr_stands_made.specs.Keeping.{KeptByPieces}
use Rattle.gr_batches.specs.Keys.{IsOn}
use Rattle.gr_batches.specs.Batches.{BatchStands, BatchesStand, MessageStands}
use Rattle.gr_batches_steps.proofs.Steps.{pieces_keep_batches}
use Rattle.gr_elements_apart.specs.Leaving.{IsOffLine}
use Rattle.gr_elements_lines.specs.Lines.{HasWords, BatchIsOff}
use Rattle.gr_elements_lines.proofs.Words as words
use Rattle.gr_fits.specs.Reached.{RunsAccepted}
use Rattle.gr_fits_objects.proofs.Few.{heap_apart}
use Rattle.gr_stands_parts.specs.Stages.{ran, served, ended, gave, closed, asked, moved}
use Rattle.gr_stands_parts.specs.Keeping.{StagesKeepBatches, StagesKeepLists}

-- ---- batches

module _ (given : Given) (sound : IsSound given) (accepted : RunsAccepted given) where
  abbrev Batches : Sent → World → State → Type 0
  Batches sent world state = BatchesStand given sent world state

  kept : KeptByPieces given Batches (λ me. Batches) Batches
  kept = pieces_keep_batches given sound (heap_apart given accepted.accepted)

  then : (sent : Sent) (v : World) (S N : State) → N ≡ S → BatchesStand given sent v S → BatchesStand given sent v N
  then sent v S N same f = subst (BatchesStand given sent v) (sym same) f

  pub batches : StagesKeepBatches given
  batches sent w v S N me (ran slots) at = kept.runs sent w v S N me slots at.made.0 at.made.1 at.parts.batches
  batches sent w v S N me (served from message) at = kept.serves sent w v S N me from message at.made.0 at.made.1 at.made.2 at.parts.batches
  batches sent w v S N me (ended message) at = kept.ends sent w v S N me message at.made.0 at.made.1 at.parts.batches
  batches sent w v S N me gave at = then sent v S N at.made.0 (kept.gives sent w v S me at.made.1 at.parts.batches)
  batches sent w v S N me (closed object) at = kept.closes sent w v S N me object at.made.0 at.made.1 at.parts.batches
  batches sent w v S N me (asked victim) at = then sent v S N at.made.0 (kept.steals sent w v S me victim at.made.1 at.made.2 at.parts.batches)
  batches sent w v S N me moved at = then sent v S N at.made.0 (kept.moves sent w v S at.made.1 at.made.2 at.parts.batches)

-- ---- the calls of a batch are on no vector

on_is_off : (machine : Machine) (object key : ℕ) (call : Op) → IsOn machine object key call → IsOffLine call
on_is_off machine object key (op.Push on word) f = f
on_is_off machine object key (op.Pop on) f = f
on_is_off machine object key (op.Dequeue on) f = f
on_is_off machine object key _ f = tt

all_off : (machine : Machine) (object key : ℕ) (calls : List WaitingCall) → Each (λ call. IsOn machine object key call.op) calls
    → Each (λ call. IsOffLine call.op) calls
all_off machine object key [] f = tt
all_off machine object key (call ∷ calls) f = (on_is_off machine object key call.op f.0, all_off machine object key calls f.1)

module _ (given : Given) (sent : Sent) (w : World) (S : State) (me from : ℕ) (stand : BatchesStand given sent w S) where
  off_of : (object key batch : ℕ) (calls : List WaitingCall) → sent from batch ≡ calls → Each (λ call. IsOn (machine_in given) object key call.op) calls
      → Each (λ call. IsOffLine call.op) (sent from batch)
  off_of object key batch calls same on = subst (Each (λ call. IsOffLine call.op)) (sym same) (all_off (machine_in given) object key calls on)

  first_stands : (message : Msg) → IsFirstLetter given w me from message → MessageStands given (bodies w) S from me message
  first_stands message first =
      (subst (Each (λ (l : Letter). MessageStands given (bodies w) S l.from me l.message)) first.without.inbox (stand.messages.inboxes me first.here)).0

  is_off : (message : Msg) → IsFirstLetter given w me from message → BatchIsOff sent from message
  is_off (msg.Batch object key effect batch) first =
      let b : BatchStands given (bodies w) S from me object key effect batch = first_stands (msg.Batch object key effect batch) first in
      off_of object key batch b.calls (stand.noted from batch b.calls b.there) b.on
  is_off _ first = tt

-- ---- the words of vectors

module _ (given : Given) where
  stays : (held : ℕ → List ℕ) (S N : State) → N ≡ S → HasWords given S held → HasWords given N held
  stays held S N same f = subst (λ (x : State). HasWords given x held) (sym same) f

  pub lists : StagesKeepLists given
  lists sent w v S N me (ran slots) at = words.runs_keep given sent w S N me slots at.parts.words at.made.1.leads at.parts.lists
  lists sent w v S N me (served from message) at = words.serves_keep given sent w S N me from message at.parts.words at.made.2.leads
      (is_off given sent w S me from at.parts.batches message at.made.1) at.parts.lists
  lists sent w v S N me (ended message) at =
      words.settles_keep given sent w S N me message at.parts.words at.made.1.leads at.parts.lines at.parts.lists
  lists sent w v S N me gave at = stays at.parts.words S N at.made.0 at.parts.lists
  lists sent w v S N me (closed object) at = words.closes_keep given sent w S N me object at.parts.words at.made.1.leads at.parts.lists
  lists sent w v S N me (asked victim) at = stays at.parts.words S N at.made.0 at.parts.lists
  lists sent w v S N me moved at = stays at.parts.words S N at.made.0 at.parts.lists
