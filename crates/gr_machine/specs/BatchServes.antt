-- Serve: a batch takes effect at the home of its key or word, and its calls get their replies.
use Rattle.std.specs.Prelude.{ℕ, ◌==◌, ◌&&◌, ◌||◌, not, Bool, true, false, if◌then◌else◌, List, [], ◌∷◌, Option, Some, None, is_some}
use Rattle.std.specs.List.{list_any}
use Rattle.gr_syntax.specs.declared.limits.TheConstants.{HEAP}
use Rattle.gr_lang.specs.declared.action.Op.{Op}
use Rattle.gr_lang.specs.declared.action.Op.TheVariants as op
use Rattle.gr_lang.specs.declared.action.Effect.{Effect}
use Rattle.gr_lang.specs.declared.action.Effect.TheVariants as effect
use Rattle.gr_lang.specs.declared.action.WaitingCall.{WaitingCall}
use Rattle.gr_lang.specs.Effects.{after}
use Rattle.gr_lang.specs.Objects.{Object, array, keys, pairs, line}
use Rattle.gr_view.specs.Places.{put}
use Rattle.gr_msg.specs.declared.message.Msg.TheVariants as msg
use Rattle.gr_batch.specs.Folding.{wakes_of}
use Rattle.gr_machine.specs.declared.mark.Mark.TheVariants as mark
use Rattle.gr_machine.specs.Machines.{Machine, home, place}
use Rattle.gr_machine.specs.States.{Body}
use Rattle.gr_machine.specs.Outcomes.{Outcome, to, quietly}
use Rattle.gr_machine.specs.Slots.{awaits_batch, calls_await, resumed_all}
use Rattle.gr_machine.specs.Calls.{is_reducer}
use Rattle.gr_machine.specs.Requests.{with_word}

-- The batch took effect: what stood there before is marked, and sent back.
abbrev pub applied : Body → ℕ → ℕ → Option ℕ → Outcome
applied body from batch before = record { body = body; sends = to from (msg.BatchReply batch before); marks = mark.Applied from batch before ∷ [] }

-- Effects on words, sets and maps: a word is folded; in a set no reducer folds, and no word but 0 is put; in a map each reducer is one that there is.

abbrev pub is_of_word : Effect → Bool
is_of_word (effect.Fold reducer word) = is_reducer reducer
is_of_word _ = false

abbrev pub is_of_set : Effect → Bool
is_of_set (effect.Present word) = word == 0
is_of_set (effect.Fold reducer word) = false
is_of_set _ = true

abbrev pub is_of_map : Effect → Bool
is_of_map (effect.Fold reducer word) = is_reducer reducer
is_of_map _ = true

-- The word at a place of this core, where there is one.
abbrev pub word_applied : Body → ℕ → ℕ → Effect → ℕ → Option ℕ → Option Outcome
word_applied body from place what batch None = None
word_applied body from place what batch (Some word) = Some (applied (with_word body place (after what (Some word))) from batch (Some word))

abbrev pub word_batch : Machine → ℕ → Body → ℕ → ℕ → Effect → ℕ → Option Outcome
word_batch machine me body from at what batch =
    if is_of_word what && home machine at == me then word_applied body from (place machine at) what batch (body.words.segment (place machine at)) else None

abbrev pub with_under : Body → ℕ → ℕ → Option ℕ → Body
with_under body object key value = record body { words = record body.words { shards = put body.words.shards object (put (body.words.shards object) key value) } }

-- What stands under a key here.
abbrev pub key_applied : Body → ℕ → ℕ → ℕ → Effect → ℕ → Option ℕ → Outcome
key_applied body from object key what batch before = applied (with_under body object key (after what before)) from batch before

abbrev pub key_batch : Body → ℕ → ℕ → ℕ → Effect → ℕ → Bool → Option Outcome
key_batch body from object key what batch true = Some (key_applied body from object key what batch (body.words.shards object key))
key_batch body from object key what batch false = None

-- A batch on an array, the heap, a set or a map.
abbrev pub batched : Machine → ℕ → Body → ℕ → ℕ → ℕ → Effect → ℕ → Option Object → Option Outcome
batched machine me body from object key what batch (Some (array start count)) = word_batch machine me body from key what batch
batched machine me body from object key what batch (Some (keys held)) = key_batch body from object key what batch (is_of_set what)
batched machine me body from object key what batch (Some (pairs held)) = key_batch body from object key what batch (is_of_map what)
batched machine me body from object key what batch (Some (line words)) = None
batched machine me body from object key what batch None = if object == HEAP then word_batch machine me body from key what batch else None

-- Replies

abbrev pub is_reduce : Op → Bool
is_reduce (op.Reduce object reducer place word) = true
is_reduce _ = false

abbrev pub without_batch : Body → ℕ → Body
without_batch body batch = record body { batches = record body.batches { flying = put body.batches.flying batch None } }

-- All calls of the batch wait for it, and with a reduce among them there was a word.
abbrev pub can_wake : Body → ℕ → Option ℕ → List WaitingCall → Bool
can_wake body batch before calls = calls_await (awaits_batch batch) body calls && (is_some before || not (list_any (λ call. is_reduce call.op) calls))

-- Each call, in order, gets the reply that it has after those before it, and the batch is no longer under way.
abbrev pub batch_replied : Machine → Body → ℕ → Option ℕ → Option (List WaitingCall) → Option Outcome
batch_replied machine body batch before None = None
batch_replied machine body batch before (Some calls) =
    if can_wake body batch before calls then Some (quietly (without_batch (resumed_all machine body (wakes_of calls before)) batch)) else None
