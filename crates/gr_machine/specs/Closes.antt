-- Close: the calls that wait on an object go off, as batches to the homes of their keys, or as a group that asks for a turn.
use Rattle.std.specs.Prelude.{ℕ, ◌+◌, List, [], ◌∷◌, ◌++◌, length, Option, Some, None}
use Rattle.std.specs.Option.{option_map_or}
use Rattle.gr_lang.specs.declared.action.WaitingCall.{WaitingCall}
use Rattle.gr_lang.specs.Objects.{Object, keys, pairs}
use Rattle.gr_view.specs.Places.{put}
use Rattle.gr_msg.specs.declared.message.Msg.TheVariants as msg
use Rattle.gr_batch.specs.Batches.{batches_of, rest_of}
use Rattle.gr_batch.specs.declared.combiner.Batch.{Batch}
use Rattle.gr_batch.specs.declared.combiner.Held.{Held}
use Rattle.gr_vector.specs.Groups.{group_of}
use Rattle.gr_machine.specs.declared.mark.Mark.TheVariants as mark
use Rattle.gr_machine.specs.Machines.{Machine, home, numbered_home, thing}
use Rattle.gr_machine.specs.declared.waits.Waits.TheVariants as wait
use Rattle.gr_machine.specs.States.{Vector, Body}
use Rattle.gr_machine.specs.Outcomes.{Outcome, to, quietly, followed}
use Rattle.gr_machine.specs.Slots.{rewaiting}
use Rattle.gr_machine.specs.TurnServes.{with_vector}

-- The home of a batch: that of its key in a set or map, and else that of the word at the address.
abbrev pub batch_home : Machine → Option Object → ℕ → ℕ
batch_home machine (Some (keys held)) key = numbered_home machine key
batch_home machine (Some (pairs held)) key = numbered_home machine key
batch_home machine _ key = home machine key

-- The calls are under way as the batch of the next number.
abbrev pub with_flying : Body → List WaitingCall → Body
with_flying body calls = record body { batches = record body.batches { flying = put body.batches.flying body.batches.next (Some calls); next = body.batches.next + 1 } }

-- A batch goes off: it is marked with its calls, whose tasks wait for it from now on.
abbrev pub batch_sent : Machine → Body → ℕ → Batch → Outcome
batch_sent machine body object batch = record {
  body = with_flying (rewaiting body (wait.Batch body.batches.next) batch.calls) batch.calls;
  sends = to (batch_home machine (thing machine object) batch.key) (msg.Batch object batch.key batch.effect body.batches.next);
  marks = mark.Closed body.batches.next batch.calls ∷ [];
}

-- Some batches go off, one after another.
abbrev pub batches_sent : Machine → ℕ → Outcome → List Batch → Outcome
batches_sent machine object outcome [] = outcome
batches_sent machine object outcome (batch ∷ batches) = batches_sent machine object (followed outcome (batch_sent machine outcome.body object batch)) batches

abbrev pub with_combiner : Body → ℕ → List Held → Body
with_combiner body object held = record body { batches = record body.batches { combiners = put body.batches.combiners object held } }

-- One batch for each key; the calls that don't fold stay.
abbrev pub closes_combiner : Machine → Body → ℕ → List Held → Outcome
closes_combiner machine body object held = batches_sent machine object (quietly (with_combiner body object (rest_of held))) (batches_of held)

-- All calls are the newest group, for which a turn is asked.
abbrev pub closes_vector : Machine → Body → ℕ → Vector → List WaitingCall → Outcome
closes_vector machine body object vector group = record {
  body = rewaiting (with_vector body object (record vector { combiner = []; groups = vector.groups ++ group ∷ [] })) (wait.Turn object) group;
  sends = to (numbered_home machine object) (msg.Turn object);
  marks = [];
}

abbrev pub closes_as : Machine → Body → ℕ → Option Vector → Outcome
closes_as machine body object None = closes_combiner machine body object (body.batches.combiners object)
closes_as machine body object (Some vector) = closes_vector machine body object vector (group_of vector.combiner)

abbrev pub closes : Machine → Body → ℕ → Outcome
closes machine body object = closes_as machine body object (body.vectors.vectors object)

-- How many calls wait on an object.
abbrev pub held_count : Body → ℕ → ℕ
held_count body object = option_map_or (λ vector. length vector.combiner) (body.vectors.vectors object) (length (body.batches.combiners object))
