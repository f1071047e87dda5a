-- Worked rows of batches.
use Rattle.std.specs.Prelude.{◌≡◌, ℕ, List, [], ◌∷◌, map, Some, None}
use Rattle.gr_lang.specs.Effects.{after}
use Rattle.gr_lang.specs.declared.action.Effect.TheVariants as effect
use Rattle.gr_lang.specs.declared.action.Op.{Op}
use Rattle.gr_lang.specs.declared.action.Op.TheVariants as op
use Rattle.gr_lang.specs.declared.action.TaskId.{TaskId}
use Rattle.gr_lang.specs.declared.action.WaitingCall.{WaitingCall}
use Rattle.gr_batch.specs.Folding.{wakes_of}
use Rattle.gr_batch.specs.Batches.{batches_of, rest_of}
use Rattle.gr_batch.specs.declared.combiner.Held.{Held}
use Rattle.gr_batch.specs.declared.wakes.Woken.{Woken}

abbrev pub id : TaskId
id = record { core = 0; number = 0 }

-- A call of the task in slot 0.
abbrev pub waiting : Op → WaitingCall
waiting call = record { slot = 0; id = id; op = call }

abbrev pub joined : ℕ → List Op → List Held
joined key = map (λ call. record { key = key; call = waiting call })

abbrev pub set_calls : List Op
set_calls = op.Insert 0 9 ∷ op.Insert 0 9 ∷ op.Remove 0 9 ∷ op.Has 0 9 ∷ op.Insert 0 9 ∷ []

-- insert, insert, remove, has and insert of one key are one batch, which puts 0.
abbrev pub SetBatch : Type 0
SetBatch = batches_of (joined 9 set_calls) ≡ (record { key = 9; effect = effect.Present 0; calls = map waiting set_calls }) ∷ []

-- Each replies as if it had been called alone, in this order, on the empty set.
abbrev pub SetReplies : Type 0
SetReplies = map (λ (wake : Woken). wake.reply.first) (wakes_of (map waiting set_calls) None) ≡ 1 ∷ 0 ∷ 1 ∷ 0 ∷ 1 ∷ []

abbrev pub merges : List Op
merges = op.Merge 0 2 5 3 ∷ op.Merge 0 2 5 9 ∷ op.Merge 0 0 5 1 ∷ []

-- Two merges by max fold, a merge by add after them doesn't.
abbrev pub GreatestIsFirst : Type 0
GreatestIsFirst = batches_of (joined 5 merges) ≡ (record { key = 5; effect = effect.Fold 2 9; calls = waiting (op.Merge 0 2 5 3) ∷ waiting (op.Merge 0 2 5 9) ∷ [] }) ∷ []

-- It stays, and is the next batch.
abbrev pub SumIsSecond : Type 0
SumIsSecond = batches_of (rest_of (joined 5 merges)) ≡ (record { key = 5; effect = effect.Fold 0 1; calls = waiting (op.Merge 0 0 5 1) ∷ [] }) ∷ []

-- Two merges by first fold into the first, which is put where nothing stands, and leaves what stands.
abbrev pub FirstIsKept : Type 0
FirstIsKept = (batches_of (joined 5 (op.Merge 0 6 5 4 ∷ op.Merge 0 6 5 7 ∷ []))
    ≡ (record { key = 5; effect = effect.Fold 6 4; calls = waiting (op.Merge 0 6 5 4) ∷ waiting (op.Merge 0 6 5 7) ∷ [] }) ∷ [])
    × (after (effect.Fold 6 4) None ≡ Some 4) × (after (effect.Fold 6 4) (Some 2) ≡ Some 2)
