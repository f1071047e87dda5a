-- The calls that wait to be combined at a core, and the batches of it that are under way.
use Rattle.std.specs.Prelude.{ℕ, ◌+◌, List, [], ◌∷◌, ◌++◌, Some, None}
use Rattle.gr_lang.specs.declared.action.WaitingCall.{WaitingCall}
use Rattle.gr_view.specs.Places.{put}
use Rattle.gr_batch.specs.Batches.{rest_of}
use Rattle.gr_machine.specs.States.{Batches}

-- No calls and no batches.
abbrev pub no_batches : Batches
no_batches = record { combiners = λ object. []; flying = λ batch. None; next = 0 }

-- A call on a key joins the calls that wait on an object, the last.
abbrev pub joined : Batches → ℕ → ℕ → WaitingCall → Batches
joined batches object key call =
    record batches { combiners = put batches.combiners object (batches.combiners object ++ record { key = key; call = call } ∷ []) }

-- The calls that don't fold stay.
abbrev pub closed : Batches → ℕ → Batches
closed batches object = record batches { combiners = put batches.combiners object (rest_of (batches.combiners object)) }

-- The calls are under way as the batch of the next number.
abbrev pub flown : Batches → List WaitingCall → Batches
flown batches calls = record batches { flying = put batches.flying batches.next (Some calls); next = batches.next + 1 }

-- The batch is under way no more.
abbrev pub landed : Batches → ℕ → Batches
landed batches batch = record batches { flying = put batches.flying batch None }
