-- Laws of batches.
use Rattle.std.specs.Prelude.{◌≡◌, ℕ, List, ◌∷◌, ◌++◌, [], Option, Some, None}
use Rattle.gr_lang.specs.Effects.{after}
use Rattle.gr_lang.specs.declared.action.Effect.{Effect}
use Rattle.gr_lang.specs.declared.action.WaitingCall.{WaitingCall}
use Rattle.gr_batch.specs.Folding.{after_all, folded}
use Rattle.gr_batch.specs.Batches.{calls_at, group_of, rest_of}
use Rattle.gr_batch.specs.declared.combiner.Held.{Held}

-- The one effect of calls that fold leaves what the last of them leaves.
abbrev pub BatchesDoTheirCalls : Type 0
BatchesDoTheirCalls = (calls : List WaitingCall) (both : Effect) → folded calls ≡ Some both → (before : Option ℕ) → after_all calls before ≡ after both before

-- The batch is the longest run of first calls that folds, and this is its effect.
pub record IsLongest (calls batch : List WaitingCall) (both : Effect) : Type 0 where
  pub rest : List WaitingCall
  pub parts : calls ≡ batch ++ rest
  pub folds : folded batch ≡ Some both
  pub longest : (next : WaitingCall) (more : List WaitingCall) → rest ≡ next ∷ more → folded (batch ++ next ∷ []) ≡ None

abbrev pub BatchesAreLongest : Type 0
BatchesAreLongest = (calls : List WaitingCall) → IsLongest calls (group_of calls).calls (group_of calls).effect

-- Each held call on a key is in its batch or stays, those of the batch first.
abbrev pub EachCallIsKept : Type 0
EachCallIsKept = (key : ℕ) (held : List Held) → calls_at key held ≡ (group_of (calls_at key held)).calls ++ calls_at key (rest_of held)
