-- What a `Combining` keeps, as the calls that wait and the batches under way.
use Rattle.std.specs.Prelude.{ℕ, List, [], Option}
use Rattle.std.specs.Ordering.{nat_cmp}
use Rattle.std.specs.BTreeMap.{is_at}
use Rattle.std.specs.Map.{lookup}
use Rattle.gr_lang.specs.declared.action.WaitingCall.{WaitingCall}
use Rattle.gr_view.specs.Places.{at_place}
use Rattle.gr_batch.specs.declared.combiner.Held.{Held}
use Rattle.gr_machine.specs.States.{Batches}

-- The calls that wait on each object, in the order of the objects' numbers; the batches under way by their numbers; and the number of the next.
pub record CombiningData : Type 0 where
  pub combiners : List (List Held)
  pub flying : List (ℕ × List WaitingCall)
  pub next : ℕ

-- The calls that a list of pairs has for each batch.
unfoldable pub flying_in : List (ℕ × List WaitingCall) → ℕ → Option (List WaitingCall)
flying_in entries batch = lookup (is_at (nat_cmp batch)) entries

abbrev pub batches_in : CombiningData → Batches
batches_in kept = record { combiners = at_place [] kept.combiners; flying = flying_in kept.flying; next = kept.next }
