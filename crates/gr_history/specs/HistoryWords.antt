-- The batches that have gone off, as a list of pairs.
use Rattle.std.specs.Prelude.{List, [], Option, Some, None}
use Rattle.std.specs.Borrow.{Bor}
use Rattle.std.specs.Ordering.{nat_cmp, ordering_then}
use Rattle.std.specs.declared.cmp.Ordering.{Ordering}
use Rattle.std.specs.Map.{lookup}
use Rattle.std.specs.BTreeMap.{is_at}
use Rattle.gr_lang.specs.declared.action.WaitingCall.{WaitingCall}
use Rattle.gr_machine.specs.Histories.{Sent}
use Rattle.gr_history.specs.declared.batches.BatchId.{BatchId}

-- Batches are ordered by core, then by number.
abbrev pub batch_cmp : BatchId → BatchId → Ordering
batch_cmp one other = ordering_then (nat_cmp one.core other.core) (nat_cmp one.number other.number)

-- The calls that are lent, and none where nothing is.
abbrev pub calls_in : Option (Bor (List WaitingCall)) → List WaitingCall
calls_in None = []
calls_in (Some calls) = calls.now

-- The calls that a list of pairs has for each batch.
unfoldable pub sent_in : List (BatchId × Bor (List WaitingCall)) → Sent
sent_in entries core number = calls_in (lookup (is_at (batch_cmp (record { core = core; number = number }))) entries)
