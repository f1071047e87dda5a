use Rattle.std.proofs.Common.{◌≡◌, ◌++◌, drop}
use Rattle.gr_machine.specs.Histories.{batch_entries}
use Rattle.gr_history.proofs.histories.tell_calls.Given as goal

abbrev pub invariant-loop-call : goal.invariant-loop-call
invariant-loop-call g l = l.history ++ batch_entries (drop l.call-index l.calls) l.value ≡ l.fn.history ++ batch_entries l.calls l.fn.before
