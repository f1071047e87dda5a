use Rattle.std.proofs.Common.{◌≡◌, ◌++◌}
use Rattle.gr_machine.specs.Histories.{history_from, history_of}
use Rattle.gr_history.specs.HistoryWords.{sent_in}
use Rattle.gr_history.proofs.histories.told.Given as goal

abbrev pub invariant-loop-core : goal.invariant-loop-core
invariant-loop-core g l = l.history ++ history_from (sent_in l.batches.entries) l.core-iterator.rest.items ≡ history_of l.fn.marks.items
