use Rattle.std.proofs.Common.{◌≡◌, ◌++◌, drop, map}
use Rattle.gr_syntax.specs.Items.{tasks_of}
use Rattle.gr_steps.specs.TableView.{knowns_of, row_of}
use Rattle.gr_steps.proofs.listing.task_rows.Given as goal

abbrev pub invariant-loop-item : goal.invariant-loop-item
invariant-loop-item l = map row_of l.rows.items ++ knowns_of (tasks_of (drop l.item-index l.items)) ≡ knowns_of (tasks_of l.items)
