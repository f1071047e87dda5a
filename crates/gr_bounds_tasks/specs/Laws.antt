-- The laws of the tasks that a core makes and the batches that it sends: their numbers grow by one at most with a step of the machine, with what may still
-- take one.
use Rattle.gr_bounds.specs.Shares.{GrowsByOne}
use Rattle.gr_bounds_numbers.specs.Bounds.{weightless, TasksAtMost, BatchesAtMost}

-- The numbers of the next tasks, with the slots that wait until they may make one, over all cores.
abbrev pub TasksGrow : Type 0
TasksGrow = GrowsByOne TasksAtMost weightless

-- The numbers of the next batches, with the calls that wait to be combined.
abbrev pub BatchesGrow : Type 0
BatchesGrow = GrowsByOne BatchesAtMost weightless
