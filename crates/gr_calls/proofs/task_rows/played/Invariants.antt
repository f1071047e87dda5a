use Rattle.gr_task.specs.States.{IsOver}
use Rattle.gr_calls.proofs.task_rows.played.Given as goal

abbrev pub invariant-loop-call : goal.invariant-loop-call
invariant-loop-call l = IsOver l.code l.task
