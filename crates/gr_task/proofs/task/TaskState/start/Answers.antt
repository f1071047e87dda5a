use Rattle.std.proofs.Common.{◌∙◌, ap, length}
use Rattle.gr_task.proofs.First.{length-first}
use Rattle.gr_task.proofs.Run.{start_is}
use Rattle.gr_task.proofs.task.TaskState.start.Goals as goal

pub returns-clause-state : goal.returns-clause-state
returns-clause-state c = start_is c.args.code.now _ _ c.args.target c.args.args.now _ c.entry-entry.ensures.point c.entry-entry.ensures.locals c.in_ok-locals.ensures

pub returns-clause-over : goal.returns-clause-over
returns-clause-over c = record {
  words = ap length c.in_ok-locals.ensures ∙ length-first c.entry-entry.result.locals c.args.args.now ∙ c.entry-entry.ensures.locals;
  onward = tt;
}
