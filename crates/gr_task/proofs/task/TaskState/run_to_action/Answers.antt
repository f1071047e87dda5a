use Rattle.std.proofs.Common.{subst, sym}
use Rattle.std.specs.Prelude.{IfSome}
use Rattle.gr_code.specs.Instructions.{IsOnward}
use Rattle.gr_task.proofs.task.TaskState.run_to_action.Goals as goal

pub returns-in_err-action-clause-over : goal.returns-in_err-action-clause-over
returns-in_err-action-clause-over c = record {
  words = c.in_err-action.ensures.words;
  onward = subst (λ o. IfSome o (IsOnward c.args.code.now.points c.run.new.self.at)) (sym c.in_err-action.ensures.onward) tt;
}
