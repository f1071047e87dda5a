use Rattle.std.proofs.Common.{◌≡◌}
use Rattle.gr_lang.specs.Next.{next}
use Rattle.gr_task.specs.States.{state_of}
use Rattle.gr_task.specs.TurnWords.{HasWords}
use Rattle.gr_task.proofs.task.TaskState.run.Given as goal

abbrev pub invariant-turns : goal.invariant-turns
invariant-turns l = record {
  words : HasWords l.code l.self;
  onward : l.self.onward ≡ l.fn.self.onward;
  same : next l.code.program l.limit (state_of l.code l.fn.self) ≡ next l.code.program l.left (state_of l.code l.self);
}

abbrev pub decreases-turns : goal.decreases-turns
decreases-turns l = l.left
