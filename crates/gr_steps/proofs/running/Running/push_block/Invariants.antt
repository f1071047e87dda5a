use Rattle.std.proofs.Common.{◌≡◌, ◌++◌, drop, ◌≤◌, length}
use Rattle.gr_lang.specs.Next.{runs}
use Rattle.gr_steps.specs.RunningView.{dues_of}
use Rattle.gr_steps.proofs.running.Running.push_block.Given as goal

abbrev pub invariant-loop-at : goal.invariant-loop-at
invariant-loop-at l = record {
  within : l.at ≤ length l.block;
  todo : dues_of l.self-inside.stack.items ≡ runs (drop l.at l.block) ++ l.fn.self.todo;
  locals : l.self-inside.locals ≡ l.fn.self.locals;
}

abbrev pub decreases-loop-at : goal.decreases-loop-at
decreases-loop-at l = l.at
