use Rattle.std.proofs.Common.{ap}
use Rattle.gr_code.proofs.Lowers.{task_added, item_skipped}
use Rattle.gr_code.proofs.lowering.lower_tasks.Goals as goal
use Rattle.gr_code.proofs.lowering.lower_tasks.Goals.{in-Task+in_ok-entry-in-Task+in_ok-push-in-Task, in_default}

pub loop-item-preserved : goal.loop-item-preserved
loop-item-preserved c = elim c.match-item.branch [
  | in-Task+in_ok-entry-in-Task+in_ok-push-in-Task w ↦
      let t = task_added c.args.program.now _ _ _ _ _ _ w.in_ok-entry-in-Task.entry w.in-Task.name w.in-Task.params w.in-Task.body c.args.items.now c.loop-item.item-index c.item-item.result _
      c.loop-item-test.true c.item-item.is w.in-Task.is w.in_ok-entry-in-Task.ensures.emitted w.in_ok-entry-in-Task.ensures.params w.in_ok-entry-in-Task.ensures.locals
      w.in_ok-push-in-Task.ensures.items w.points-is (ap (λ v. v.items) w.tasks-is) c.loop-item.invariant.agree c.loop-item.invariant.tasks in
      record { agree = t.0; tasks = t.1 }
  | in_default w ↦
      let t = item_skipped c.args.program.now _ _ _ _ c.args.items.now c.loop-item.item-index c.item-item.result _
      c.loop-item-test.true c.item-item.is w.in_default.not-Task w.points-is (ap (λ v. v.items) w.tasks-is) c.loop-item.invariant.agree c.loop-item.invariant.tasks in
      record { agree = t.0; tasks = t.1 }
]
