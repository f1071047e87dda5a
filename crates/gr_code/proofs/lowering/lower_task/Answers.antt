use Rattle.std.proofs.Common.{◌∙◌, ap, map}
use Rattle.gr_code.proofs.Lowers.{task_emits}
use Rattle.gr_code.proofs.lowering.lower_task.Goals as goal

pub returns-clause-emitted : goal.returns-clause-emitted
returns-clause-emitted c =
    task_emits _ _ _ _ _ _ _ _ _ _ c.in_ok-end.ensures.place c.in_ok-end.ensures.ok (ap (map (λ n. n.now)) c.as_slice.ensures.value ∙ c.in_ok-locals.ensures) c.in_ok-at.ensures.emitted c.as_slice-2.ensures
