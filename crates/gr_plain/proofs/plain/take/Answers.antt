use Rattle.gr_plain.proofs.Kept.{can_make, made_counted}
use Rattle.gr_plain.proofs.plain.take.Goals as goal

pub change_numbers-requires : goal.change_numbers-requires
change_numbers-requires c = can_make c.states_stay_valid.ensures.steps _ _ _ _ _ _ c.requires c.in_ok-step.ensures.ok c.change-change.ensures c.task_count.ensures c.task_count.type_inv

pub returns-clause-counted : goal.returns-clause-counted
returns-clause-counted c =
    made_counted c.states_stay_valid.ensures.steps _ _ _ _ _ _ _ c.requires c.in_ok-step.ensures.ok c.change-change.ensures c.task_count.ensures c.task_count.type_inv c.in_ok-change_numbers.ensures.ok
