use Rattle.gr_lang.proofs.StepRows.{seven_next, seven_complete, eight_not_legal, over_not_legal}
use Rattle.gr_lang.proofs.step_rows.seven_rows.Goals as goal

pub returns-clause-next : goal.returns-clause-next
returns-clause-next c = seven_next

pub returns-clause-complete : goal.returns-clause-complete
returns-clause-complete c = seven_complete

pub returns-clause-eight : goal.returns-clause-eight
returns-clause-eight c = eight_not_legal

pub returns-clause-over : goal.returns-clause-over
returns-clause-over c = over_not_legal
