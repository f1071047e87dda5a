use Rattle.gr_lang.proofs.StepRows.{counter_complete, divided_trapped, forever_trapped}
use Rattle.gr_lang.proofs.step_rows.call_rows.Goals as goal

pub returns-clause-counter : goal.returns-clause-counter
returns-clause-counter c = counter_complete

pub returns-clause-divided : goal.returns-clause-divided
returns-clause-divided c = divided_trapped

pub returns-clause-forever : goal.returns-clause-forever
returns-clause-forever c = forever_trapped
