use Rattle.gr_lang.proofs.StepRows.{finish_complete, pass_not_legal, loop_complete, loop_not_passed}
use Rattle.gr_lang.proofs.step_rows.scope_rows.Goals as goal

pub returns-clause-finish : goal.returns-clause-finish
returns-clause-finish c = finish_complete

pub returns-clause-pass : goal.returns-clause-pass
returns-clause-pass c = pass_not_legal

pub returns-clause-looped : goal.returns-clause-looped
returns-clause-looped c = loop_complete

pub returns-clause-open : goal.returns-clause-open
returns-clause-open c = loop_not_passed
