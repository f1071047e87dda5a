use Rattle.gr_lines_steps.proofs.Turns.{runs_keep, serves_keep, settles_keep, gives_keep, close_keeps, asks_keep}
use Rattle.gr_lines_steps.proofs.laws.pieces_keep_turns.Goals as goal

pub returns-clause-runs : goal.returns-clause-runs
returns-clause-runs c = runs_keep

pub returns-clause-serves : goal.returns-clause-serves
returns-clause-serves c = serves_keep

pub returns-clause-ends : goal.returns-clause-ends
returns-clause-ends c = settles_keep

pub returns-clause-gifts : goal.returns-clause-gifts
returns-clause-gifts c = gives_keep

pub returns-clause-closes : goal.returns-clause-closes
returns-clause-closes c = close_keeps

pub returns-clause-questions : goal.returns-clause-questions
returns-clause-questions c = asks_keep
