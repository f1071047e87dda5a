use Rattle.gr_elements_steps.proofs.Steps.{runs_keep, serves_keep, settles_keep, gives_keep, close_keeps, asks_keep, moves_keep, opens}
use Rattle.gr_elements_steps.proofs.laws.pieces_keep_elements.Goals as goal

pub returns-clause-runs : goal.returns-clause-runs
returns-clause-runs c = runs_keep

pub returns-clause-serves : goal.returns-clause-serves
returns-clause-serves c = serves_keep

pub returns-clause-ends : goal.returns-clause-ends
returns-clause-ends c = settles_keep

pub returns-clause-gives : goal.returns-clause-gives
returns-clause-gives c = gives_keep

pub returns-clause-closes : goal.returns-clause-closes
returns-clause-closes c = close_keeps

pub returns-clause-asks : goal.returns-clause-asks
returns-clause-asks c = asks_keep

pub returns-clause-moves : goal.returns-clause-moves
returns-clause-moves c = moves_keep

pub returns-clause-opens : goal.returns-clause-opens
returns-clause-opens c = opens
