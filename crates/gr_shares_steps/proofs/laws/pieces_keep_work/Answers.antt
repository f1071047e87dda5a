use Rattle.gr_shares_steps.proofs.Steps.{run_pieces_keep_work, serve_pieces_keep_work, end_pieces_keep_work, gift_pieces_keep_work, close_pieces_keep_work, steal_pieces_keep_work, move_pieces_keep_work}
use Rattle.gr_shares_steps.proofs.laws.pieces_keep_work.Goals as goal

pub returns-clause-runs : goal.returns-clause-runs
returns-clause-runs c = run_pieces_keep_work

pub returns-clause-serves : goal.returns-clause-serves
returns-clause-serves c = serve_pieces_keep_work

pub returns-clause-ends : goal.returns-clause-ends
returns-clause-ends c = end_pieces_keep_work

pub returns-clause-gives : goal.returns-clause-gives
returns-clause-gives c = gift_pieces_keep_work

pub returns-clause-closes : goal.returns-clause-closes
returns-clause-closes c = close_pieces_keep_work

pub returns-clause-steals : goal.returns-clause-steals
returns-clause-steals c = steal_pieces_keep_work

pub returns-clause-moves : goal.returns-clause-moves
returns-clause-moves c = move_pieces_keep_work
