use Rattle.gr_scopes_steps.proofs.Pieces.{run_pieces_keep_scopes, serve_pieces_keep_scopes, end_pieces_keep_scopes, gift_pieces_keep_scopes, close_pieces_keep_scopes, steal_pieces_keep_scopes, move_pieces_keep_scopes}
use Rattle.gr_scopes_steps.proofs.laws.pieces_keep_scopes.Goals as goal

pub returns-clause-runs : goal.returns-clause-runs
returns-clause-runs c = run_pieces_keep_scopes

pub returns-clause-serves : goal.returns-clause-serves
returns-clause-serves c = serve_pieces_keep_scopes

pub returns-clause-ends : goal.returns-clause-ends
returns-clause-ends c = end_pieces_keep_scopes

pub returns-clause-gifts : goal.returns-clause-gifts
returns-clause-gifts c = gift_pieces_keep_scopes

pub returns-clause-closes : goal.returns-clause-closes
returns-clause-closes c = close_pieces_keep_scopes

pub returns-clause-steals : goal.returns-clause-steals
returns-clause-steals c = steal_pieces_keep_scopes

pub returns-clause-moves : goal.returns-clause-moves
returns-clause-moves c = move_pieces_keep_scopes
