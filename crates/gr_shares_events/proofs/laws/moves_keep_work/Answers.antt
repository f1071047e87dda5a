use Rattle.gr_shares_events.proofs.Common.{openings_hold_work, moves_keep_work, scopes_tell_names}
use Rattle.gr_shares_events.proofs.laws.moves_keep_work.Goals as goal

pub returns-clause-opens : goal.returns-clause-opens
returns-clause-opens c = openings_hold_work

pub returns-clause-moves : goal.returns-clause-moves
returns-clause-moves c = moves_keep_work

pub returns-clause-names : goal.returns-clause-names
returns-clause-names c = scopes_tell_names
