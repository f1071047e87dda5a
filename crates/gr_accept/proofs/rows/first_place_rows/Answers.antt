use Rattle.gr_accept.proofs.AcceptedRows as rows
use Rattle.gr_accept.proofs.rows.first_place_rows.Goals as goal

pub returns-clause-use_first : goal.returns-clause-use_first
returns-clause-use_first c = rows.use_first-first

pub returns-clause-head_first : goal.returns-clause-head_first
returns-clause-head_first c = rows.head_first-first
