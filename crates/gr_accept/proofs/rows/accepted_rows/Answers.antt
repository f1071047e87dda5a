use Rattle.gr_accept.proofs.AcceptedRows as rows
use Rattle.gr_accept.proofs.rows.accepted_rows.Goals as goal

pub returns-clause-prints : goal.returns-clause-prints
returns-clause-prints c = rows.prints-accepted

pub returns-clause-uses_all_kinds : goal.returns-clause-uses_all_kinds
returns-clause-uses_all_kinds c = rows.uses_all_kinds-accepted
