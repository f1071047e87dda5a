use Rattle.gr_shares_rows.proofs.Entries.{marks_leave_loops, empty_loops_leave_loops}
use Rattle.gr_shares_rows.proofs.laws.marks_leave_loops.Goals as goal

pub returns-clause-any : goal.returns-clause-any
returns-clause-any c = marks_leave_loops

pub returns-clause-empty : goal.returns-clause-empty
returns-clause-empty c = empty_loops_leave_loops
