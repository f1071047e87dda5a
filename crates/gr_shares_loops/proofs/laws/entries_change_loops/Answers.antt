use Rattle.gr_shares_loops.proofs.Others.{entries_leave_loops}
use Rattle.gr_shares_loops.proofs.Changed.{loops_are_waited_at, loops_are_opened, indices_are_begun, loops_are_passed}
use Rattle.gr_shares_loops.proofs.laws.entries_change_loops.Goals as goal

pub returns-clause-waited : goal.returns-clause-waited
returns-clause-waited c = loops_are_waited_at

pub returns-clause-others : goal.returns-clause-others
returns-clause-others c = entries_leave_loops

pub returns-clause-opened : goal.returns-clause-opened
returns-clause-opened c = loops_are_opened

pub returns-clause-begun : goal.returns-clause-begun
returns-clause-begun c = indices_are_begun

pub returns-clause-passed : goal.returns-clause-passed
returns-clause-passed c = loops_are_passed
