use Rattle.gr_shares_rows.proofs.Acts.{actions_leave_work}
use Rattle.gr_shares_rows.proofs.Serves.{messages_leave_work, turn_ends_leave_work}
use Rattle.gr_shares_rows.proofs.Closes.{closes_leave_work}
use Rattle.gr_shares_rows.proofs.laws.rows_leave_work.Goals as goal

pub returns-clause-actions : goal.returns-clause-actions
returns-clause-actions c = actions_leave_work

pub returns-clause-messages : goal.returns-clause-messages
returns-clause-messages c = messages_leave_work

pub returns-clause-ends : goal.returns-clause-ends
returns-clause-ends c = turn_ends_leave_work

pub returns-clause-closes : goal.returns-clause-closes
returns-clause-closes c = closes_leave_work
