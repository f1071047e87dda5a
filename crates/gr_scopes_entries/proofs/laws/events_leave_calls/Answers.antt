use Rattle.gr_scopes_entries.proofs.Served.{messages_leave_calls, batch_replies_leave_none, turn_ends_leave_calls, closes_leave_calls}
use Rattle.gr_scopes_entries.proofs.laws.events_leave_calls.Goals as goal

pub returns-clause-messages : goal.returns-clause-messages
returns-clause-messages c = messages_leave_calls

pub returns-clause-replies : goal.returns-clause-replies
returns-clause-replies c = batch_replies_leave_none

pub returns-clause-ends : goal.returns-clause-ends
returns-clause-ends c = turn_ends_leave_calls

pub returns-clause-closes : goal.returns-clause-closes
returns-clause-closes c = closes_leave_calls
