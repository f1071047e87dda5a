use Rattle.gr_lines_apart.proofs.Turns.{messages_leave, nothing_leaves, ends_leave}
use Rattle.gr_lines_apart.proofs.laws.messages_leave_turns.Goals as goal

pub returns-clause-messages : goal.returns-clause-messages
returns-clause-messages c = messages_leave

pub returns-clause-ends : goal.returns-clause-ends
returns-clause-ends c = ends_leave

pub returns-clause-nothing : goal.returns-clause-nothing
returns-clause-nothing c = nothing_leaves
