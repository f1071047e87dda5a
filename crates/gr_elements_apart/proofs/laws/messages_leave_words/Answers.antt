use Rattle.gr_elements_apart.proofs.Turns.{messages_leave, ends_leave, nothing_leaves}
use Rattle.gr_elements_apart.proofs.laws.messages_leave_words.Goals as goal

pub returns-clause-messages : goal.returns-clause-messages
returns-clause-messages c = messages_leave

pub returns-clause-ends : goal.returns-clause-ends
returns-clause-ends c = ends_leave

pub returns-clause-nothing : goal.returns-clause-nothing
returns-clause-nothing c = nothing_leaves
