use Rattle.gr_lines_calls.proofs.Serves.{messages_keep, turns_keep}
use Rattle.gr_lines_calls.proofs.laws.messages_keep_lines.Goals as goal

pub returns-clause-messages : goal.returns-clause-messages
returns-clause-messages c = messages_keep

pub returns-clause-ends : goal.returns-clause-ends
returns-clause-ends c = turns_keep
