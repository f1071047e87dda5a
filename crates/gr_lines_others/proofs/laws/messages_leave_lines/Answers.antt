use Rattle.gr_lines_others.proofs.Messages.{messages_leave}
use Rattle.gr_lines_others.proofs.laws.messages_leave_lines.Goals as goal

pub returns : goal.returns
returns c = messages_leave
