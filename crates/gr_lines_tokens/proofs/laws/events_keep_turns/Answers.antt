use Rattle.gr_lines_tokens.proofs.Served.{messages_keep, closes_keep, ends_keep}
use Rattle.gr_lines_tokens.proofs.laws.events_keep_turns.Goals as goal

pub returns-clause-messages : goal.returns-clause-messages
returns-clause-messages c = messages_keep

pub returns-clause-closes : goal.returns-clause-closes
returns-clause-closes c = closes_keep

pub returns-clause-ends : goal.returns-clause-ends
returns-clause-ends c = ends_keep
