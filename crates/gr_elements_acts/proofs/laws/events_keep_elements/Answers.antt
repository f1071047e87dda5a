use Rattle.gr_elements_acts.proofs.Events.{messages_keep, ends_keep}
use Rattle.gr_elements_acts.proofs.Ends.{turns_reply}
use Rattle.gr_elements_acts.proofs.laws.events_keep_elements.Goals as goal

pub returns-clause-messages : goal.returns-clause-messages
returns-clause-messages c = messages_keep

pub returns-clause-ends : goal.returns-clause-ends
returns-clause-ends c = ends_keep

pub returns-clause-replies : goal.returns-clause-replies
returns-clause-replies c = turns_reply
