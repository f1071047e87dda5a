use Rattle.gr_scopes_serves.proofs.Acks.{enrolments_lead}
use Rattle.gr_scopes_serves.proofs.Leaves.{leaves_lead}
use Rattle.gr_scopes_serves.proofs.Messages.{messages_lead}
use Rattle.gr_scopes_serves.proofs.laws.messages_keep_scopes.Goals as goal

pub returns-clause-enrolments : goal.returns-clause-enrolments
returns-clause-enrolments c = enrolments_lead

pub returns-clause-leaves : goal.returns-clause-leaves
returns-clause-leaves c = leaves_lead

pub returns-clause-messages : goal.returns-clause-messages
returns-clause-messages c = messages_lead
