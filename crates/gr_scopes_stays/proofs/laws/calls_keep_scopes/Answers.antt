use Rattle.gr_scopes_stays.proofs.Made.{calls_keep_scopes}
use Rattle.gr_scopes_stays.proofs.Messages.{messages_keep_scopes}
use Rattle.gr_scopes_stays.proofs.laws.calls_keep_scopes.Goals as goal

pub returns-clause-run : goal.returns-clause-run
returns-clause-run c = calls_keep_scopes

pub returns-clause-served : goal.returns-clause-served
returns-clause-served c = messages_keep_scopes
