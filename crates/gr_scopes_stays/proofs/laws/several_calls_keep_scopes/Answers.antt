use Rattle.gr_scopes_stays.proofs.Several.{batch_replies_keep_scopes, closes_keep_scopes, turn_ends_keep_scopes}
use Rattle.gr_scopes_stays.proofs.laws.several_calls_keep_scopes.Goals as goal

pub returns-clause-replies : goal.returns-clause-replies
returns-clause-replies c = batch_replies_keep_scopes

pub returns-clause-closes : goal.returns-clause-closes
returns-clause-closes c = closes_keep_scopes

pub returns-clause-turns : goal.returns-clause-turns
returns-clause-turns c = turn_ends_keep_scopes
