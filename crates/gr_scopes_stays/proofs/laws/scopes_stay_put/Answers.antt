use Rattle.gr_scopes_stays.proofs.Stays.{scopes_stay_put}
use Rattle.gr_scopes_stays.proofs.laws.scopes_stay_put.Goals as goal

pub returns : goal.returns
returns c = scopes_stay_put
