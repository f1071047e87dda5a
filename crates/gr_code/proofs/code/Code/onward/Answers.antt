use Rattle.gr_code.proofs.Agree.{none_onward}
use Rattle.gr_code.proofs.code.Code.onward.Goals as goal

pub returns-in-None : goal.returns-in-None
returns-in-None c = none_onward _ _ _ c.in-None.ensures c.to.ensures
