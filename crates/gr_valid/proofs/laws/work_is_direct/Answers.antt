use Rattle.gr_valid.proofs.Direct.{work_direct}
use Rattle.gr_valid.proofs.laws.work_is_direct.Goals as goal

pub returns : goal.returns
returns c = work_direct
