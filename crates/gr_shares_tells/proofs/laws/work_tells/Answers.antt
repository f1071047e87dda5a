use Rattle.gr_shares_tells.proofs.Units.{work_tells_steps}
use Rattle.gr_shares_tells.proofs.Counted.{work_tells_scopes}
use Rattle.gr_shares_tells.proofs.laws.work_tells.Goals as goal

pub returns-clause-steps : goal.returns-clause-steps
returns-clause-steps c = work_tells_steps

pub returns-clause-scopes : goal.returns-clause-scopes
returns-clause-scopes c = work_tells_scopes
