use Rattle.gr_shares_steps.proofs.Steps.{openings_have_work, scopes_name_on, work_is_told}
use Rattle.gr_shares_steps.proofs.laws.work_stands.Goals as goal

pub returns-clause-opens : goal.returns-clause-opens
returns-clause-opens c = openings_have_work

pub returns-clause-names : goal.returns-clause-names
returns-clause-names c = scopes_name_on

pub returns-clause-tells : goal.returns-clause-tells
returns-clause-tells c = work_is_told
