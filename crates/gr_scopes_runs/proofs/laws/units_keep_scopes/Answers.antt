use Rattle.gr_scopes_runs.proofs.Units.{singles_lead, splits_lead, indices_lead}
use Rattle.gr_scopes_runs.proofs.laws.units_keep_scopes.Goals as goal

pub returns-clause-singles : goal.returns-clause-singles
returns-clause-singles c = singles_lead

pub returns-clause-splits : goal.returns-clause-splits
returns-clause-splits c = splits_lead

pub returns-clause-indices : goal.returns-clause-indices
returns-clause-indices c = indices_lead
