use Rattle.gr_scopes_units.proofs.Split.{chunks_split}
use Rattle.gr_scopes_units.proofs.Begun.{singles_keep_scopes, indices_keep_scopes}
use Rattle.gr_scopes_units.proofs.laws.units_are_taken_up.Goals as goal

pub returns-clause-splits : goal.returns-clause-splits
returns-clause-splits c = chunks_split

pub returns-clause-singles : goal.returns-clause-singles
returns-clause-singles c = singles_keep_scopes

pub returns-clause-indices : goal.returns-clause-indices
returns-clause-indices c = indices_keep_scopes
