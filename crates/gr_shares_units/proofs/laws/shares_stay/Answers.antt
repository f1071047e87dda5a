use Rattle.gr_shares_units.proofs.Ranges.{others_share, passes_share}
use Rattle.gr_shares_units.proofs.Stay as stay
use Rattle.gr_shares_units.proofs.laws.shares_stay.Goals as goal

pub returns-clause-any : goal.returns-clause-any
returns-clause-any c = stay.shares_stay

pub returns-clause-others : goal.returns-clause-others
returns-clause-others c = others_share

pub returns-clause-passed : goal.returns-clause-passed
returns-clause-passed c = passes_share

pub returns-clause-singles : goal.returns-clause-singles
returns-clause-singles c = stay.singles_share
