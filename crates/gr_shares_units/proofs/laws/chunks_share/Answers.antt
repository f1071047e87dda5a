use Rattle.gr_shares_units.proofs.Chunks.{splits_share, indices_share}
use Rattle.gr_shares_units.proofs.Opened.{loops_share}
use Rattle.gr_shares_units.proofs.laws.chunks_share.Goals as goal

pub returns-clause-opened : goal.returns-clause-opened
returns-clause-opened c = loops_share

pub returns-clause-split : goal.returns-clause-split
returns-clause-split c = splits_share

pub returns-clause-begun : goal.returns-clause-begun
returns-clause-begun c = indices_share
