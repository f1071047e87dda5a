use Rattle.gr_work.proofs.Covers.{parts_cover, kept_small}
use Rattle.gr_work.proofs.laws.parts_cover_their_range.Goals as goal

pub returns-clause-cover : goal.returns-clause-cover
returns-clause-cover c = parts_cover

pub returns-clause-small : goal.returns-clause-small
returns-clause-small c = kept_small
