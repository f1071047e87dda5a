use Rattle.std.proofs.Common.{refl}
use Rattle.gr_merge.proofs.laws.merge_rows.Goals as goal

pub returns-clause-two : goal.returns-clause-two
returns-clause-two c = refl

pub returns-clause-three : goal.returns-clause-three
returns-clause-three c = refl

pub returns-clause-last : goal.returns-clause-last
returns-clause-last c = refl

pub returns-clause-equal : goal.returns-clause-equal
returns-clause-equal c = refl
