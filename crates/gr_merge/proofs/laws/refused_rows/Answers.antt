use Rattle.std.proofs.Common.{refl}
use Rattle.gr_view.specs.Places.{put}
use Rattle.gr_merge.proofs.laws.refused_rows.Goals as goal

pub returns-clause-not_told : goal.returns-clause-not_told
unfolding put
returns-clause-not_told c = refl

pub returns-clause-other_clock : goal.returns-clause-other_clock
unfolding put
returns-clause-other_clock c = refl

pub returns-clause-not_received : goal.returns-clause-not_received
unfolding put
returns-clause-not_received c = refl

pub returns-clause-not_in_transit : goal.returns-clause-not_in_transit
unfolding put
returns-clause-not_in_transit c = refl
