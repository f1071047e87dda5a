use Rattle.std.proofs.Common.{refl}
use Rattle.gr_merge.proofs.Totals.{clocked}
use Rattle.gr_view.specs.Places.{put}
use Rattle.gr_merge.proofs.laws.machine_rows.Goals as goal

pub returns-clause-first : goal.returns-clause-first
unfolding put
returns-clause-first c = refl

pub returns-clause-second : goal.returns-clause-second
unfolding put
returns-clause-second c = refl

pub returns-clause-merged : goal.returns-clause-merged
unfolding put
returns-clause-merged c = refl

pub returns-clause-ran : goal.returns-clause-ran
unfolding put
returns-clause-ran c = refl

pub returns-clause-marks : goal.returns-clause-marks
unfolding put
returns-clause-marks c = refl

pub returns-clause-clocked : goal.returns-clause-clocked
returns-clause-clocked c = clocked
