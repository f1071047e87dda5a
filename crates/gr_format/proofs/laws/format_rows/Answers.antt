use Rattle.std.proofs.Common.{refl}
use Rattle.gr_format.specs.Formats.{begins, reading, opened, ranged, ◌>>=◌, times}
use Rattle.gr_format.proofs.laws.format_rows.Goals as goal

pub returns-clause-read : goal.returns-clause-read
unfolding begins reading opened ranged ◌>>=◌ times
returns-clause-read c = refl

pub returns-clause-faults : goal.returns-clause-faults
unfolding begins reading opened ranged ◌>>=◌ times
returns-clause-faults c = (refl, refl, refl, refl, refl)
