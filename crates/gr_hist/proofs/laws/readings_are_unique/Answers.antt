use Rattle.gr_hist.proofs.Readings.{reads_once}
use Rattle.gr_hist.proofs.laws.readings_are_unique.Goals as goal

pub returns : goal.returns
returns c = reads_once
