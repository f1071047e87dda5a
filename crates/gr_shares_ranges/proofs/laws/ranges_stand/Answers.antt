use Rattle.gr_shares_ranges.proofs.Ranges.{openings_have_ranges, steps_keep_ranges, entries_keep_ranges}
use Rattle.gr_shares_ranges.proofs.laws.ranges_stand.Goals as goal

pub returns-clause-opens : goal.returns-clause-opens
returns-clause-opens c = openings_have_ranges

pub returns-clause-steps : goal.returns-clause-steps
returns-clause-steps c = steps_keep_ranges

pub returns-clause-entries : goal.returns-clause-entries
returns-clause-entries c = entries_keep_ranges
