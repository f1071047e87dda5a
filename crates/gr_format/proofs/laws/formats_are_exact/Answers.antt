use Rattle.gr_format.proofs.Exact.{spelled_is_read, read_is_spelled, spells_one, spellings_are_apart}
use Rattle.gr_format.proofs.laws.formats_are_exact.Goals as goal

pub returns-clause-reads : goal.returns-clause-reads
returns-clause-reads g c = spelled_is_read

pub returns-clause-only : goal.returns-clause-only
returns-clause-only g c = read_is_spelled

pub returns-clause-one : goal.returns-clause-one
returns-clause-one g c = spells_one

pub returns-clause-apart : goal.returns-clause-apart
returns-clause-apart g c = spellings_are_apart
