use Rattle.std.proofs.Common.{refl}
use Rattle.gr_code.proofs.Worked.{difference, zero_divides}
use Rattle.gr_code.proofs.rows.term_rows.Goals as goal

pub returns-clause-second : goal.returns-clause-second
returns-clause-second c = refl

pub returns-clause-none : goal.returns-clause-none
returns-clause-none c = refl

pub returns-clause-left : goal.returns-clause-left
returns-clause-left c = refl

pub returns-clause-difference : goal.returns-clause-difference
returns-clause-difference c = difference

pub returns-clause-zero : goal.returns-clause-zero
returns-clause-zero c = zero_divides
