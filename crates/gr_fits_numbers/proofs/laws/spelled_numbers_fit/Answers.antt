use Rattle.gr_fits_numbers.proofs.Statements as statements
use Rattle.gr_fits_numbers.proofs.laws.spelled_numbers_fit.Goals as goal

pub returns : goal.returns
returns c = statements.spelled_fit
