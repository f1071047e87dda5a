use Rattle.gr_text.proofs.Named.{named_token, token_named, fits_named}
use Rattle.gr_text.proofs.laws.names_are_names.Goals as goal

pub returns-clause-named : goal.returns-clause-named
returns-clause-named c = named_token

pub returns-clause-token : goal.returns-clause-token
returns-clause-token c = token_named

pub returns-clause-fits : goal.returns-clause-fits
returns-clause-fits c = fits_named
