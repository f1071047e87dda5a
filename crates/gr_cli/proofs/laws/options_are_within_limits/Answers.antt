use Rattle.gr_cli.proofs.Limits.{options_are_within}
use Rattle.gr_cli.proofs.laws.options_are_within_limits.Goals as goal

pub returns : goal.returns
returns c = options_are_within
