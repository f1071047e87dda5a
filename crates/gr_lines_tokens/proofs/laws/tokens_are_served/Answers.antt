use Rattle.gr_lines_tokens.proofs.Served.{tokens_served}
use Rattle.gr_lines_tokens.proofs.laws.tokens_are_served.Goals as goal

pub returns : goal.returns
returns c = tokens_served
