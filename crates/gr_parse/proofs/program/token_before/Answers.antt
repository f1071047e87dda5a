use Rattle.gr_parse.proofs.Reported.{stands}
use Rattle.gr_parse.proofs.program.token_before.Goals as goal

-- src/program.rt:35:1
pub returns-clause-stands : goal.returns-clause-stands
returns-clause-stands c = stands c.args.tokens.now c.args.left _ c.requires
