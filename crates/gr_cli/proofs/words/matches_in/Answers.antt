use Rattle.std.proofs.Common.{◌∙◌, sym}
use Rattle.clap.specs.Words.{app_of}
use Rattle.gr_cli.proofs.Commands.{refused, taken}
use Rattle.gr_cli.proofs.words.matches_in.Goals as goal

pub returns-in-Ok-clause-found : goal.returns-in-Ok-clause-found
returns-in-Ok-clause-found c = taken (app_of c.in_ok-command.command) _ c.in-Ok.matches c.in_ok-command.ensures
    c.in-Ok.ensures.matches c.in-Ok.ensures.kinds

pub returns-in-Err-clause-usage : goal.returns-in-Err-clause-usage
returns-in-Err-clause-usage c = λ usage. refused (app_of c.in_ok-command.command) _ c.in-Err.fault c.in_ok-command.ensures
    c.in-Err.ensures.kinds (sym c.refusal-refusal.ensures ∙ usage)
