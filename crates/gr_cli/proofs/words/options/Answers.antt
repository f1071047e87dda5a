use Rattle.std.proofs.Common.{sym}
use Rattle.clap.specs.Words.{found_of, rows_of}
use Rattle.gr_cli.proofs.Limits.{values_are_within}
use Rattle.gr_cli.proofs.words.options.Goals as goal

pub returns-in-Some-clause-limits : goal.returns-in-Some-clause-limits
returns-in-Some-clause-limits c =
    values_are_within (rows_of (found_of c.in_ok-matches.matches)) c.in-Some.options (sym c.in-Some.ensures)
