use Rattle.std.proofs.Common.{◌≤◌, ◌+◌, length}
use Rattle.gr_hist.specs.Grammar.{Lines, ReadsLines}
use Rattle.gr_hist.proofs.Readings.{after}
use Rattle.gr_hist.proofs.reading.entries.Given as goal

abbrev pub invariant-each : goal.invariant-each
invariant-each l = record {
  place : l.line + length l.rest ≤ length l.fn.text + 2;
  reads : (lines : Lines) → ReadsLines l.line l.rest lines → ReadsLines 2 l.fn.text (after l.entries lines);
}

abbrev pub decreases-each : goal.decreases-each
decreases-each l = length l.rest
