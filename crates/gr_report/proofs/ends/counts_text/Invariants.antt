use Rattle.std.proofs.Common.{◌≡◌, ◌++◌, drop}
use Rattle.std.specs.Prelude.{string_bytes}
use Rattle.gr_report.specs.Ends as spec
use Rattle.gr_report.proofs.ends.counts_text.Given as goal

abbrev pub invariant-loop-end : goal.invariant-loop-end
invariant-loop-end l = string_bytes l.text ++ spec.counts_lines (drop l.end-index l.ends) ≡ spec.counts_lines l.ends
