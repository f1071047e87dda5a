use Rattle.std.proofs.Common.{◌≡◌, ◌++◌, drop}
use Rattle.std.specs.Prelude.{string_bytes}
use Rattle.gr_report.specs.Texts as spec
use Rattle.gr_report.proofs.texts.prints.Given as goal

abbrev pub invariant-loop-entry : goal.invariant-loop-entry
invariant-loop-entry l = string_bytes l.text ++ spec.prints (drop l.entry-index l.history) ≡ spec.prints l.history
