use Rattle.std.proofs.Common.{◌≡◌, drop}
use Rattle.gr_report.specs.Texts as spec
use Rattle.gr_report.proofs.texts.first_trap.Given as goal

abbrev pub invariant-loop-entry : goal.invariant-loop-entry
invariant-loop-entry l = spec.first_trap (drop l.entry-index l.history) ≡ spec.first_trap l.history
