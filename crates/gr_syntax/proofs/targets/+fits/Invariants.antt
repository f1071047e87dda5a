use Rattle.std.proofs.Common.{◌≡◌, drop}
use Rattle.std.specs.List.{list_all}
use Rattle.gr_syntax.specs.Targets.{stmt_fits}
use Rattle.gr_syntax.proofs.targets.+fits.Given as goal

abbrev pub invariant-all_fit-loop-stmt : goal.invariant-all_fit-loop-stmt
invariant-all_fit-loop-stmt l = list_all stmt_fits (drop l.stmt-index l.block) ≡ list_all stmt_fits l.block
