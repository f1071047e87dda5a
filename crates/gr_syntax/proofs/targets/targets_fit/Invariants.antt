use Rattle.std.proofs.Common.{◌≡◌, drop}
use Rattle.std.specs.List.{list_all}
use Rattle.gr_syntax.specs.Targets.{item_fits}
use Rattle.gr_syntax.proofs.targets.targets_fit.Given as goal

abbrev pub invariant-loop-item : goal.invariant-loop-item
invariant-loop-item l = list_all item_fits (drop l.item-index l.program.items) ≡ list_all item_fits l.program.items
