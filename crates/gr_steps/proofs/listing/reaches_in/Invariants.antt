use Rattle.std.proofs.Common.{◌≡◌, ◌++◌, drop}
use Rattle.gr_steps.specs.TableView.{reaches_of}
use Rattle.gr_steps.proofs.listing.reaches_in.Given as goal

abbrev pub invariant-loop-item : goal.invariant-loop-item
invariant-loop-item l = l.reaches.items ++ reaches_of (drop l.item-index l.items) ≡ reaches_of l.items
