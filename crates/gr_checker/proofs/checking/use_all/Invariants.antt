use Rattle.std.proofs.Common.{◌≡◌, drop}
use Rattle.gr_accept.specs.Accepted.{uses_sites}
use Rattle.gr_checker.specs.EarliestWords.{seen}
use Rattle.gr_checker.specs.MeaningView.{meaning_of}
use Rattle.gr_checker.proofs.checking.use_all.Given as goal

abbrev pub invariant-loop-item : goal.invariant-loop-item
invariant-loop-item l = seen (meaning_of l.meanings) l.found (uses_sites (drop l.item-index l.items)) ≡ seen (meaning_of l.meanings) l.initial.found (uses_sites l.items)
