use Rattle.std.proofs.Common.{◌≡◌, drop, []}
use Rattle.gr_batch.specs.GroupWords.{closed_after}
use Rattle.gr_batch.proofs.group.grouped.Given as goal

abbrev pub invariant-loop-one : goal.invariant-loop-one
invariant-loop-one g l = closed_after l.groups.entries l.rest.items (drop l.one-index l.held) ≡ closed_after [] [] l.held
