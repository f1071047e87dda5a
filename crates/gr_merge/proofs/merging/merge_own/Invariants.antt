use Rattle.std.proofs.Common.{◌≡◌, ◌+◌, ◌++◌, length}
use Rattle.gr_merge.specs.MergeWords.{merge_own}
use Rattle.gr_merge.proofs.merging.merge_own.Given as goal

abbrev pub invariant-taking : goal.invariant-taking
invariant-taking g l =
    l.merged.items ++ merge_own g.T.Clocked.clock_of l.core l.list.items l.others.items ≡ merge_own g.T.Clocked.clock_of l.core l.fn.list.items l.fn.others.items

abbrev pub decreases-taking : goal.decreases-taking
decreases-taking g l = length l.list.items + length l.others.items
