use Rattle.std.proofs.Common.{◌≡◌, [], map, length}
use Rattle.gr_merge.specs.MergeWords.{merge_before}
use Rattle.gr_merge.proofs.merging.merge.Given as goal

abbrev pub invariant-cores : goal.invariant-cores
invariant-cores g l =
    merge_before g.T.Clocked.clock_of 0 (map (λ list. list.items) l.lists.items) l.merged.items
    ≡ merge_before g.T.Clocked.clock_of 0 (map (λ list. list.items) l.fn.lists.items) []

abbrev pub decreases-cores : goal.decreases-cores
decreases-cores g l = length l.lists.items
