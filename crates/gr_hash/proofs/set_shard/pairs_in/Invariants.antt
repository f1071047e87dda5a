use Rattle.std.proofs.Common.{◌≡◌, ◌++◌}
use Rattle.gr_hash.specs.Shards.{with_zeros}
use Rattle.gr_hash.proofs.set_shard.pairs_in.Given as goal

abbrev pub invariant-loop-key : goal.invariant-loop-key
invariant-loop-key l = l.pairs.items ++ with_zeros l.key-iterator ≡ with_zeros l.tree.keys
