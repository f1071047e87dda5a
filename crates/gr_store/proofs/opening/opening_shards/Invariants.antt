use Rattle.std.proofs.Common.{◌≡◌}
use Rattle.gr_store.specs.StoreView.{nothing_under, shards_of}
use Rattle.gr_store.proofs.opening.opening_shards.Given as goal

abbrev pub invariant-shapes : goal.invariant-shapes
invariant-shapes l = shards_of l.shards.items ≡ nothing_under
