use Rattle.std.proofs.Common.{◌∙◌, ap, ℕ, List}
use Rattle.std.specs.FinMap.{from_entries}
use Rattle.std.specs.Ordering.{nat_cmp}
use Rattle.gr_hash.specs.Shards.{under_of, with_zeros}
use Rattle.gr_hash.proofs.Held.{none_held}
use Rattle.gr_hash.proofs.set_shard.SetShard.new.Goals as goal

pub returns : goal.returns
returns c = ap (λ (keys : List ℕ). under_of (from_entries {R = nat_cmp} (with_zeros keys))) c.new.ensures.empty ∙ none_held
