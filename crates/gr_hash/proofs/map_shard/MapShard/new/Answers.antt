use Rattle.std.proofs.Common.{◌∙◌, ap, ℕ, List}
use Rattle.std.specs.FinMap.{from_entries}
use Rattle.std.specs.Ordering.{nat_cmp}
use Rattle.gr_hash.specs.Shards.{under_of}
use Rattle.gr_hash.proofs.Held.{none_held}
use Rattle.gr_hash.proofs.map_shard.MapShard.new.Goals as goal

pub returns : goal.returns
returns c = ap (λ (pairs : List (ℕ × ℕ)). under_of (from_entries {R = nat_cmp} pairs)) c.new.ensures.empty ∙ none_held
