-- What stands under the keys of objects, read and written in the list of their parts.
use Rattle.std.proofs.Common.{◌≡◌, ◌≢◌, ℕ, ◌<◌, ◌≤◌, List, length, get_or, set, ap, ◌∙◌, sym, slice_index_or, slice_set}
use Rattle.std.proofs.lemmas.List.{get_or-set_same, get_or-set_other, get_or_read, get_or_past}
use Rattle.gr_view.specs.Places.{put}
use Rattle.gr_view.proofs.Puts.{put_by}
use Rattle.gr_hash.specs.Shards.{nothing_held}
use Rattle.gr_store.specs.declared.shard.Shard.{Shard}
use Rattle.gr_store.specs.declared.shard.Shard.TheVariants.{Keyless}
use Rattle.gr_store.specs.StoreView.{shards_of, under}

pub shards_put : (shards : List Shard) (object : ℕ) (part : Shard) → object < length shards
    → shards_of (slice_set shards object part) ≡ put (shards_of shards) object (under part)
unfolding shards_of
shards_put shards object part inside =
    put_by (shards_of shards) (shards_of (set shards object part)) object (under part)
    (ap under (get_or-set_same shards object part Keyless inside))
    (λ other apart. ap under (get_or-set_other shards object other part Keyless apart))

pub shards_read : (shards : List Shard) (object : ℕ) (part : Shard) → object < length shards → part ≡ slice_index_or shards object part
    → shards_of shards object ≡ under part
unfolding shards_of
shards_read shards object part inside e = ap under (sym (get_or_read shards object part inside e Keyless))

pub shards_past : (shards : List Shard) (object : ℕ) → length shards ≤ object → shards_of shards object ≡ nothing_held
unfolding shards_of
shards_past shards object past = ap under (get_or_past shards object Keyless past)

pub ruleset at_shards = (shards_put, shards_read)
