use Rattle.std.proofs.Common.{◌∙◌, sym, ap}
use Rattle.gr_hash.specs.Shards.{under_of}
use Rattle.gr_hash.proofs.Held.{under_pairs}
use Rattle.gr_hash.proofs.map_shard.MapShard.get.Goals as goal

pub returns : goal.returns
returns c =
    c.copied.ensures ∙ c.get.ensures.value ∙ sym (under_pairs c.self.inside.tree.entries c.args.key)
    ∙ ap (λ shard. under_of shard c.args.key) c.self.view_is
