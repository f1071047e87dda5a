use Rattle.std.proofs.Common.{◌∙◌, ap, None}
use Rattle.gr_view.specs.Places.{put}
use Rattle.gr_hash.specs.Shards.{under_of}
use Rattle.gr_hash.proofs.Held.{pairs_changed}
use Rattle.gr_hash.proofs.map_shard.MapShard.remove.Goals as goal

pub returns : goal.returns
returns c =
    pairs_changed c.self.inside.tree.entries c.remove.new.self.entries c.args.key None c.remove.ensures.updates.0
    ∙ ap (λ shard. put (under_of shard) c.args.key None) c.self.view_is
