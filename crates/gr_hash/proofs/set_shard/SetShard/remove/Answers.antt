use Rattle.std.proofs.Common.{◌∙◌, ap, None, false}
use Rattle.gr_view.specs.Places.{put}
use Rattle.gr_hash.specs.Shards.{under_of}
use Rattle.gr_hash.proofs.Held.{keys_changed}
use Rattle.gr_hash.proofs.set_shard.SetShard.remove.Goals as goal

pub returns : goal.returns
returns c =
    keys_changed c.self.inside.tree.keys c.remove.new.self.keys c.args.key false c.remove.ensures.updates.0
    ∙ ap (λ shard. put (under_of shard) c.args.key None) c.self.view_is
