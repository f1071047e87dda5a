use Rattle.std.proofs.Common.{◌∙◌, ap, Some}
use Rattle.gr_view.specs.Places.{put}
use Rattle.gr_hash.specs.Shards.{under_of}
use Rattle.gr_hash.proofs.Held.{pairs_changed}
use Rattle.gr_hash.proofs.map_shard.MapShard.insert.Goals as goal

pub returns-clause-ok : goal.returns-clause-ok
returns-clause-ok c =
    pairs_changed c.self.inside.tree.entries c.insert.new.self.entries c.args.key (Some c.args.word) c.in_ok-insert.ensures.updates.0
    ∙ ap (λ shard. put (under_of shard) c.args.key (Some c.args.word)) c.self.view_is
