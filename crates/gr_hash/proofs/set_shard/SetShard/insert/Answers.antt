use Rattle.std.proofs.Common.{◌∙◌, ap, Some, true}
use Rattle.gr_view.specs.Places.{put}
use Rattle.gr_hash.specs.Shards.{under_of}
use Rattle.gr_hash.proofs.Held.{keys_changed}
use Rattle.gr_hash.proofs.set_shard.SetShard.insert.Goals as goal

pub returns-clause-ok : goal.returns-clause-ok
returns-clause-ok c =
    keys_changed c.self.inside.tree.keys c.insert.new.self.keys c.args.key true c.in_ok-insert.ensures.updates.0
    ∙ ap (λ shard. put (under_of shard) c.args.key (Some 0)) c.self.view_is
