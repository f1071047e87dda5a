use Rattle.std.proofs.Common.{◌∙◌, sym, ap}
use Rattle.gr_hash.specs.Shards.{under_of, zero_if}
use Rattle.gr_hash.proofs.Held.{under_keys}
use Rattle.gr_hash.proofs.set_shard.SetShard.get.Goals as goal

pub returns : goal.returns
returns c =
    c.zero_if.ensures ∙ ap zero_if c.contains.ensures ∙ sym (under_keys c.self.inside.tree.keys c.args.key)
    ∙ ap (λ shard. under_of shard c.args.key) c.self.view_is
