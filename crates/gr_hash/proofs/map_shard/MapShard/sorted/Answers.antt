use Rattle.std.proofs.Common.{◌∙◌, sym, ap}
use Rattle.std.specs.FinMap.{entries}
use Rattle.gr_hash.proofs.Held.{entries_are}
use Rattle.gr_hash.proofs.map_shard.MapShard.sorted.Goals as goal

pub returns : goal.returns
returns c =
    c.in_ok-pairs.ensures.listed ∙ sym (entries_are c.self.inside.tree.entries c.pairs_in.ensures.ordered)
    ∙ ap entries c.self.view_is
