use Rattle.std.proofs.Common.{◌∙◌, sym, ap}
use Rattle.std.specs.FinMap.{entries}
use Rattle.gr_hash.proofs.Held.{zeros_are}
use Rattle.gr_hash.proofs.set_shard.SetShard.sorted.Goals as goal

pub returns : goal.returns
returns c =
    c.in_ok-pairs.ensures.listed ∙ sym (zeros_are c.self.inside.tree.keys c.pairs_in.ensures.ordered)
    ∙ ap entries c.self.view_is
