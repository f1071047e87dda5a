use Rattle.std.proofs.Common.{ap, ◌∙◌}
use Rattle.gr_store.specs.StoreView.{shards_of}
use Rattle.gr_store.proofs.Openings.{none_first, none_more}
use Rattle.gr_store.proofs.opening.opening_shards.Goals as goal

pub shapes-init : goal.shapes-init
shapes-init c = ap shards_of c.new-shards.ensures.items ∙ none_first

pub shapes-preserved : goal.shapes-preserved
shapes-preserved c =
    ap shards_of c.in_ok-push.ensures.items ∙ none_more c.shapes.shards.items c.opening_shard.result c.shapes.invariant c.opening_shard.ensures
