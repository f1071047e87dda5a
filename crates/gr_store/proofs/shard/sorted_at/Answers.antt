use Rattle.std.proofs.Common.{arith}
use Rattle.gr_store.proofs.Listed.{past_listed}
use Rattle.gr_store.proofs.shard.sorted_at.Goals as goal

pub returns-then-object-shards : goal.returns-then-object-shards
returns-then-object-shards c = past_listed c.new.result c.args.shards.now c.args.object (omega arith) c.new.ensures
