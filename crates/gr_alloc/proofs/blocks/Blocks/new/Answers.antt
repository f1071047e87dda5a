use Rattle.std.proofs.Common.{length}
use Rattle.gr_alloc.proofs.LiveMap.{live_empty}
use Rattle.gr_alloc.proofs.blocks.Blocks.new.Goals as goal

pub returns : goal.returns
returns c =
    let pieces = c.in_ok-cuts in
    let none = live_empty c.args.start pieces.cuts pieces.holes (length pieces.cuts) pieces.ensures.free in
    λ i. record { heap = record { from = c.args.start; count = pieces.ensures.len i }; live = none i }
