use Rattle.gr_alloc.proofs.Changed.{gone_in_three}
use Rattle.gr_alloc.proofs.holes.clear.Goals as goal

pub returns-clause-live : goal.returns-clause-live
returns-clause-live c =
    gone_in_three c.args.cuts.now c.args.holes.now c.grow_behind.new.cuts c.grow_behind.new.holes c.grow_before-start.new.cuts c.grow_before-start.new.holes c.grow_before-start.new.cuts c.open_hole.new.holes c.args.at c.grow_before-start.result
    c.grow_behind.ensures.live c.grow_before-start.ensures.gone c.grow_before-start.ensures.hole c.grow_before-start.ensures.live c.open_hole.ensures.live
