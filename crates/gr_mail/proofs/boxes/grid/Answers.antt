use Rattle.gr_mail.proofs.Grids.{grid_grows}
use Rattle.gr_mail.proofs.boxes.grid.Goals as goal

pub loop-from-preserved : goal.loop-from-preserved
loop-from-preserved c =
    let r = c.in_ok-ours.ensures in
    rw c.in_ok-push-2.ensures.items (grid_grows _ _ _ _ _ _ _ c.loop-from.invariant r (rw r.ins_len at c.in_ok-deal.ensures))
