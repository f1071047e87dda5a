use Rattle.gr_mail.proofs.Grids.{row_grows}
use Rattle.gr_mail.proofs.boxes.row.Goals as goal

pub loop-to-preserved : goal.loop-to-preserved
loop-to-preserved c = rw (c.in_ok-push.ensures.items, c.in_ok-push-2.ensures.items) (row_grows _ _ _ _ _ _ c.loop-to.invariant c.in_ok-producer.ensures)
