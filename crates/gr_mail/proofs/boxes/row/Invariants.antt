use Rattle.gr_mail.specs.BoxesView.{AreRow}
use Rattle.gr_mail.proofs.boxes.row.Given as goal

abbrev pub invariant-loop-to : goal.invariant-loop-to
invariant-loop-to l = AreRow l.from l.to l.outs.items l.ins.items
