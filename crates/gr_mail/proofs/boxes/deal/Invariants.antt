use Rattle.std.proofs.Common.{◌≡◌, ◌≤◌, take, length, vec_len}
use Rattle.gr_mail.specs.BoxesView.{AreDealt}
use Rattle.gr_mail.proofs.boxes.deal.Given as goal

abbrev pub invariant-loop-end : goal.invariant-loop-end
invariant-loop-end l = record {
  ends : l.ends.items ≡ take (vec_len l.ends) l.fn.ends.items;
  fewer : vec_len l.ends ≤ vec_len l.fn.ends;
  dealt : AreDealt (vec_len l.ends) (length l.fn.ends.items) l.fn.all.items l.fn.ends.items l.all.items;
}

abbrev pub decreases-loop-end : goal.decreases-loop-end
decreases-loop-end l = vec_len l.ends
