use Rattle.std.proofs.Common.{◌≡◌, ◌<◌, ℕ, [], Vec, slice_index_or, vec_len}
use Rattle.gr_mail.specs.BoxesView.{AreGrid}
use Rattle.gr_mail.proofs.boxes.grid.Given as goal

abbrev pub invariant-loop : goal.invariant-loop
invariant-loop l = (vec_len l.ins ≡ l.counter) × ((k : ℕ) (d : Vec _ _) → k < l.counter → (slice_index_or l.ins.items k d).items ≡ [])

abbrev pub invariant-loop-from : goal.invariant-loop-from
invariant-loop-from l = AreGrid l.from l.cores l.outs.items l.ins.items
