use Rattle.std.proofs.Common.{◌≡◌, drop}
use Rattle.gr_agg.proofs.buffer.Buffer.drop_front.Given as goal

abbrev pub invariant-oldest : goal.invariant-oldest
invariant-oldest l = l.self ≡ drop l.counter l.fn.self
