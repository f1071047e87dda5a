use Rattle.std.proofs.Common.{◌≡◌, ◌<◌, ℕ, length}
use Rattle.gr_view.specs.Places.{at_place}
use Rattle.gr_mail.specs.Rings.{known_from}
use Rattle.gr_core.proofs.cores.count_known.Given as goal

abbrev pub invariant-loop-core : goal.invariant-loop-core
invariant-loop-core l = record {
  len : length l.left.items ≡ length l.fn.left.items;
  known : (k : ℕ) → k < l.core → at_place 0 l.left.items k ≡ length (known_from l.mail k);
}
