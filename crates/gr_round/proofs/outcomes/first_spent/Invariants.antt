use Rattle.std.proofs.Common.{◌≡◌, ◌<◌, ℕ, slice_index_or}
use Rattle.std.specs.Prelude.{false}
use Rattle.gr_core.specs.declared.cores.Core.{Core}
use Rattle.gr_round.specs.Outcomes.{is_spent}
use Rattle.gr_round.proofs.outcomes.first_spent.Given as goal

abbrev pub invariant-loop-number : goal.invariant-loop-number
invariant-loop-number l = (k : ℕ) (d : Core) → k < l.number → is_spent (slice_index_or l.cores k d) ≡ false
