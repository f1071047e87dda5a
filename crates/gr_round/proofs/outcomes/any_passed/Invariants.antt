use Rattle.std.proofs.Common.{◌≡◌, ◌<◌, ℕ, slice_index_or}
use Rattle.std.specs.Prelude.{false}
use Rattle.gr_core.specs.declared.cores.Core.{Core}
use Rattle.gr_round.specs.Outcomes.{has_passed}
use Rattle.gr_round.proofs.outcomes.any_passed.Given as goal

abbrev pub invariant-loop-core : goal.invariant-loop-core
invariant-loop-core l = (k : ℕ) (d : Core) → k < l.core-index → has_passed (slice_index_or l.cores k d) ≡ false
