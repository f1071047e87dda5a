use Rattle.std.proofs.Common.{◌≡◌, ◌<◌, ℕ, slice_index_or}
use Rattle.std.specs.Prelude.{false}
use Rattle.gr_core.specs.declared.cores.Core.{Core}
use Rattle.gr_round.specs.Outcomes.{is_trapped}
use Rattle.gr_round.proofs.outcomes.any_trapped.Given as goal

abbrev pub invariant-loop-core : goal.invariant-loop-core
invariant-loop-core l = (k : ℕ) (d : Core) → k < l.core-index → is_trapped (slice_index_or l.cores k d) ≡ false
