-- Cores that have gone on side by side.
use Rattle.std.specs.Prelude.{◌≡◌, ◌<◌, ℕ, List, length, slice_index_or}
use Rattle.gr_core.specs.declared.cores.Core.{Core}
use Rattle.gr_core.specs.Cores.{run_of}
use Rattle.gr_slice.specs.Slices.{Sliced, WentOn}

-- Each core has made a slice of so many events.
pub record AllSliced (count : ℕ) (before after : List Core) : Type 0 where
  pub len : length after ≡ length before
  pub each : (core : ℕ) (default : Core) → core < length before → Sliced count (slice_index_or before core default) (slice_index_or after core default)

-- Each core has gone on by some entries of its journal.
pub record AllWentOn (before after : List Core) : Type 0 where
  pub len : length after ≡ length before
  pub each : (core : ℕ) (default : Core) → core < length before → WentOn (run_of (slice_index_or before core default)) (run_of (slice_index_or after core default))
