-- What a meeting of two cores makes of all, and what has been done of the meetings of all.
use Rattle.std.specs.Prelude.{◌≡◌, ◌≢◌, ◌<◌, ◌⊎◌, ℕ, List, length, slice_index_or}
use Rattle.gr_mail.specs.Rings.{HaveMet, LookedAt, owner}
use Rattle.gr_core.specs.declared.cores.Core.{Core}
use Rattle.gr_core.specs.Cores.{mail_of, run_of}
use Rattle.gr_world.specs.Worlds.{HaveStayed}

-- Two cores have met, and the others are as they were.
pub record TwoHaveMet (one other : ℕ) (before after : List Core) : Type 0 where
  pub len : length after ≡ length before
  pub others : (core : ℕ) (default : Core) → core ≢ one → core ≢ other → slice_index_or after core default ≡ slice_index_or before core default
  pub one_run : (default : Core) → run_of (slice_index_or after one default) ≡ run_of (slice_index_or before one default)
  pub other_run : (default : Core) → run_of (slice_index_or after other default) ≡ run_of (slice_index_or before other default)
  pub one_looked : (default : Core) → LookedAt (owner (mail_of (slice_index_or before other default)))
      (mail_of (slice_index_or before one default)) (mail_of (slice_index_or after one default))
  pub other_looked : (default : Core) → LookedAt (owner (mail_of (slice_index_or before one default)))
      (mail_of (slice_index_or before other default)) (mail_of (slice_index_or after other default))
  pub there : (default : Core) → HaveMet (mail_of (slice_index_or after one default)) (mail_of (slice_index_or after other default))
  pub back : (default : Core) → HaveMet (mail_of (slice_index_or after other default)) (mail_of (slice_index_or after one default))

-- Of two cores of which the first has the lower number, those have met that come before this pair: first by the second number.
abbrev pub ComesBefore : ℕ → ℕ → ℕ → ℕ → Type 0
ComesBefore one other first second = (second < other) ⊎ ((second ≡ other) × (first < one))

-- All pairs before this one have met.
pub record HaveMetBefore (one other : ℕ) (before after : List Core) : Type 0 where
  pub stayed : HaveStayed before after
  pub met : (first second : ℕ) (default : Core) → first < second → second < length before → ComesBefore one other first second
      → HaveMet (mail_of (slice_index_or after first default)) (mail_of (slice_index_or after second default))
      × HaveMet (mail_of (slice_index_or after second default)) (mail_of (slice_index_or after first default))
