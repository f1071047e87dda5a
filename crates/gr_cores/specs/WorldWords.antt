-- The cores that a world holds, and what an event of one of them leaves as it was.
use Rattle.std.specs.Prelude.{◌≡◌, ◌<◌, ℕ, List, Option, Some, None, true, length, slice_index_or}
use Rattle.std.specs.Coded.{Unit-prop}
use mathlib.Core.HLevel.{⊥_prop}
use Rattle.gr_machine.specs.declared.event.Event.{Event}
use Rattle.gr_machine.specs.Enabled.{enabled}
use Rattle.gr_mail.specs.Ends.{AreBoth}
use Rattle.gr_mail.specs.Rings.{SameRings}
use Rattle.gr_core.specs.declared.cores.Core.{Core}
use Rattle.gr_core.specs.Cores.{mail_of, run_of}
use Rattle.gr_world.specs.Worlds.{AreCores}

-- The cores of one run, whose machine is that of the first; or none.
abbrev pub IsOneRun : List Core → Type 0
IsOneRun cores = (default : Core) → 0 < length cores → AreCores (run_of (slice_index_or cores 0 default)).seen.machine cores

-- Each core runs the same machine under the same number over the same rings.
pub record AreAsBefore (before after : List Core) : Type 0 where
  pub len : length after ≡ length before
  pub machine : (core : ℕ) (default : Core) → core < length before
      → (run_of (slice_index_or after core default)).seen.machine ≡ (run_of (slice_index_or before core default)).seen.machine
  pub number : (core : ℕ) (default : Core) → core < length before
      → (run_of (slice_index_or after core default)).seen.me ≡ (run_of (slice_index_or before core default)).seen.me
  pub rings : (core : ℕ) (default : Core) → core < length before
      → SameRings (mail_of (slice_index_or before core default)) (mail_of (slice_index_or after core default))

-- There is a core of this number, and the event is enabled there.
pub record MayMake (at : ℕ) (what : Event) (cores : List Core) : Type 0 where
  pub within : at < length cores
  pub enabled : (default : Core) → let s = (run_of (slice_index_or cores at default)).seen in enabled s.machine s.me s.core what ≡ true

-- Two ends of a ring are so related in one way at most, where any two values are.
pub AreBoth-prop : {X Y : Type 0} (R : X → Y → Type 0) → ((one : X) (other : Y) → IsProp (R one other))
    → (one : Option X) (other : Option Y) → IsProp (AreBoth R one other)
AreBoth-prop R props None None = Unit-prop
AreBoth-prop R props None (Some other) = ⊥_prop
AreBoth-prop R props (Some one) None = ⊥_prop
AreBoth-prop R props (Some one) (Some other) = props one other
