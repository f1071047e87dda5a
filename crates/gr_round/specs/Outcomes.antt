-- How the cores of a run stand once no further round is made.
use Rattle.std.specs.Prelude.{◌≡◌, ◌≢◌, ◌<◌, ℕ, Bool, true, false, nat_le, List, [], length, slice_index_or}
use Rattle.gr_machine.specs.declared.event.Event.{Event}
use Rattle.gr_machine.specs.declared.event.Event.TheVariants as event
use Rattle.gr_machine.specs.Enabled.{enabled}
use Rattle.gr_mail.specs.Rings.{known_from}
use Rattle.gr_core.specs.declared.cores.Core.{Core}
use Rattle.gr_core.specs.Cores.{mail_of, run_of}
use Rattle.gr_slice.specs.Slices.{IsNumbered}
use Rattle.gr_round.specs.declared.outcomes.Outcome.{Outcome}
use Rattle.gr_round.specs.declared.outcomes.Outcome.TheVariants as outcome

-- The core has passed the root scope; a task of it is trapped; its clock has come to the limit of events.
abbrev pub has_passed : Core → Bool
has_passed core = (run_of core).seen.core.body.stops.passed

abbrev pub is_trapped : Core → Bool
is_trapped core = (run_of core).seen.core.body.stops.trapped

abbrev pub is_spent : Core → Bool
is_spent core = nat_le (run_of core).seen.machine.setup.events (run_of core).seen.core.clock

-- It is so of some core, and of none.
abbrev pub SomeIs : (Core → Bool) → List Core → Type 0
SomeIs test cores = (core : ℕ) × (core < length cores) × ((default : Core) → test (slice_index_or cores core default) ≡ true)

abbrev pub NoneIs : (Core → Bool) → List Core → Type 0
NoneIs test cores = (core : ℕ) (default : Core) → core < length cores → test (slice_index_or cores core default) ≡ false

-- The first core that is spent, with its clock.
pub record IsFirstSpent (core time : ℕ) (cores : List Core) : Type 0 where
  pub within : core < length cores
  pub spent : (default : Core) → is_spent (slice_index_or cores core default) ≡ true
  pub clock : (default : Core) → (run_of (slice_index_or cores core default)).seen.core.clock ≡ time
  pub first : (other : ℕ) (default : Core) → other < core → is_spent (slice_index_or cores other default) ≡ false

-- No core has passed the root scope, is trapped or is spent.
pub record AreGoing (cores : List Core) : Type 0 where
  pub passed : NoneIs has_passed cores
  pub trapped : NoneIs is_trapped cores
  pub spent : NoneIs is_spent cores

-- No event of the core is enabled but to take a packet, and none is known to be under way to it.
pub record IsStuck (core : Core) : Type 0 where
  pub events : (what : Event) → IsNumbered what → ((from : ℕ) → what ≢ event.Take from)
      → enabled (run_of core).seen.machine (run_of core).seen.me (run_of core).seen.core what ≡ false
  pub known : (from : ℕ) → known_from (mail_of core) from ≡ []

-- No core can go on, though none had to stop.
pub record HaveStalled (cores : List Core) : Type 0 where
  pub going : AreGoing cores
  pub stuck : (core : ℕ) (default : Core) → core < length cores → IsStuck (slice_index_or cores core default)

-- What each outcome says of the cores.
abbrev pub Concluded : Outcome → List Core → Type 0
Concluded outcome.Ended cores = SomeIs has_passed cores
Concluded outcome.Trapped cores = NoneIs has_passed cores × SomeIs is_trapped cores
Concluded (outcome.EventLimit core clock) cores = NoneIs has_passed cores × NoneIs is_trapped cores × IsFirstSpent core clock cores
Concluded outcome.Stalled cores = HaveStalled cores
