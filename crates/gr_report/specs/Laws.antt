-- What cores hold together: one thing, to which each core gives what it alone holds.
use Rattle.std.specs.Prelude.{◌≡◌, ◌≢◌, ℕ, ◌<◌, List, length, slice_index_or, None}
use Rattle.gr_memory.specs.declared.contents.Content.{Content}
use Rattle.gr_code.specs.declared.shapes.Shape.{Shape}
use Rattle.gr_machine.specs.Machines.{Machine, home, place}
use Rattle.gr_core.specs.Cores.{run_of}
use Rattle.gr_core.specs.declared.cores.Core.{Core}
use Rattle.gr_report.specs.Gathered.{AreGathered, held_by, held_of, word_by}

abbrev pub GatheredOnce : Type 0
GatheredOnce = (cores : List Core) (object : ℕ) (shapes : List Shape) (one other : List Content)
    → AreGathered cores object shapes one → AreGathered cores object shapes other → one ≡ other

-- Where one core alone may hold something, what it holds stands there; where none does, nothing.
abbrev pub AloneHeld : Type 0
AloneHeld = (cores : List Core) (object at one : ℕ) (default : Core) → one < length cores
    → ((other : ℕ) → other < length cores → other ≢ one → held_of object (slice_index_or cores other default) at ≡ None)
    → held_by cores object at ≡ held_of object (slice_index_or cores one default) at

abbrev pub NoneHeld : Type 0
NoneHeld = (cores : List Core) (object at : ℕ) (default : Core)
    → ((core : ℕ) → core < length cores → held_of object (slice_index_or cores core default) at ≡ None) → held_by cores object at ≡ None

-- The cores of a machine, each at the place of its number.
pub record AreInOrder (machine : Machine) (cores : List Core) : Type 0 where
  pub len : length cores ≡ machine.setup.cores
  pub of_machine : (core : ℕ) (default : Core) → core < length cores → (run_of (slice_index_or cores core default)).seen.machine ≡ machine
  pub numbered : (core : ℕ) (default : Core) → core < length cores → (run_of (slice_index_or cores core default)).seen.me ≡ core

-- The word of an address is the one at its home.
abbrev pub WordsAreAtHome : Type 0
WordsAreAtHome = (machine : Machine) (cores : List Core) (at : ℕ) (default : Core) → AreInOrder machine cores → home machine at < machine.setup.cores
    → word_by cores at ≡ (run_of (slice_index_or cores (home machine at) default)).seen.core.body.words.segment (place machine at)
