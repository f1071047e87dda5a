-- What the cores of a run hold together of each object. Where two held something at one address, key or position, the first would count.
use Rattle.std.specs.Prelude.{◌≡◌, ℕ, ◌+◌, ◌==◌, if◌then◌else◌, List, [], ◌∷◌, length, map, slice_index, EachIndex, Option, Some, None}
use Rattle.std.specs.Map.{keys_of, values_of}
use Rattle.std.specs.Option.{option_or}
use Rattle.gr_memory.specs.declared.contents.Content.{Content}
use Rattle.gr_memory.specs.declared.contents.Content.TheVariants as content
use Rattle.gr_code.specs.declared.shapes.Shape.{Shape}
use Rattle.gr_code.specs.declared.shapes.Shape.TheVariants as shape
use Rattle.gr_machine.specs.Machines.{home, place}
use Rattle.gr_machine.specs.States.{Body, Vector}
use Rattle.gr_store.specs.Stores.{Lists}
use Rattle.gr_courses.specs.Seen.{Seen}
use Rattle.gr_core.specs.Cores.{run_of}
use Rattle.gr_core.specs.declared.cores.Core.{Core}

-- The word of an address that has its home at a core.
abbrev pub word_in : Seen → ℕ → Option ℕ
word_in seen at = if home seen.machine at == seen.me then seen.core.body.words.segment (place seen.machine at) else None

-- What lies at a core of an object: the words of a vector by their positions, of others what stands under keys.
abbrev pub part_or : Option Vector → (ℕ → Option ℕ) → ℕ → Option ℕ
part_or None under = under
part_or (Some vector) under = vector.part

abbrev pub held_in : Body → ℕ → ℕ → Option ℕ
held_in body object = part_or (body.vectors.vectors object) (body.words.shards object)

-- What stands somewhere at the first that has something there.
unfoldable pub first_held : List (ℕ → Option ℕ) → ℕ → Option ℕ
first_held [] at = None
first_held (one ∷ more) at = option_or (one at) (first_held more at)

-- The same of the cores: the word of an address, and what they hold of an object.
abbrev pub word_of : Core → ℕ → Option ℕ
word_of core = word_in (run_of core).seen

abbrev pub held_of : ℕ → Core → ℕ → Option ℕ
held_of object core = held_in (run_of core).seen.core.body object

abbrev pub word_by : List Core → ℕ → Option ℕ
word_by cores = first_held (map word_of cores)

abbrev pub held_by : List Core → ℕ → ℕ → Option ℕ
held_by cores object = first_held (map (held_of object) cores)

-- The words of an array are those of its addresses.
pub record AreWords (cores : List Core) (from count : ℕ) (words : List ℕ) : Type 0 where
  pub len : length words ≡ count
  pub each : EachIndex words (λ place. word_by cores (from + place) ≡ Some (slice_index words place))

-- The keys, rising, under which something stands; and what stands at positions, by rising position.
pub record AreKeys (under : ℕ → Option ℕ) (keys : List ℕ) : Type 0 where
  pub pairs : List (ℕ × ℕ)
  pub lists : Lists pairs under
  pub keys_are : keys ≡ keys_of pairs

pub record AreValues (under : ℕ → Option ℕ) (words : List ℕ) : Type 0 where
  pub pairs : List (ℕ × ℕ)
  pub lists : Lists pairs under
  pub words_are : words ≡ values_of pairs

-- The content of the object of this number and shape.
abbrev pub IsGathered : List Core → ℕ → Shape → Content → Type 0
IsGathered cores object (shape.Words from count) (content.Array words) = AreWords cores from count words
IsGathered cores object shape.Set (content.Set keys) = AreKeys (held_by cores object) keys
IsGathered cores object shape.Map (content.Map pairs) = Lists pairs (held_by cores object)
IsGathered cores object shape.Vector (content.Vector words) = AreValues (held_by cores object) words
IsGathered cores object _ _ = ⊥

-- The contents of objects of these shapes, one after another, of which the first has this number.
abbrev pub AreGathered : List Core → ℕ → List Shape → List Content → Type 0
AreGathered cores object [] [] = Unit {0}
AreGathered cores object (one ∷ shapes) (its ∷ contents) = IsGathered cores object one its × AreGathered cores (object + 1) shapes contents
AreGathered cores object _ _ = ⊥
