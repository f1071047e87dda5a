-- Where the words of vectors lie while no turn is out; and cores whose bodies are those of a world.
use Rattle.std.specs.Prelude.{◌≡◌, ℕ, ◌+◌, ◌<◌, ◌==◌, false, true, if◌then◌else◌, List, [], ◌∷◌, length, slice_get, slice_index_or, Option, Some, None, is_some}
use Rattle.gr_lang.specs.Objects.{line, Objects}
use Rattle.gr_machine.specs.Machines.{thing}
use Rattle.gr_machine.specs.Openings.{is_vector}
use Rattle.gr_machine.specs.States.{Vector, Body}
use Rattle.gr_core.specs.Cores.{run_of}
use Rattle.gr_core.specs.declared.cores.Core.{Core}
use Rattle.gr_stands.specs.Worlds.{Given, machine_in, World, bodies}

-- The word at a position, of words that stand at positions from a first one on.
abbrev pub word_from : ℕ → List ℕ → ℕ → Option ℕ
word_from first [] position = None
word_from first (word ∷ words) position = if position == first then Some word else word_from (first + 1) words position

-- What a core has of a vector at a position.
abbrev pub part_in : Option Vector → ℕ → Option ℕ
part_in None position = None
part_in (Some vector) position = vector.part position

-- A core that has this word of a vector at this position.
pub record HasWord (count : ℕ) (body : ℕ → Body) (number position word : ℕ) : Type 0 where
  pub core : ℕ
  pub here : core < count
  pub there : part_in ((body core).vectors.vectors number) position ≡ Some word

-- The words of a vector stand at positions from a first one on: each lies at some core, and no core has another word at a position.
pub record LineRests (count : ℕ) (body : ℕ → Body) (number : ℕ) (words : List ℕ) : Type 0 where
  pub first : ℕ
  pub kept : (core : ℕ) → core < count → is_some ((body core).vectors.vectors number) ≡ true
  pub right : (core position word : ℕ) → core < count → part_in ((body core).vectors.vectors number) position ≡ Some word → word_from first words position ≡ Some word
  pub somewhere : (position word : ℕ) → word_from first words position ≡ Some word → HasWord count body number position word

-- Facts of the part of turns, where no turn of any vector is out: each vector rests, and no core has a vector where there is none.
pub record VectorsRest (given : Given) (body : ℕ → Body) (objects : Objects) : Type 0 where
  pub lines : (number : ℕ) (words : List ℕ) → slice_get objects.things number ≡ Some (line words) → LineRests given.setup.cores body number words
  pub others : (core number : ℕ) → core < given.setup.cores → is_vector (thing (machine_in given) number) ≡ false → (body core).vectors.vectors number ≡ None

-- The bodies of these cores are those of the world.
abbrev pub HaveBodies : List Core → World → Type 0
HaveBodies cores world = (core : ℕ) (default : Core) → core < length cores → (run_of (slice_index_or cores core default)).seen.core.body ≡ bodies world core
