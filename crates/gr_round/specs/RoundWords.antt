-- What proofs and private functions say of rounds.
use Rattle.std.specs.Prelude.{◌≡◌, ◌<◌, ℕ, ◌+◌, Bool, true, false, List, [], ◌∷◌, Option, Some, None, Result, Ok, length, slice_index_or}
use Rattle.gr_machine.specs.Machines.{Machine}
use Rattle.gr_core.specs.declared.cores.Core.{Core}
use Rattle.gr_core.specs.Cores.{run_of}
use Rattle.gr_world.specs.Worlds.{AreCores, HaveAllMet}
use Rattle.gr_round.specs.Outcomes.{IsFirstSpent, NoneIs, SomeIs, is_spent}
use Rattle.gr_round.specs.Rounds.{AllWentOn}

-- The slices are these cores, each of which had memory.
pub record AreOk {E : Type 0} (slices : List (Result Core E)) (cores : List Core) : Type 0 where
  pub len : length cores ≡ length slices
  pub each : (core : ℕ) (default : Core) (other : Result Core E) → core < length slices → slice_index_or slices core other ≡ Ok (slice_index_or cores core default)

-- It is so of some core, or of none.
abbrev pub TellsOf : (Core → Bool) → List Core → Bool → Type 0
TellsOf test cores true = SomeIs test cores
TellsOf test cores false = NoneIs test cores

-- The first core that is spent with its clock, or none where no core is.
abbrev pub NoneOrFirst : List Core → Option (ℕ × ℕ) → Type 0
NoneOrFirst cores None = NoneIs is_spent cores
NoneOrFirst cores (Some first) = IsFirstSpent first.0 first.1 cores

-- The sum of the clocks.
abbrev pub clocks : List Core → ℕ
clocks [] = 0
clocks (core ∷ cores) = (run_of core).seen.core.clock + clocks cores

-- What is so before each round, where the clocks have this sum.
pub record GoesOn (first now : List Core) (sum : ℕ) : Type 0 where
  pub went : AllWentOn first now
  pub cores : (machine : Machine) → AreCores machine first → AreCores machine now
  pub met : HaveAllMet now
  pub total : sum ≡ clocks now
