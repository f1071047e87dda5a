-- How many bytes one write takes, and how many a row of reads gave.
use Rattle.std.specs.Prelude.{◌≡◌, ℕ, ◌<◌, ◌≤◌, List, Option, length, IfOk, Result}
use Rattle.std.specs.Io.KnownBytes.{Consumes}

-- a write of a piece that isn't empty takes at least one byte of it, and no more than it has
abbrev pub TakesSome : {E : Type 0} → Result ℕ E → List ℕ → Type 0
TakesSome result piece =
    IfOk result (λ count. (count ≤ length piece) × (0 < length piece → 0 < count))

-- the reads between these two states gave so many bytes
abbrev pub ConsumesExactly : Option (List ℕ) → Option (List ℕ) → ℕ → Type 0
ConsumesExactly before now count =
    (bytes : List ℕ) × Consumes before now bytes × (length bytes ≡ count)

-- the reads between these two states gave so many bytes or fewer
abbrev pub ConsumesAtMost : Option (List ℕ) → Option (List ℕ) → ℕ → Type 0
ConsumesAtMost before now count =
    (bytes : List ℕ) × Consumes before now bytes × (length bytes ≤ count)

-- the reads between these two states gave a byte or more
abbrev pub ConsumesSome : Option (List ℕ) → Option (List ℕ) → Type 0
ConsumesSome before now = (bytes : List ℕ) × Consumes before now bytes × (0 < length bytes)
