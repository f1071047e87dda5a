-- What a count of faults says of a call: whether it rose, and by how much.
use Rattle.std.specs.Prelude.{◌≡◌, ℕ, ◌+◌, ◌-◌, ◌^◌, ◌≤◌, min, OnErr, MatchResult, Result, Ok, Err}
use Rattle.gr_io.specs.declared.whole.ReadAllError.{ReadAllError}
use Rattle.gr_io.specs.declared.whole.ReadAllError.TheVariants as errors

-- one more than this count, or the last value that a `u64` has
abbrev pub next_count : ℕ → ℕ
next_count count = min (count + 1) (2 ^ 64 - 1)

-- the count rose, or stands at its last value
abbrev pub Rose : ℕ → ℕ → Type 0
Rose before now = next_count before ≤ now

-- the count hasn't fallen, and an `Err` comes only where it rose
pub record HasCause {T E : Type 0} (before now : ℕ) (result : Result T E) : Type 0 where
  pub later : before ≤ now
  pub failed : OnErr result (Rose before now)

-- an `Err` counts one fault, and an `Ok` none
abbrev pub CountsFault : {T E : Type 0} → ℕ → ℕ → Result T E → Type 0
CountsFault before now result =
    MatchResult result (λ _. now ≡ before) (λ _. now ≡ next_count before)

-- a `ReadFault` counts one fault, and every other answer none
abbrev pub CountsReadFault : {T : Type 0} → ℕ → ℕ → Result T ReadAllError → Type 0
CountsReadFault before now (Ok _) = now ≡ before
CountsReadFault before now (Err errors.ReadFault) = now ≡ next_count before
CountsReadFault before now (Err errors.TooLong) = now ≡ before
CountsReadFault before now (Err errors.OutOfMemory) = now ≡ before
