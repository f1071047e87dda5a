-- What a reader of the code answers, by what reading gives.
use Rattle.std.specs.Prelude.{◌≡◌, ℕ, List, Result, Ok, Err}
use Rattle.std.specs.Borrow.{Bor}
use Rattle.gr_format.specs.declared.error.FormatError.{FormatError}
use Rattle.gr_format.specs.declared.error.FormatError.TheVariants as error
use Rattle.gr_format.specs.Formats.{Format, reading}

-- A fault where reading stops. Want of memory says nothing.
abbrev pub Stops : {Y : Type 0} → FormatError → Result Y ℕ → Type 0
Stops error.OutOfMemory read = Unit {0}
Stops (error.Fault left) read = read ≡ Err left

-- The value and the bytes behind it, or a fault, as reading gives them.
abbrev pub Reads : {A : Type 0} → Format A → List ℕ → Result (A × Bor (List ℕ)) FormatError → Type 0
Reads format bytes (Ok read) = reading format bytes ≡ Ok (read.0, read.1.now)
Reads format bytes (Err stopped) = Stops stopped (reading format bytes)
