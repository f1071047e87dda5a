-- What the functions that read the header and the lines of a text answer.
use Rattle.std.specs.Prelude.{ℕ, ◌≡◌, ◌≢◌, ◌&&◌, if◌then◌else◌, nat_le, List, [], ◌∷◌, ◌++◌, codes, Option, Some, None, Err, option_and_then}
use Rattle.std.specs.Str.{bytes_eq}
use Rattle.gr_syntax.specs.declared.limits.TheConstants.{MAX_CORES, MAX_STEPS}
use Rattle.gr_hist.specs.declared.fields.LineError.{LineError}
use Rattle.gr_hist.specs.declared.fields.LineError.TheVariants as error
use Rattle.gr_hist.specs.declared.text.NamedEntry.{NamedEntry}
use Rattle.gr_hist.specs.declared.text.HistError.{HistError}
use Rattle.gr_hist.specs.declared.text.HistError.TheVariants as fault
use Rattle.gr_hist.specs.Names.{Bytes}
use Rattle.gr_hist.specs.Spelling.{entry_line, header_line}
use Rattle.gr_hist.specs.Grammar.{IsEntry, IsHeader, ReadsLines}
use Rattle.gr_hist.specs.FieldWords.{entry_of, fields_in, number_of}

-- The header.

-- The numbers of a header, within their limits.
abbrev pub limits_of : ℕ → ℕ → Option (ℕ × ℕ)
limits_of cores steps = if nat_le 1 cores && nat_le cores MAX_CORES && nat_le 1 steps && nat_le steps MAX_STEPS then Some (cores, steps) else None

-- What stands behind `history 1 cores`.
abbrev pub sizes_of : List Bytes → Option (ℕ × ℕ)
sizes_of (cores ∷ sign ∷ steps ∷ []) =
    if bytes_eq sign (codes "steps") then option_and_then (λ most. option_and_then (λ limit. limits_of most limit) (number_of steps)) (number_of cores) else None
sizes_of _ = None

-- The numbers of cores and steps of these fields.
abbrev pub header_of : List Bytes → Option (ℕ × ℕ)
header_of (first ∷ version ∷ sign ∷ fields) =
    if bytes_eq first (codes "history") && bytes_eq version (codes "1") && bytes_eq sign (codes "cores") then sizes_of fields else None
header_of _ = None

-- Lines.

-- The entry of a line.
unfoldable pub entry_in : Bytes → Option NamedEntry
entry_in line = entry_of (fields_in line)

-- The header of a line.
unfoldable pub header_in : Bytes → Option (ℕ × ℕ)
header_in line = header_of (fields_in line)

-- The text begins with the line of this entry, and this stands behind it.
abbrev pub IsLineAt : Bytes → NamedEntry → Bytes → Type 0
IsLineAt text entry rest = IsEntry entry × (text ≡ entry_line entry ++ rest)

-- The text begins with no entry's line, where that is the error.
abbrev pub IsNoLine : Bytes → LineError → Type 0
IsNoLine text error.Bad = (entry : NamedEntry) (rest : Bytes) → IsEntry entry → text ≢ entry_line entry ++ rest
IsNoLine text error.OutOfMemory = Unit {0}

-- The text begins with the header of these numbers, and this stands behind it.
abbrev pub IsHeaderAt : Bytes → ℕ → ℕ → Bytes → Type 0
IsHeaderAt text cores steps rest = IsHeader cores steps × (text ≡ header_line cores steps ++ rest)

-- The text begins with no header, where that is the error.
abbrev pub IsNoHeader : Bytes → LineError → Type 0
IsNoHeader text error.Bad = (cores steps : ℕ) (rest : Bytes) → IsHeader cores steps → text ≢ header_line cores steps ++ rest
IsNoHeader text error.OutOfMemory = Unit {0}

-- The error of a line, told with the line's number.
abbrev pub error_at : ℕ → LineError → HistError
error_at number error.Bad = fault.BadLine number
error_at number error.OutOfMemory = fault.OutOfMemory

-- From the line of this number on the text reads as this error. Want of memory says nothing of it.
abbrev pub SaysLine : ℕ → Bytes → HistError → Type 0
SaysLine number text (fault.BadLine bad) = ReadsLines number text (Err bad)
SaysLine number text fault.OutOfMemory = Unit {0}
