-- What the table of meanings tells, and meanings of names as they are given one after the other.
use Rattle.std.specs.Prelude.{ℕ, if◌then◌else◌, List, Some, None}
use Rattle.std.specs.HashMap.{get_by}
use Rattle.std.specs.Option.{option_or}
use Rattle.std.specs.Str.{bytes_eq}
use Rattle.gr_accept.specs.Declarations.{Meaning}
use Rattle.gr_accept.specs.declared.operation.Declared.{Declared}
use Rattle.gr_checker.specs.declared.meanings.Meanings.{Meanings}

-- What each name means by this table.
abbrev pub meaning_of : Meanings → Meaning
meaning_of meanings name = get_by (λ key. bytes_eq name key.now) meanings.table

abbrev pub no_meaning : Meaning
no_meaning name = None

-- The name has this meaning now, unless it had one; other names keep theirs.
abbrev pub with_meaning : Meaning → List ℕ → Declared → Meaning
with_meaning meaning name declared other = option_or (meaning other) (if bytes_eq other name then Some declared else None)
