-- What is asked of the range of a scope, and the scopes after an index of one has begun.
use Rattle.std.specs.Prelude.{ℕ, not, ◌&&◌, nat_le, nat_lt, if◌then◌else◌, List, [], ◌∷◌, slice_get, slice_set, Option, Some, None}
use Rattle.std.specs.Option.{option_map, option_map_or}
use Rattle.std.specs.FinSet as set
use Rattle.gr_tables.specs.declared.scopes.RangeRow.{RangeRow}
use Rattle.gr_lang.specs.States.{Range, Scope}

-- The range that a row stands for.
abbrev pub range_of : RangeRow → Range
range_of row = record { lo = row.lo; hi = row.hi; target = row.target; args = row.args; begun = row.begun }

-- The task of the range, where this index is in it and hasn't begun.
abbrev pub begins_in : Option Range → ℕ → Option ℕ
begins_in None index = None
begins_in (Some range) index = if nat_le range.lo index && nat_lt index range.hi && not (set.contains range.begun index) then Some range.target else None

-- The arguments with which this index begins.
abbrev pub args_of : Option Range → ℕ → List ℕ
args_of None index = index ∷ []
args_of (Some range) index = index ∷ range.args

-- The range after this index has begun.
abbrev pub begin_range : Range → ℕ → Range
begin_range range index = record range { begun = set.insert range.begun index }

-- The scope after this index of its range has begun.
abbrev pub begin_scope : Scope → ℕ → Scope
begin_scope scope index = record scope { range = option_map (λ range. begin_range range index) scope.range }

-- The scopes after this index of that one has begun.
abbrev pub begun_at : List Scope → ℕ → ℕ → List Scope
begun_at scopes number index = option_map_or (λ scope. slice_set scopes number (begin_scope scope index)) (slice_get scopes number) scopes
