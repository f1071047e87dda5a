-- Numbers, one for each scope, and a change of them.
use Rattle.std.specs.Prelude.{ℕ, ◌+◌, ◌-◌, ◌<◌, ◌^◌, List, [], ◌∷◌, ◌++◌, length, slice_index, slice_set, Option, Some, None}
use Rattle.gr_tables.specs.declared.counts.Change.{Change}
use Rattle.gr_tables.specs.declared.counts.Change.TheVariants as change

-- A task begins, or ends, in the scope, if there is one.
abbrev pub begins_in : Option ℕ → Change
begins_in None = change.Stays
begins_in (Some scope) = change.Begins scope

abbrev pub ends_in : Option ℕ → Change
ends_in None = change.Stays
ends_in (Some scope) = change.Ends scope

-- The numbers after a change.
abbrev pub changed : Change → List ℕ → List ℕ
changed change.Stays counts = counts
changed (change.Begins scope) counts = slice_set counts scope (slice_index counts scope + 1)
changed (change.Ends scope) counts = slice_set counts scope (slice_index counts scope - 1)
changed change.Opens counts = counts ++ 0 ∷ []

-- The change can be made: its scope is there, and the scope's number stays within 64 bits.
abbrev pub CanChange : Change → List ℕ → Type 0
CanChange (change.Begins scope) counts = (scope < length counts) × (slice_index counts scope + 1 < 2 ^ 64)
CanChange (change.Ends scope) counts = 0 < slice_index counts scope
CanChange _ counts = Unit {0}
