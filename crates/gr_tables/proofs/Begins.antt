-- The scopes after an index has begun.
use Rattle.std.proofs.Common.{◌≡◌, ℕ, ◌<◌, ◌≤◌, List, Option, sym, ap, ◌∙◌, length}
use Rattle.std.proofs.lemmas.Option.{slice_get-get_or, slice_get_past}
use Rattle.std.specs.Prelude.{slice_set, slice_index_or}
use Rattle.std.specs.Option.{option_map_or}
use Rattle.gr_lang.specs.States.{Scope}
use Rattle.gr_tables.specs.Scopes.{begin_scope, begun_at}

abbrev begun_in : List Scope → ℕ → ℕ → Option Scope → List Scope
begun_in xs i index o = option_map_or (λ x. slice_set xs i (begin_scope x index)) o xs

pub begun_here : (xs : List Scope) (i index : ℕ) (d x : Scope) → i < length xs → x ≡ begin_scope (slice_index_or xs i d) index → slice_set xs i x ≡ begun_at xs i index
begun_here xs i index d x lt h = ap (slice_set xs i) h ∙ sym (ap (begun_in xs i index) (slice_get-get_or xs i d lt))

pub begun_past : (xs : List Scope) (i index : ℕ) → length xs ≤ i → begun_at xs i index ≡ xs
begun_past xs i index le = ap (begun_in xs i index) (slice_get_past xs i le)

pub ruleset begins = (begun_here, begun_past)
