-- Tables of places by name.
use Rattle.std.specs.Prelude.{◌≡◌, ℕ, if◌then◌else◌, Option, Some, None, List, position}
use Rattle.std.specs.Borrow.{Bor}
use Rattle.std.specs.HashMap.{HashMap, get_by}
use Rattle.std.specs.Option.{option_or}
use Rattle.std.specs.Str.{bytes_eq}
use Rattle.std.specs.declared.hash.BuildHasherDefault.{BuildHasherDefault}
use Rattle.std.specs.declared.hash.FoldHasher.{FoldHasher}

abbrev pub Places : Type 0
Places = HashMap (Bor (List ℕ)) ℕ (BuildHasherDefault FoldHasher)

-- The place of that name.
abbrev pub place_in : Places → List ℕ → Option ℕ
place_in places name = get_by (λ key. bytes_eq name key.now) places

-- The name has this place now, unless it had one; other names keep theirs.
abbrev pub GivesPlace : Places → Places → List ℕ → ℕ → Type 0
GivesPlace old new name place =
    (other : List ℕ) → place_in new other ≡ option_or (place_in old other) (if bytes_eq other name then Some place else None)

-- Each name has its place in this list, and the first of equal names counts.
abbrev pub HasPlaces : List (List ℕ) → Places → Type 0
HasPlaces names places = (name : List ℕ) → place_in places name ≡ position (bytes_eq name) names
