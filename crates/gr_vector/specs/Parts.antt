-- The words of a vector at one core, by their positions.
use Rattle.std.specs.Prelude.{ℕ, List, Option}
use Rattle.std.specs.Ordering.{nat_cmp}
use Rattle.std.specs.BTreeMap.{is_at}
use Rattle.std.specs.Map.{lookup}

-- The word that pairs of positions and words have at each position.
unfoldable pub part_of : List (ℕ × ℕ) → ℕ → Option ℕ
part_of pairs position = lookup (is_at (nat_cmp position)) pairs
