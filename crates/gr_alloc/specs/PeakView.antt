-- The tree of peaks over a list: each node above the leaves holds the greater of the two below it.
use Rattle.std.specs.Prelude.{◌≡◌, ℕ, suc, ◌+◌, ◌*◌, ◌^◌, ◌<◌, List, length, drop, max, slice_index}
use Rattle.gr_alloc.specs.declared.peaks.Peaks.TheInside.{Inside}

-- The node k holds the greater of the two nodes below it.
abbrev pub IsPeak : List ℕ → ℕ → Type 0
IsPeak tree k = slice_index tree k ≡ max (slice_index tree (2 * k)) (slice_index tree (2 * k + 1))

-- The nodes are numbered from 1 at the root, those below k are 2k and 2k + 1, and the leaves start at 2^levels.
pub record IsTree (tree : List ℕ) (levels : ℕ) : Type 0 where
  pub whole : length tree ≡ 2 ^ suc levels
  pub peaks : (k : ℕ) → 0 < k → k < 2 ^ levels → IsPeak tree k

-- The leaves are the list.
abbrev pub list_of : Inside → List ℕ
list_of p = drop (2 ^ p.levels) p.tree.items

-- A tree of so many levels.
abbrev pub IsPeaks : Inside → Type 0
IsPeaks p = IsTree p.tree.items p.levels
