-- The laws of a chunk's parts.
use Rattle.std.specs.Prelude.{◌≡◌, ℕ, ◌-◌, ◌≤◌, ◌<◌, nat_le, nat_lt, ◌&&◌, Bool, count_by, ◌∷◌, if◌then◌else◌}
use Rattle.gr_work.specs.Parts.{Range, offered, kept_end}

abbrev pub holds : ℕ → Range → Bool
holds index range = nat_le range.from index && nat_lt index range.to

-- Each index of a range lies in exactly one of its parts, and no other index lies in one.
abbrev pub PartsCover : Type 0
PartsCover = (grain lo hi index : ℕ) → lo ≤ hi
    → count_by (holds index) (record { from = lo; to = kept_end grain lo hi } ∷ offered grain lo hi) ≡ (if holds index (record { from = lo; to = hi }) then 1 else 0)

-- What is kept of a range with indices has one, and no more than the grain.
abbrev pub KeptIsSmall : Type 0
KeptIsSmall = (grain lo hi : ℕ) → lo < hi → 0 < grain → (lo < kept_end grain lo hi) × (kept_end grain lo hi - lo ≤ grain)
