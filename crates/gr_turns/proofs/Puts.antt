-- A write of what stands there already, and the words of no pairs.
use Rattle.std.proofs.Common.{◌≡◌, ℕ, List, [], None, Option, refl, ap}
use Rattle.std.specs.Ordering.{nat_cmp}
use Rattle.std.specs.Map.{lookup}
use Rattle.std.specs.BTreeMap.{is_at}
use Rattle.gr_view.specs.Places.{put}
use Rattle.gr_view.proofs.Puts.{put_by}
use Rattle.gr_vector.specs.Parts.{part_of}

pub put_same : {X : Type 0} (held : ℕ → X) (number : ℕ) (there : X) → held number ≡ there → held ≡ put held number there
put_same held number there e = put_by held held number there e (λ other apart. refl)

pub part_none : (pairs : List (ℕ × ℕ)) → pairs ≡ [] → part_of pairs ≡ (λ position. None)
unfolding part_of
part_none pairs e = let read : List (ℕ × ℕ) → ℕ → Option ℕ = λ held position. lookup (is_at (nat_cmp position)) held in ap read e
