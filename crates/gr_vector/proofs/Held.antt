-- Words held at positions, by the entries of a tree map.
use Rattle.std.proofs.Common.{◌≡◌, ◌≢◌, ℕ, List, true, false, Option, refl, sym, ap, ◌∙◌, cond, eq-eqb, ne_eqb}
use Rattle.std.specs.Ordering.{nat_cmp}
use Rattle.std.specs.Cmp.{unsigned_tied}
use Rattle.std.specs.Map.{lookup}
use Rattle.std.specs.BTreeMap.{is_at}
use Rattle.gr_view.specs.Places.{put}
use Rattle.gr_view.proofs.Puts.{put_by}
use Rattle.gr_vector.specs.Parts.{part_of}

same_at : (position other : ℕ) → other ≡ position → is_at (nat_cmp position) other ≡ true
same_at position other e = unsigned_tied position other ∙ eq-eqb position other (sym e)

apart_at : (position other : ℕ) → other ≢ position → is_at (nat_cmp position) other ≡ false
apart_at position other n = unsigned_tied position other ∙ ne_eqb position other (λ q. n (sym q))

pub part_put : (before after : List (ℕ × ℕ)) (position : ℕ) (value : Option ℕ)
    → ((other : ℕ) → lookup (is_at (nat_cmp other)) after ≡ cond (is_at (nat_cmp position) other) value (lookup (is_at (nat_cmp other)) before))
    → part_of after ≡ put (part_of before) position value
unfolding part_of
part_put before after position value h = put_by (λ p. lookup (is_at (nat_cmp p)) before) (λ p. lookup (is_at (nat_cmp p)) after) position value
    (h position ∙ ap (λ b. cond b value (lookup (is_at (nat_cmp position)) before)) (same_at position position refl))
    (λ other n. h other ∙ ap (λ b. cond b value (lookup (is_at (nat_cmp other)) before)) (apart_at position other n))

pub part_is : (pairs : List (ℕ × ℕ)) (position : ℕ) → part_of pairs position ≡ lookup (is_at (nat_cmp position)) pairs
unfolding part_of
part_is pairs position = refl

pub ruleset at_parts = (part_put, part_is)
