-- The parts of a range lie side by side.
use Rattle.std.proofs.Common.{◌≡◌, ◌∙◌, refl, ℕ, zero, suc, ◌+◌, ◌-◌, ◌<◌, ◌≤◌, Bool, true, false, cond, nat_lt, nat_le, List, [], ◌∷◌, if◌then◌else◌, arith, ltb-true, ltb-false}
use Rattle.std.proofs.lemmas.Bool.Decides.{nat_tests}
use Rattle.std.proofs.lemmas.List.Sums.{sum_by-cons}
use Rattle.std.specs.Prelude.{count_by, ◌&&◌}
use Rattle.gr_work.specs.Parts.{Range, middle, offered_in, kept_in, offered, kept_end}
use Rattle.gr_work.specs.Laws.{holds, PartsCover, KeptIsSmall}
use Rattle.gr_work.proofs.Halves.{middle_is, shorter, inside}

abbrev within : ℕ → ℕ → ℕ → ℕ
within lo hi index = cond (nat_le lo index && nat_lt index hi) 1 0

side_by_side : (lo mid hi index : ℕ) → lo ≤ mid → mid ≤ hi → within lo mid index + within mid hi index ≡ within lo hi index
side_by_side lo mid hi index p q = grind (arith, nat_tests)

cover_step : (k lo mid hi index : ℕ) (rest : List Range) → lo ≤ mid → mid ≤ hi → within lo k index + count_by (holds index) rest ≡ within lo mid index
    → within lo k index + count_by (holds index) (record { from = mid; to = hi } ∷ rest) ≡ within lo hi index
cover_step k lo mid hi index rest p q h =
    let upper : Range = record { from = mid; to = hi } in
    let first : count_by (holds index) (upper ∷ rest) ≡ within mid hi index + count_by (holds index) rest = sum_by-cons (λ (range : Range). cond (holds index range) 1 0) upper rest in
    omega (arith, first, side_by_side lo mid hi index p q, h)

add_none : (n : ℕ) → n + 0 ≡ n
add_none n = omega arith

cover_if : (b : Bool) (k lo mid hi index : ℕ) (rest : List Range) → (b ≡ true → (lo ≤ mid) × (mid ≤ hi) × (within lo k index + count_by (holds index) rest ≡ within lo mid index))
    → within lo (if b then k else hi) index + count_by (holds index) (if b then (record { from = mid; to = hi } ∷ rest) else []) ≡ within lo hi index
cover_if true k lo mid hi index rest h = cover_step k lo mid hi index rest ((h refl).0) ((h refl).1) ((h refl).2)
cover_if false k lo mid hi index rest h = add_none (within lo hi index)

covered : (f grain lo hi index : ℕ) → lo ≤ hi → within lo (kept_in f grain lo hi) index + count_by (holds index) (offered_in f grain lo hi) ≡ within lo hi index
unfolding offered_in kept_in
covered zero grain lo hi index p = add_none (within lo hi index)
covered (suc f) grain lo hi index p = cover_if (nat_lt grain (hi - lo)) (kept_in f grain lo (middle lo hi)) lo (middle lo hi) hi index (offered_in f grain lo (middle lo hi))
    (λ t. let l : lo ≤ middle lo hi = omega (arith, middle_is lo hi) in
    (l, omega (arith, middle_is lo hi), covered f grain lo (middle lo hi) index l))

small_if : (b : Bool) (k grain lo hi : ℕ) → (b ≡ true → (lo < k) × (k - lo ≤ grain)) → (b ≡ false → hi - lo ≤ grain) → lo < hi → (lo < (if b then k else hi)) × ((if b then k else hi) - lo ≤ grain)
small_if true k grain lo hi h g l = h refl
small_if false k grain lo hi h g l = (l, g refl)

small : (f grain lo hi : ℕ) → hi - lo ≤ f → lo < hi → 0 < grain → (lo < kept_in f grain lo hi) × (kept_in f grain lo hi - lo ≤ grain)
unfolding kept_in
small zero grain lo hi p l g = absurd (omega arith)
small (suc f) grain lo hi p l g = small_if (nat_lt grain (hi - lo)) (kept_in f grain lo (middle lo hi)) grain lo hi
    (λ t. let w : 1 < hi - lo = omega (arith, ltb-true grain (hi - lo) t) in
    small f grain lo (middle lo hi) (shorter f lo hi (omega arith) p) ((inside lo hi w).0) g)
    (λ t. omega (arith, ltb-false grain (hi - lo) t)) l

pub parts_cover : PartsCover
unfolding offered kept_end
parts_cover grain lo hi index p =
    let first : Range = record { from = lo; to = kept_end grain lo hi } in
    sum_by-cons (λ (range : Range). cond (holds index range) 1 0) first (offered grain lo hi) ∙ covered (hi - lo) grain lo hi index p

pub kept_small : KeptIsSmall
unfolding kept_end
kept_small grain lo hi l g = small (hi - lo) grain lo hi (omega arith) l g
