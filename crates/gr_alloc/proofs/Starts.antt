-- The first hole of at least n words starts where the least n free words do.
use Rattle.std.proofs.Common.{◌≡◌, ◌≢◌, ℕ, zero, suc, ◌+◌, ◌-◌, ◌<◌, ◌≤◌, Bool, true, false, cond, nat_le, List, length, slice_index, Option, Some, None, refl, sym, ap, ◌∙◌, subst, arith, ⊎_elim, ◌⊎◌, inl, inr, ◌||◌}
use Rattle.std.specs.Prelude.{position, ◌==◌, if◌then◌else◌, IfSome}
use Rattle.std.specs.Option.{option_map}
use Rattle.std.specs.List.{position_or_len}
use Rattle.std.proofs.lemmas.List.{get_or_past}
use Rattle.std.proofs.lemmas.List.Quantifiers.{position-Some}
use Rattle.std.proofs.lemmas.List.Sums.{fails_before_first}
use Rattle.std.specs.FinMap as map
use Rattle.std.proofs.lemmas.Bool.{cases_eq, cases_lt, eq-eqb, ne_eqb, leb-true, leb-false, lt-leb, lt-ltb}
use Rattle.std.proofs.lemmas.Bool.Decides.{nat_tests}
use Rattle.gr_lang.specs.Objects.{is_free, least_start, start_in}
use Rattle.gr_alloc.specs.CutView.{IsCut}
use Rattle.gr_alloc.specs.HoleView.{AreHoles, live_at, first_hole}
use Rattle.gr_alloc.specs.BlockView.{live_below}
use Rattle.gr_alloc.proofs.Free.{free_by, taken_by}
use Rattle.gr_alloc.proofs.Least.{least_at, least_none}
use Rattle.gr_alloc.proofs.Positions.{position_none}
use Rattle.gr_alloc.proofs.LiveMap.{get_place, get_outside, where_is}

-- the piece in which a place lies
pub piece_of : (sizes : List ℕ) (p : ℕ) → IsCut sizes → p < length sizes → (at : ℕ) × (at ≤ p) × (p < at + slice_index sizes at)
piece_of sizes zero cut inside = (0, omega arith, omega (arith, cut.begins inside))
piece_of sizes (suc p) cut inside =
    let before = piece_of sizes p cut (omega arith) in
    let at = before.0 in
    ⊎_elim
    (λ same. (at, omega (arith, before.1), same))
    (λ next.
    let end : at + slice_index sizes at ≡ suc p = omega (arith, before.2) in
    let some = cut.goes_on at (omega (arith, before.1, before.2)) (omega (arith, end)) in
    let here = ap (slice_index sizes) end in
    (suc p, omega arith, omega (arith, some)))
    (cases_lt (suc p) (at + slice_index sizes at))

-- what lives where a piece of so many words starts, with a hole of so many
abbrev block_of : ℕ → ℕ → Option ℕ
block_of hole size = if hole == 0 then (if size == 0 then None else Some size) else None

in_hole : (hole size : ℕ) → hole ≢ 0 → block_of hole size ≡ None
in_hole hole size some = ap (λ b. if b then (if size == 0 then None else Some size) else None) (ne_eqb hole 0 some)

in_full : (hole size : ℕ) → hole ≡ 0 → block_of hole size ≡ (if size == 0 then None else Some size)
in_full hole size full = ap (λ b. if b then (if size == 0 then None else Some size) else None) (eq-eqb hole 0 full)

in_none : (hole size : ℕ) → hole ≡ 0 → size ≡ 0 → block_of hole size ≡ None
in_none hole size full none = in_full hole size full ∙ ap (λ b. if b then None else Some size) (eq-eqb size 0 none)

in_block : (hole size : ℕ) → hole ≡ 0 → size ≢ 0 → block_of hole size ≡ Some size
in_block hole size full some = in_full hole size full ∙ ap (λ b. if b then None else Some size) (ne_eqb size 0 some)

full_of : (hole size w : ℕ) → block_of hole size ≡ Some w → hole ≡ 0
full_of hole size w is = ⊎_elim (λ full. full) (λ some. absurd (let e = in_hole hole size some in cc)) (cases_eq hole 0)

some_of : (hole size w : ℕ) → block_of hole size ≡ Some w → size ≢ 0
some_of hole size w is none = let e = in_none hole size (full_of hole size w is) none in cc

size_of : (hole size w : ℕ) → block_of hole size ≡ Some w → size ≡ w
size_of hole size w is = let e = in_block hole size (full_of hole size w is) (some_of hole size w is) in cc

live_block : (sizes holes : List ℕ) (k : ℕ) → slice_index holes k ≡ 0 → 0 < slice_index sizes k → live_at sizes holes k ≡ Some (slice_index sizes k)
live_block sizes holes k full some = in_block (slice_index holes k) (slice_index sizes k) full (λ e. absurd (omega arith))

-- a live block is a piece that is no hole
block_is : (sizes holes : List ℕ) (k w : ℕ) → live_at sizes holes k ≡ Some w → (slice_index holes k ≡ 0) × (slice_index sizes k ≡ w) × (0 < w)
block_is sizes holes k w is =
    let full = full_of (slice_index holes k) (slice_index sizes k) w is in
    let size = size_of (slice_index holes k) (slice_index sizes k) w is in
    let some = some_of (slice_index holes k) (slice_index sizes k) w is in
    (full, size, omega (arith, λ (e : slice_index sizes k ≡ 0). some e))

clear_either : (a b c d : ℕ) → (a ≤ b) ⊎ (c ≤ d) → (nat_le a b || nat_le c d) ≡ true
clear_either a b c d h = grind (arith, nat_tests)

-- a hole and a block have no word in common
off_hole : (sizes holes : List ℕ) (o j : ℕ) → AreHoles sizes holes → 0 < slice_index holes o → slice_index holes j ≡ 0 → 0 < slice_index sizes j → (o + slice_index holes o ≤ j) ⊎ (j + slice_index sizes j ≤ o)
off_hole sizes holes o j are hole full some =
    let size = are.pieces o hole in
    ⊎_elim
    (λ before. ⊎_elim
    (λ over. absurd (omega (arith, are.cut.alone j o before over, size)))
    (λ off. inr off)
    (cases_lt o (j + slice_index sizes j)))
    (λ from. ⊎_elim
    (λ same. let e = ap (slice_index holes) same in absurd (omega arith))
    (λ apart. ⊎_elim
    (λ over. absurd (omega (arith, are.cut.alone o j (omega (arith, λ (e : j ≡ o). apart e)) over)))
    (λ off. inl (omega arith))
    (cases_lt j (o + slice_index sizes o)))
    (cases_eq j o))
    (cases_lt j o)

-- a live block is a piece of the cut that is no hole
pub live_piece : (start : ℕ) (sizes holes : List ℕ) (at words : ℕ) → map.get (live_below start sizes holes (length sizes)) at ≡ Some words
    → (k : ℕ) × (at ≡ start + k) × (slice_index holes k ≡ 0) × (slice_index sizes k ≡ words) × (0 < words)
live_piece start sizes holes at words is =
    let live = live_below start sizes holes (length sizes) in
    ⊎_elim
    (λ low. absurd (let e = get_outside start sizes holes (length sizes) at (inl low) in cc))
    (λ rest. ⊎_elim
    (λ high. absurd (let e = get_outside start sizes holes (length sizes) at (inr high) in cc))
    (λ place.
    let block = block_is sizes holes place.0 words (sym (get_place start sizes holes (length sizes) place.0 place.2) ∙ sym (ap (map.get live) place.1) ∙ is) in
    (place.0, place.1, block.0, block.1, block.2))
    rest)
    (where_is start (length sizes) at)

pub free_in_hole : (start : ℕ) (sizes holes : List ℕ) (n o : ℕ) → AreHoles sizes holes → 0 < n → n ≤ slice_index holes o → is_free (live_below start sizes holes (length sizes)) (start + o) n ≡ true
free_in_hole start sizes holes n o are some fits =
    let live = live_below start sizes holes (length sizes) in
    free_by live (start + o) n (λ k w is.
    let piece = live_piece start sizes holes k w is in
    let j = piece.0 in
    clear_either (start + o + n) k (k + w) (start + o)
    (⊎_elim
    (λ behind. inl (omega (arith, piece.1)))
    (λ before. inr (omega (arith, piece.1, piece.3)))
    (off_hole sizes holes o j are (omega arith) piece.2 (omega (arith, piece.3, piece.4)))))

taken_block : (start : ℕ) (sizes holes : List ℕ) (n p k : ℕ) → slice_index holes k ≡ 0 → 0 < slice_index sizes k → k < length sizes → k < p + n → p < k + slice_index sizes k → is_free (live_below start sizes holes (length sizes)) (start + p) n ≡ false
taken_block start sizes holes n p k full some inside low high =
    taken_by (live_below start sizes holes (length sizes)) (start + p) n (start + k) (slice_index sizes k)
    (get_place start sizes holes (length sizes) k inside ∙ live_block sizes holes k full some)
    (omega arith) (omega arith)

-- where no hole up to a place has n words, n words from there on meet a live block
pub taken_past : (start : ℕ) (sizes holes : List ℕ) (n p : ℕ) → AreHoles sizes holes → 0 < n → p + n ≤ length sizes → ((o : ℕ) → o ≤ p → slice_index holes o < n) → is_free (live_below start sizes holes (length sizes)) (start + p) n ≡ false
taken_past start sizes holes n p are some inside small =
    let piece = piece_of sizes p are.cut (omega arith) in
    let o = piece.0 in
    let next = o + slice_index sizes o in
    let less = small o piece.1 in
    ⊎_elim
    (λ full. taken_block start sizes holes n p o full (omega (arith, piece.1, piece.2)) (omega (arith, piece.1)) (omega (arith, piece.1)) piece.2)
    (λ hole.
    let size = are.pieces o (omega (arith, λ (e : slice_index holes o ≡ 0). hole e)) in
    let apart = are.apart o (omega (arith, λ (e : slice_index holes o ≡ 0). hole e)) in
    let full : slice_index holes next ≡ 0 = ap (λ x. slice_index holes (o + x)) (sym size) ∙ apart in
    let low : next < length sizes = omega (arith, piece.1) in
    let more = are.cut.goes_on o (omega (arith, piece.1, piece.2)) low in
    taken_block start sizes holes n p next full more low (omega (arith, piece.1)) (omega (arith, piece.2)))
    (cases_eq (slice_index holes o) 0)

none_great : (holes : List ℕ) (n : ℕ) → 0 < n → position (λ size. nat_le n size) holes ≡ None → (k : ℕ) → slice_index holes k < n
none_great holes n some none k =
    let p : ℕ → Bool = λ size. nat_le n size in
    ⊎_elim
    (λ inside. ⊎_elim
    (λ found. absurd (let e = ap (λ b. cond b (Some (position_or_len p holes)) None) (lt-ltb (position_or_len p holes) (length holes) found) in cc))
    (λ past. leb-false n (slice_index holes k) (fails_before_first p holes k 0 (omega arith)))
    (cases_lt (position_or_len p holes) (length holes)))
    (λ outside. omega (arith, get_or_past holes k 0 outside))
    (cases_lt k (length holes))

least_of : (start : ℕ) (sizes holes : List ℕ) (n : ℕ) → AreHoles sizes holes → 0 < n → (first : Option ℕ) → position (λ size. nat_le n size) holes ≡ first → least_start (length sizes + 1 - n) (live_below start sizes holes (length sizes)) start n ≡ option_map (λ o. start + o) first
least_of start sizes holes n are some None is =
    let small = none_great holes n some is in
    least_none (length sizes + 1 - n) (live_below start sizes holes (length sizes)) start n (λ at low high.
    let p = at - start in
    let place : start + p ≡ at = omega arith in
    subst (λ x. is_free (live_below start sizes holes (length sizes)) x n ≡ false) place (taken_past start sizes holes n p are some (omega arith) (λ o _. small o)))
least_of start sizes holes n are some (Some o) is =
    let found = position-Some (λ size. nat_le n size) holes o 0 is in
    let great : n ≤ slice_index holes o = leb-true n (slice_index holes o) found.1 in
    let size = are.pieces o (omega arith) in
    let within = are.cut.within o (omega arith) in
    least_at (length sizes + 1 - n) o (live_below start sizes holes (length sizes)) start n (omega arith)
    (λ at low high.
    let p = at - start in
    let place : start + p ≡ at = omega arith in
    subst (λ x. is_free (live_below start sizes holes (length sizes)) x n ≡ false) place
    (taken_past start sizes holes n p are some (omega arith) (λ k before. leb-false n (slice_index holes k) (found.2 k (omega arith)))))
    (free_in_hole start sizes holes n o are some great)

pub first_is : (start : ℕ) (sizes holes : List ℕ) (n : ℕ) → AreHoles sizes holes → start_in (record { from = start; count = length sizes }) (live_below start sizes holes (length sizes)) n ≡ option_map (λ o. start + o) (first_hole holes n)
first_is start sizes holes n are =
    let least = least_start (length sizes + 1 - n) (live_below start sizes holes (length sizes)) start n in
    let first = position (λ size. nat_le n size) holes in
    ⊎_elim
    (λ none. ap (λ b. if b then None else least) (eq-eqb n 0 none) ∙ sym (ap (λ b. option_map (λ o. start + o) (if b then None else first)) (eq-eqb n 0 none)))
    (λ some.
    ap (λ b. if b then None else least) (ne_eqb n 0 some)
    ∙ least_of start sizes holes n are (omega (arith, λ (e : n ≡ 0). some e)) first refl
    ∙ sym (ap (λ b. option_map (λ o. start + o) (if b then None else first)) (ne_eqb n 0 some)))
    (cases_eq n 0)

-- no hole has more words than there are
pub none_over : (sizes holes : List ℕ) (n : ℕ) → AreHoles sizes holes → length sizes < n → first_hole holes n ≡ None
none_over sizes holes n are over =
    ap (λ b. if b then None else position (λ size. nat_le n size) holes) (ne_eqb n 0 (λ e. absurd (omega arith)))
    ∙ position_none (λ size. nat_le n size) holes (λ k inside.
    ⊎_elim
    (λ none. lt-leb n (slice_index holes k) (omega arith))
    (λ some.
    let size = are.pieces k (omega (arith, λ (e : slice_index holes k ≡ 0). some e)) in
    lt-leb n (slice_index holes k) (omega (arith, are.cut.within k)))
    (cases_eq (slice_index holes k) 0))

pub great_at : (holes : List ℕ) (n : ℕ) (r : Option ℕ) → r ≡ position (λ size. nat_le n size) holes → IfSome r (λ place. n ≤ slice_index holes place)
great_at holes n None is = tt
great_at holes n (Some o) is = leb-true n (slice_index holes o) (position-Some (λ size. nat_le n size) holes o 0 (sym is)).1

pub inside_at : (sizes holes : List ℕ) (n : ℕ) → AreHoles sizes holes → 0 < n → (r : Option ℕ) → r ≡ position (λ size. nat_le n size) holes → IfSome r (λ place. place + n ≤ length sizes)
inside_at sizes holes n are some None is = tt
inside_at sizes holes n are some (Some o) is =
    let great : n ≤ slice_index holes o = great_at holes n (Some o) is in
    let size = are.pieces o (omega arith) in
    omega (arith, are.cut.within o)

-- the start that a first hole gives
pub start_found : (start : ℕ) (sizes holes : List ℕ) (n : ℕ) → AreHoles sizes holes → (r : Option ℕ) → r ≡ first_hole holes n → option_map (λ o. start + o) r ≡ start_in (record { from = start; count = length sizes }) (live_below start sizes holes (length sizes)) n
start_found start sizes holes n are r is = ap (option_map (λ o. start + o)) is ∙ sym (first_is start sizes holes n are)
