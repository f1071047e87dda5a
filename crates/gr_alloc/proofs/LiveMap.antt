-- What the map of the live blocks answers, and that it changes as the pieces do.
use Rattle.std.proofs.Common.{◌≡◌, ◌≢◌, ℕ, zero, suc, ◌+◌, ◌-◌, ◌<◌, ◌≤◌, true, false, cond, List, length, Some, None, refl, sym, ap, ◌∙◌, arith, ⊎_elim, ◌⊎◌, inl, inr}
use Rattle.std.specs.Prelude.{Option, is_some, if◌then◌else◌, nat_lt, ◌&&◌}
use Rattle.std.specs.Ordering.{nat_cmp, eq_by_cmp}
use Rattle.std.specs.Cmp.{nat_cmp_total, unsigned_tied}
use Rattle.std.specs.FinMap as map
use Rattle.std.proofs.lemmas.Bool.{cases_eq, cases_lt, eq-eqb, ne_eqb, false≢true, lt-leb, le-leb, lt-ltb, le-ltb}
use Rattle.gr_alloc.specs.HeapBlocks.{HeapBlocks}
use Rattle.gr_alloc.specs.HoleView.{Changes, live_at, place_in}
use Rattle.gr_alloc.specs.BlockView.{live_below, with_live}

abbrev Live : Type 0
Live = map.FinMap nat_cmp ℕ

same_key : (q k : ℕ) → q ≡ k → eq_by_cmp nat_cmp q k ≡ true
same_key q k e = unsigned_tied q k ∙ eq-eqb q k e

other_key : (q k : ℕ) → q ≢ k → eq_by_cmp nat_cmp q k ≡ false
other_key q k e = unsigned_tied q k ∙ ne_eqb q k e

get_with : (live : Live) (start : ℕ) (block : Option ℕ) → map.get live start ≡ None → map.get (with_live live start block) start ≡ block
get_with live start None none = none
get_with live start (Some words) none = map.get-insert nat_cmp_total live start words start ∙ ap (λ b. cond b (Some words) (map.get live start)) (same_key start start refl)

get_with_other : (live : Live) (start q : ℕ) (block : Option ℕ) → q ≢ start → map.get (with_live live start block) q ≡ map.get live q
get_with_other live start q None apart = refl
get_with_other live start q (Some words) apart = map.get-insert nat_cmp_total live start words q ∙ ap (λ b. cond b (Some words) (map.get live q)) (other_key q start apart)

-- no live block starts off the places
pub get_outside : (start : ℕ) (sizes holes : List ℕ) (n q : ℕ) → (q < start) ⊎ (start + n ≤ q) → map.get (live_below start sizes holes n) q ≡ None
unfolding live_below
get_outside start sizes holes zero q out = map.get-empty nat_cmp q
get_outside start sizes holes (suc n) q out =
    let apart : q ≢ start + n = λ e. absurd (⊎_elim (λ low. omega arith) (λ high. omega arith) out) in
    let rest : (q < start) ⊎ (start + n ≤ q) = ⊎_elim (λ low. inl low) (λ high. inr (omega arith)) out in
    get_with_other (live_below start sizes holes n) (start + n) q (live_at sizes holes n) apart ∙ get_outside start sizes holes n q rest

pub get_place : (start : ℕ) (sizes holes : List ℕ) (n k : ℕ) → k < n → map.get (live_below start sizes holes n) (start + k) ≡ live_at sizes holes k
unfolding live_below
get_place start sizes holes zero k inside = absurd (omega (arith, inside))
get_place start sizes holes (suc n) k inside =
    ⊎_elim
    (λ same.
    let here : start + k ≡ start + n = ap (λ x. start + x) same in
    ap (map.get (with_live (live_below start sizes holes n) (start + n) (live_at sizes holes n))) here
    ∙ get_with (live_below start sizes holes n) (start + n) (live_at sizes holes n) (get_outside start sizes holes n (start + n) (inr (omega arith)))
    ∙ ap (live_at sizes holes) (sym same))
    (λ apart.
    get_with_other (live_below start sizes holes n) (start + n) (start + k) (live_at sizes holes n) (λ e. apart (omega (arith, e)))
    ∙ get_place start sizes holes n k (omega (arith, inside, λ (e : k ≡ n). apart e)))
    (cases_eq k n)

-- the live blocks with another one at an address, or none
abbrev pub with_change : Live → ℕ → Option ℕ → Live
with_change live start None = map.remove live start
with_change live start (Some words) = map.insert live start words

get_changed : (live : Live) (start q : ℕ) (block : Option ℕ) → map.get (with_change live start block) q ≡ cond (eq_by_cmp nat_cmp q start) block (map.get live q)
get_changed live start q None = map.get-remove nat_cmp_total live start q
get_changed live start q (Some words) = map.get-insert nat_cmp_total live start words q

abbrev Alike : Live → Live → ℕ → ℕ → Type 0
Alike before now start q = map.get now q ≡ map.get before q

pub where_is : (start n q : ℕ) → (q < start) ⊎ ((start + n ≤ q) ⊎ ((k : ℕ) × (q ≡ start + k) × (k < n)))
where_is start n q =
    ⊎_elim
    (λ low. inl low)
    (λ from. ⊎_elim
    (λ inside. inr (inr (q - start, omega arith, omega arith)))
    (λ high. inr (inl high))
    (cases_lt q (start + n)))
    (cases_lt q start)

-- the map changes at one place as the pieces do
pub changed_map : (start : ℕ) (s h s' h' : List ℕ) (n at : ℕ) (block : Option ℕ) → Changes s h s' h' at block → at < n → live_below start s' h' n ≡ with_change (live_below start s h n) (start + at) block
changed_map start s h s' h' n at block change inside =
    map.same_map nat_cmp_total map.nat_cmp-IsAntisymmetric _ _ (λ q.
    let before = live_below start s h n in
    let after = get_changed before (start + at) q block in
    ⊎_elim
    (λ low. get_outside start s' h' n q (inl low) ∙ sym (get_outside start s h n q (inl low)) ∙ sym (ap (λ b. cond b block (map.get before q)) (other_key q (start + at) (λ e. absurd (omega arith)))) ∙ sym after)
    (λ rest. ⊎_elim
    (λ high. get_outside start s' h' n q (inr high) ∙ sym (get_outside start s h n q (inr high)) ∙ sym (ap (λ b. cond b block (map.get before q)) (other_key q (start + at) (λ e. absurd (omega arith)))) ∙ sym after)
    (λ place.
    let k = place.0 in
    let new : map.get (live_below start s' h' n) q ≡ live_at s' h' k = ap (map.get (live_below start s' h' n)) place.1 ∙ get_place start s' h' n k place.2 in
    let old : map.get before q ≡ live_at s h k = ap (map.get before) place.1 ∙ get_place start s h n k place.2 in
    ⊎_elim
    (λ same. new ∙ ap (live_at s' h') same ∙ change.here ∙ sym (ap (λ b. cond b block (map.get before q)) (same_key q (start + at) (place.1 ∙ ap (λ x. start + x) same))) ∙ sym after)
    (λ apart. new ∙ change.others k apart ∙ sym old ∙ sym (ap (λ b. cond b block (map.get before q)) (other_key q (start + at) (λ e. apart (omega (arith, e, place.1))))) ∙ sym after)
    (cases_eq k at))
    rest)
    (where_is start n q))

abbrev pub heap_of : ℕ → List ℕ → List ℕ → HeapBlocks
heap_of start s h = record { heap = record { from = start; count = length s }; live = live_below start s h (length s) }

-- the heap with its live blocks changes at one place as the pieces do
pub changed_heap : (start : ℕ) (s h s' h' : List ℕ) (at : ℕ) (block : Option ℕ) → Changes s h s' h' at block → length s' ≡ length s → at < length s → heap_of start s' h' ≡ record { heap = record { from = start; count = length s }; live = with_change (live_below start s h (length s)) (start + at) block }
changed_heap start s h s' h' at block change same inside =
    let live = ap (live_below start s' h') same ∙ changed_map start s h s' h' (length s) at block change inside in
    λ i. record { heap = record { from = start; count = same i }; live = live i }

place_cases : (start n at p : ℕ) → place_in (record { from = start; count = n }) at ≡ Some p → (at ≡ start + p) × (p < n)
place_cases start n at p is =
    ⊎_elim
    (λ low. absurd (let e = ap (λ b. if b && nat_lt at (start + n) then Some (at - start) else None) (lt-leb start at low) in cc))
    (λ from. ⊎_elim
    (λ inside.
    let a = ap (λ b. if b && nat_lt at (start + n) then Some (at - start) else None) (le-leb start at from) in
    let b = ap (λ b. if b then Some (at - start) else None) (lt-ltb at (start + n) inside) in
    let e : at - start ≡ p = cc in
    (omega arith, omega arith))
    (λ past. absurd (let a = ap (λ b. if b && nat_lt at (start + n) then Some (at - start) else None) (le-leb start at from) in let b = ap (λ b. if b then Some (at - start) else None) (le-ltb at (start + n) past) in cc))
    (cases_lt at (start + n)))
    (cases_lt at start)

outside_cases : (start n at : ℕ) → place_in (record { from = start; count = n }) at ≡ None → (at < start) ⊎ (start + n ≤ at)
outside_cases start n at is =
    ⊎_elim
    (λ low. inl low)
    (λ from. ⊎_elim
    (λ inside. absurd (
    let a = ap (λ b. if b && nat_lt at (start + n) then Some (at - start) else None) (le-leb start at from) in
    let b = ap (λ b. if b then Some (at - start) else None) (lt-ltb at (start + n) inside) in cc))
    (λ past. inr past)
    (cases_lt at (start + n)))
    (cases_lt at start)

-- the live block that starts at an address of the heap
pub live_of_place : (start : ℕ) (s h : List ℕ) (at p : ℕ) → place_in (record { from = start; count = length s }) at ≡ Some p → map.get (live_below start s h (length s)) at ≡ live_at s h p
live_of_place start s h at p is =
    let place = place_cases start (length s) at p is in
    ap (map.get (live_below start s h (length s))) place.0 ∙ get_place start s h (length s) p place.1

pub live_of_none : (start : ℕ) (s h : List ℕ) (at : ℕ) → place_in (record { from = start; count = length s }) at ≡ None → map.get (live_below start s h (length s)) at ≡ None
live_of_none start s h at is = get_outside start s h (length s) at (outside_cases start (length s) at is)

pub address_of : (start n at p : ℕ) → place_in (record { from = start; count = n }) at ≡ Some p → start + p ≡ at
address_of start n at p is = sym (place_cases start n at p is).0

pub remove_none : (live : Live) (at : ℕ) → map.get live at ≡ None → live ≡ map.remove live at
remove_none live at none =
    map.same_map nat_cmp_total map.nat_cmp-IsAntisymmetric _ _ (λ q.
    let after = map.get-remove nat_cmp_total live at q in
    ⊎_elim
    (λ same. ap (map.get live) same ∙ none ∙ sym (ap (λ b. cond b None (map.get live q)) (same_key q at same)) ∙ sym after)
    (λ apart. sym (ap (λ b. cond b None (map.get live q)) (other_key q at apart)) ∙ sym after)
    (cases_eq q at))

-- there is a live block exactly where the pieces have one
pub is_some_none : (block : Option ℕ) → false ≡ is_some block → block ≡ None
is_some_none None is = refl
is_some_none (Some w) is = absurd (false≢true is)

-- a heap without live blocks
pub live_empty : (start : ℕ) (s h : List ℕ) (n : ℕ) → ((k : ℕ) → live_at s h k ≡ None) → live_below start s h n ≡ map.empty
unfolding live_below
live_empty start s h zero none = refl
live_empty start s h (suc n) none = ap (with_live (live_below start s h n) (start + n)) (none n) ∙ live_empty start s h n none
