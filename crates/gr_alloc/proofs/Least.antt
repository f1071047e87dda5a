-- The least start at which so many words are free, found past the starts at which they are not.
use Rattle.std.proofs.Common.{◌≡◌, ℕ, zero, suc, ◌+◌, ◌-◌, ◌<◌, ◌≤◌, false, true, Some, None, refl, ap, ◌∙◌, arith, if◌then◌else◌}
use Rattle.std.specs.Ordering.{nat_cmp}
use Rattle.std.specs.FinMap as map
use Rattle.gr_lang.specs.Objects.{is_free, least_start}

abbrev Live : Type 0
Live = map.FinMap nat_cmp ℕ

-- at no start from `start` to before `end` are n words free
abbrev pub AreTaken : Live → ℕ → ℕ → ℕ → Type 0
AreTaken live start end n = (at : ℕ) → start ≤ at → at < end → is_free live at n ≡ false

jump : (k turns : ℕ) (live : Live) (start n : ℕ) → AreTaken live start (start + k) n → least_start turns live start n ≡ least_start (turns - k) live (start + k) n
unfolding least_start
jump zero turns live start n h =
    let e : turns ≡ turns - 0 = omega arith in
    let z : start ≡ start + 0 = omega arith in
    λ i. least_start (e i) live (z i) n
jump (suc k) zero live start n h = let e : 0 - suc k ≡ 0 = omega arith in rw e refl
jump (suc k) (suc turns) live start n h =
    let here : is_free live start n ≡ false = h start (omega arith) (omega arith) in
    let e : turns - k ≡ suc turns - suc k = omega arith in
    let z : start + 1 + k ≡ start + suc k = omega arith in
    ap (λ b. if b then Some start else least_start turns live (start + 1) n) here
    ∙ jump k turns live (start + 1) n (λ at low high. h at (omega (arith, low)) (omega (arith, high)))
    ∙ (λ i. least_start (e i) live (z i) n)

here_is : (turns : ℕ) (live : Live) (start n : ℕ) → 0 < turns → is_free live start n ≡ true → least_start turns live start n ≡ Some start
unfolding least_start
here_is zero live start n lt h = absurd (omega (arith, lt))
here_is (suc turns) live start n lt h = ap (λ b. if b then Some start else least_start turns live (start + 1) n) h

none_is : (turns : ℕ) (live : Live) (start n : ℕ) → turns ≡ 0 → least_start turns live start n ≡ None
unfolding least_start
none_is turns live start n e = rw e refl

-- n words are free k words after `start`, and at no start before
pub least_at : (turns k : ℕ) (live : Live) (start n : ℕ) → k < turns → AreTaken live start (start + k) n → is_free live (start + k) n ≡ true → least_start turns live start n ≡ Some (start + k)
least_at turns k live start n inside taken free = jump k turns live start n taken ∙ here_is (turns - k) live (start + k) n (omega arith) free

pub least_none : (turns : ℕ) (live : Live) (start n : ℕ) → AreTaken live start (start + turns) n → least_start turns live start n ≡ None
least_none turns live start n taken = jump turns turns live start n taken ∙ none_is (turns - turns) live (start + turns) n (omega arith)
