-- One halving of a range at a time.
use Rattle.std.proofs.Common.{◌≡◌, ◌∙◌, ap, refl, sym, ℕ, zero, suc, ◌+◌, ◌-◌, ◌/◌, ◌<◌, ◌≤◌, Bool, true, false, nat_lt, List, [], ◌∷◌, ◌++◌, map, append_assoc, append-nil, if◌then◌else◌, arith, ltb-true}
use Rattle.std.proofs.lemmas.Bool.Decides.{nat_tests}
use Rattle.gr_work.specs.Parts.{Range, middle, offered_in, kept_in, offered, kept_end}

pub middle_is : (lo hi : ℕ) → middle lo hi ≡ lo + (hi - lo) / 2
unfolding middle
middle_is lo hi = refl

pub shorter : (f lo hi : ℕ) → 0 < hi - lo → hi - lo ≤ suc f → middle lo hi - lo ≤ f
shorter f lo hi p h = omega (arith, middle_is lo hi)

pub inside : (lo hi : ℕ) → 1 < hi - lo → (lo < middle lo hi) × (middle lo hi < hi)
inside lo hi p = let e = middle_is lo hi in (omega arith, omega arith)

choose : {X : Type 0} (b : Bool) (x y z w : X) → (b ≡ true → x ≡ z) → (b ≡ false → y ≡ w) → (if b then x else y) ≡ (if b then z else w)
choose true x y z w h k = h refl
choose false x y z w h k = k refl

choose_true : {X : Type 0} (b : Bool) (x y : X) → b ≡ true → (if b then x else y) ≡ x
choose_true true x y h = refl
choose_true false x y h = absurd (cc)

choose_false : {X : Type 0} (b : Bool) (x y : X) → b ≡ false → (if b then x else y) ≡ y
choose_false true x y h = absurd (cc)
choose_false false x y h = refl

is_more : (grain lo hi : ℕ) → grain < hi - lo → nat_lt grain (hi - lo) ≡ true
is_more grain lo hi h = grind (arith, nat_tests)

is_done : (grain lo hi : ℕ) → hi - lo ≤ grain → nat_lt grain (hi - lo) ≡ false
is_done grain lo hi h = grind (arith, nat_tests)

-- More halvings than indices change nothing.
offered_same : (f g grain lo hi : ℕ) → hi - lo ≤ f → hi - lo ≤ g → offered_in f grain lo hi ≡ offered_in g grain lo hi
unfolding offered_in
offered_same zero zero grain lo hi p q = refl
offered_same zero (suc g) grain lo hi p q = sym (choose_false (nat_lt grain (hi - lo)) _ _ (is_done grain lo hi (omega arith)))
offered_same (suc f) zero grain lo hi p q = choose_false (nat_lt grain (hi - lo)) _ _ (is_done grain lo hi (omega arith))
offered_same (suc f) (suc g) grain lo hi p q = choose (nat_lt grain (hi - lo)) _ _ _ _
    (λ t. let l : 0 < hi - lo = omega (arith, ltb-true grain (hi - lo) t) in
    ap (λ (rest : List Range). record { from = middle lo hi; to = hi } ∷ rest) (offered_same f g grain lo (middle lo hi) (shorter f lo hi l p) (shorter g lo hi l q)))
    (λ t. refl)

kept_same : (f g grain lo hi : ℕ) → hi - lo ≤ f → hi - lo ≤ g → kept_in f grain lo hi ≡ kept_in g grain lo hi
unfolding kept_in
kept_same zero zero grain lo hi p q = refl
kept_same zero (suc g) grain lo hi p q = sym (choose_false (nat_lt grain (hi - lo)) _ _ (is_done grain lo hi (omega arith)))
kept_same (suc f) zero grain lo hi p q = choose_false (nat_lt grain (hi - lo)) _ _ (is_done grain lo hi (omega arith))
kept_same (suc f) (suc g) grain lo hi p q = choose (nat_lt grain (hi - lo)) _ _ _ _
    (λ t. let l : 0 < hi - lo = omega (arith, ltb-true grain (hi - lo) t) in kept_same f g grain lo (middle lo hi) (shorter f lo hi l p) (shorter g lo hi l q))
    (λ t. refl)

offered_once : (f grain lo hi : ℕ) → grain < hi - lo → offered_in (suc f) grain lo hi ≡ (record { from = middle lo hi; to = hi } ∷ offered_in f grain lo (middle lo hi))
unfolding offered_in
offered_once f grain lo hi h = choose_true (nat_lt grain (hi - lo)) _ _ (is_more grain lo hi h)

kept_once : (f grain lo hi : ℕ) → grain < hi - lo → kept_in (suc f) grain lo hi ≡ kept_in f grain lo (middle lo hi)
unfolding kept_in
kept_once f grain lo hi h = choose_true (nat_lt grain (hi - lo)) _ _ (is_more grain lo hi h)

offered_more : (grain lo hi : ℕ) → grain < hi - lo → offered grain lo hi ≡ (record { from = middle lo hi; to = hi } ∷ offered grain lo (middle lo hi))
unfolding offered
offered_more grain lo hi h =
    let l : 0 < hi - lo = omega arith in
    offered_same (hi - lo) (suc (hi - lo)) grain lo hi (omega arith) (omega arith) ∙ offered_once (hi - lo) grain lo hi h
    ∙ ap (λ (rest : List Range). record { from = middle lo hi; to = hi } ∷ rest) (offered_same (hi - lo) (middle lo hi - lo) grain lo (middle lo hi) (shorter (hi - lo) lo hi l (omega arith)) (omega arith))

pub kept_more : (grain lo hi : ℕ) → grain < hi - lo → kept_end grain lo hi ≡ kept_end grain lo (middle lo hi)
unfolding kept_end
kept_more grain lo hi h =
    let l : 0 < hi - lo = omega arith in
    kept_same (hi - lo) (suc (hi - lo)) grain lo hi (omega arith) (omega arith) ∙ kept_once (hi - lo) grain lo hi h
    ∙ kept_same (hi - lo) (middle lo hi - lo) grain lo (middle lo hi) (shorter (hi - lo) lo hi l (omega arith)) (omega arith)

offered_last : (f grain lo hi : ℕ) → hi - lo ≤ grain → offered_in f grain lo hi ≡ []
unfolding offered_in
offered_last zero grain lo hi h = refl
offered_last (suc f) grain lo hi h = choose_false (nat_lt grain (hi - lo)) _ _ (is_done grain lo hi h)

kept_last : (f grain lo hi : ℕ) → hi - lo ≤ grain → kept_in f grain lo hi ≡ hi
unfolding kept_in
kept_last zero grain lo hi h = refl
kept_last (suc f) grain lo hi h = choose_false (nat_lt grain (hi - lo)) _ _ (is_done grain lo hi h)

offered_done : (grain lo hi : ℕ) → hi - lo ≤ grain → offered grain lo hi ≡ []
unfolding offered
offered_done grain lo hi h = offered_last (hi - lo) grain lo hi h

pub kept_done : (grain lo hi : ℕ) → hi - lo ≤ grain → kept_end grain lo hi ≡ hi
unfolding kept_end
kept_done grain lo hi h = kept_last (hi - lo) grain lo hi h

-- What is offered once more is the first of what was left to offer.
pub offered_step : {U : Type 0} (us news vs : List U) (f : Range → U) (value : U) (grain lo hi half : ℕ) → grain < hi - lo → half ≡ middle lo hi → value ≡ f (record { from = half; to = hi })
    → news ≡ us ++ value ∷ [] → us ++ map f (offered grain lo hi) ≡ vs → news ++ map f (offered grain lo half) ≡ vs
offered_step {U = U} us news vs f value grain lo hi half h eh ev en e =
    let behind : List U → List U = λ xs. xs ++ map f (offered grain lo half) in
    let before : List U → List U = λ ys. us ++ ys in
    let with_value : U → List U = λ v. v ∷ map f (offered grain lo half) in
    let with_half : ℕ → List U = λ m. f (record { from = m; to = hi }) ∷ map f (offered grain lo m) in
    ap behind en ∙ append_assoc us (value ∷ []) (map f (offered grain lo half)) ∙ ap before (ap with_value ev ∙ ap with_half eh ∙ ap (map f) (sym (offered_more grain lo hi h))) ∙ e

-- Nothing is left to offer.
pub offered_rest : {U : Type 0} (us vs : List U) (f : Range → U) (grain lo hi : ℕ) → hi - lo ≤ grain → us ++ map f (offered grain lo hi) ≡ vs → us ≡ vs
offered_rest {U = U} us vs f grain lo hi h e =
    let behind : List Range → List U = λ ranges. us ++ map f ranges in
    sym (append-nil us) ∙ sym (ap behind (offered_done grain lo hi h)) ∙ e

pub ruleset by_halves = (middle_is, kept_done)
