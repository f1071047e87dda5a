-- Laws of functions with another value at one number, of sums, and of facts of each item.
use Rattle.std.proofs.Common.{◌≡◌, ◌≢◌, ◌⊎◌, ℕ, zero, suc, ◌+◌, ◌<◌, ◌≤◌, List, [], ◌∷◌, ◌++◌, take, drop, sym, ◌∙◌, ap, subst, refl, arith, inl, inr}
use Rattle.std.proofs.lemmas.Bool.Decides.{nat_tests}
use Rattle.std.proofs.lemmas.Bool.{cases_eq}
use Rattle.gr_view.specs.Places.{put}
use Rattle.gr_net.specs.Sums.{total, weigh, Each}

pub put_same : {X : Type 0} (f : ℕ → X) (k : ℕ) (x : X) → put f k x k ≡ x
unfolding put
put_same f k x = grind (arith, nat_tests)

pub put_at : {X : Type 0} (f : ℕ → X) (k : ℕ) (x : X) (i : ℕ) → i ≡ k → put f k x i ≡ x
unfolding put
put_at f k x i e = grind (arith, nat_tests)

pub put_other : {X : Type 0} (f : ℕ → X) (k : ℕ) (x : X) (i : ℕ) → i ≢ k → put f k x i ≡ f i
unfolding put
put_other f k x i e = grind (arith, nat_tests)

-- for `grind`: both cases of a changed place
pub put_tells : {X : Type 0} (f : ℕ → X) (k : ℕ) (x : X) (i : ℕ) → ((put f k x i ≡ x) × (i ≡ k)) ⊎ ((put f k x i ≡ f i) × (i ≢ k))
put_tells f k x i = elim (cases_eq i k) [ inl e ↦ inl (put_at f k x i e, e) | inr ne ↦ inr (put_other f k x i ne, ne) ]

-- a fact of each place
pub put_each : {X : Type 0} (Q : ℕ → X → Type 0) (f : ℕ → X) (k : ℕ) (x : X) (i : ℕ) → (i ≡ k → Q i x) → (i ≢ k → Q i (f i)) → Q i (put f k x i)
put_each Q f k x i here there = elim (cases_eq i k) [ inl e ↦ subst (Q i) (sym (put_at f k x i e)) (here e) | inr ne ↦ subst (Q i) (sym (put_other f k x i ne)) (there ne) ]

-- a function of one place and what stands there
pub total_same : (F G : ℕ → ℕ) → (n : ℕ) → ((i : ℕ) → i < n → F i ≡ G i) → total n F ≡ total n G
total_same F G zero e = refl
total_same F G (suc n) e = omega (arith, total_same F G n (λ i l. e i (omega arith)), e n (omega arith))

module _ {X : Type 0} (F : ℕ → X → ℕ) (f : ℕ → X) (k : ℕ) (x : X) where
  pub total_put_past : (n : ℕ) → n ≤ k → total n (λ i. F i (put f k x i)) ≡ total n (λ i. F i (f i))
  total_put_past n l = total_same (λ i. F i (put f k x i)) (λ i. F i (f i)) n (λ i b. ap (F i) (put_other f k x i (omega arith)))

  pub total_put : (n : ℕ) → k < n → total n (λ i. F i (put f k x i)) + F k (f k) ≡ total n (λ i. F i (f i)) + F k x
  total_put zero l = absurd (omega arith)
  total_put (suc n) l = elim (cases_eq n k) [
    | inl e ↦ omega (arith, total_put_past n (omega arith), ap (F n) (put_at f k x n e), ap (λ (j : ℕ). F j x) e, ap (λ (j : ℕ). F j (f j)) e)
    | inr ne ↦ omega (arith, total_put n (omega arith), ap (F n) (put_other f k x n ne))
  ]

pub total_zero : (F : ℕ → ℕ) (n : ℕ) → total n F ≡ 0 → (i : ℕ) → i < n → F i ≡ 0
total_zero F zero e i l = absurd (omega arith)
total_zero F (suc n) e i l = elim (cases_eq i n) [ inl q ↦ subst (λ (j : ℕ). F j ≡ 0) (sym q) (omega arith) | inr ne ↦ total_zero F n (omega arith) i (omega arith) ]

pub weigh-append : {X : Type 0} (h : X → ℕ) (xs ys : List X) → weigh h (xs ++ ys) ≡ weigh h xs + weigh h ys
weigh-append h [] ys = omega arith
weigh-append h (x ∷ xs) ys = omega (arith, weigh-append h xs ys)

pub weigh-take-drop : {X : Type 0} (h : X → ℕ) (n : ℕ) (xs : List X) → weigh h (take n xs) + weigh h (drop n xs) ≡ weigh h xs
weigh-take-drop h zero xs = omega arith
weigh-take-drop h (suc n) [] = omega arith
weigh-take-drop h (suc n) (x ∷ xs) = omega (arith, weigh-take-drop h n xs)

pub Each-append : {X : Type 0} (P : X → Type 0) (xs ys : List X) → Each P xs → Each P ys → Each P (xs ++ ys)
Each-append P [] ys a b = b
Each-append P (x ∷ xs) ys a b = (a.0, Each-append P xs ys a.1 b)

pub Each-take : {X : Type 0} (P : X → Type 0) (n : ℕ) (xs : List X) → Each P xs → Each P (take n xs)
Each-take P zero xs a = tt
Each-take P (suc n) [] a = tt
Each-take P (suc n) (x ∷ xs) a = (a.0, Each-take P n xs a.1)

pub Each-drop : {X : Type 0} (P : X → Type 0) (n : ℕ) (xs : List X) → Each P xs → Each P (drop n xs)
Each-drop P zero xs a = a
Each-drop P (suc n) [] a = tt
Each-drop P (suc n) (x ∷ xs) a = Each-drop P n xs a.1

pub Each-weaker : {X : Type 0} (P Q R : X → Type 0) → ((x : X) → P x → Q x → R x) → (xs : List X) → Each P xs → Each Q xs → Each R xs
Each-weaker P Q R f [] a b = tt
Each-weaker P Q R f (x ∷ xs) a b = (f x a.0 b.0, Each-weaker P Q R f xs a.1 b.1)

pub Each-zero : {X : Type 0} (h : X → ℕ) (xs : List X) → weigh h xs ≡ 0 → Each (λ x. h x ≡ 0) xs
Each-zero h [] e = tt
Each-zero h (x ∷ xs) e = (omega arith, Each-zero h xs (omega arith))

pub Each-map : {X : Type 0} (P Q : X → Type 0) → ((x : X) → P x → Q x) → (xs : List X) → Each P xs → Each Q xs
Each-map P Q f [] a = tt
Each-map P Q f (x ∷ xs) a = (f x a.0, Each-map P Q f xs a.1)

pub total_one : (F : ℕ → ℕ) (n i : ℕ) → i < n → F i ≤ total n F
total_one F zero i l = absurd (omega arith)
total_one F (suc n) i l = elim (cases_eq i n) [ inl q ↦ omega (arith, ap F q) | inr ne ↦ omega (arith, total_one F n i (omega arith)) ]

pub total_two : (F : ℕ → ℕ) (n i j : ℕ) → i < n → j < n → i ≢ j → F i + F j ≤ total n F
total_two F zero i j l m ne = absurd (omega arith)
total_two F (suc n) i j l m ne = elim (cases_eq i n) [
  | inl q ↦ omega (arith, ap F q, total_one F n j (omega arith))
  | inr p ↦ elim (cases_eq j n) [
    | inl q ↦ omega (arith, ap F q, total_one F n i (omega arith))
    | inr r ↦ omega (arith, total_two F n i j (omega arith) (omega arith) ne)
  ]
]

pub total_none : (F : ℕ → ℕ) (n : ℕ) → ((i : ℕ) → i < n → F i ≡ 0) → total n F ≡ 0
total_none F zero e = refl
total_none F (suc n) e = omega (arith, total_none F n (λ i l. e i (omega arith)), e n (omega arith))

pub weigh_none : {X : Type 0} (h : X → ℕ) (xs : List X) → Each (λ x. h x ≡ 0) xs → weigh h xs ≡ 0
weigh_none h [] e = refl
weigh_none h (x ∷ xs) e = omega (arith, e.0, weigh_none h xs e.1)

pub Each-all : {X : Type 0} (n : ℕ) (P : ℕ → X → Type 0) (xs : List X) → ((i : ℕ) → i < n → Each (P i) xs) → Each (λ x. (i : ℕ) → i < n → P i x) xs
Each-all n P [] e = tt
Each-all n P (x ∷ xs) e = (λ i l. (e i l).0, Each-all n P xs (λ i l. (e i l).1))

pub put_field : {X Y : Type 0} (F : X → Y) (f : ℕ → X) (k : ℕ) (x : X) → F x ≡ F (f k) → (i : ℕ) → F (put f k x i) ≡ F (f i)
put_field F f k x e i = put_each (λ i y. F y ≡ F (f i)) f k x i (λ q. e ∙ ap (λ j. F (f j)) (sym q)) (λ q. refl)
