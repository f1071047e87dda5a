-- The one turn that is out, and what messages of elements weigh.
use Rattle.std.proofs.Common.{◌≡◌, ◌≢◌, ℕ, zero, suc, ◌+◌, ◌≤◌, ◌<◌, ◌==◌, ◌&&◌, ◌||◌, Bool, true, false, if◌then◌else◌, List, [], ◌∷◌, inl, inr, sym, ◌∙◌, ap, subst, refl, arith, Option, Some, None}
use Rattle.std.proofs.lemmas.Bool.{cases_eq}
use Rattle.std.proofs.lemmas.Bool.Decides.{nat_tests}
use Rattle.std.specs.List.{list_any}
use Rattle.std.specs.Option.{option_len}
use Rattle.gr_lang.specs.Expressions.{number_of}
use Rattle.gr_view.specs.Places.{put}
use Rattle.gr_net.specs.Sums.{total, weigh}
use Rattle.gr_net.proofs.Spreads.{put_each, total_put, total_none, total_one}
use Rattle.gr_machine.specs.States.{Turn, Vector, Body}
use Rattle.gr_stands.specs.Worlds.{Given}
use Rattle.gr_lines_turns.specs.Tokens.{vector_at, turn_at}
use Rattle.gr_elements_plans.specs.Positions.{puts_at, gets_at}
use Rattle.gr_elements.specs.Weights.{is_that, of_turn}
use Rattle.gr_elements.specs.Elements.{in_turns}

pub none_some : {X : Type 0} (x : X) → None ≡ Some x → ⊥
none_some x e = cc

pub some_same : {X : Type 0} (x y : X) → Some x ≡ Some y → x ≡ y
some_same x y e = cc

pub true_false : true ≡ false → ⊥
true_false e = cc

pub self_eq : (n : ℕ) → (n == n) ≡ true
self_eq n = grind (arith, nat_tests)

pub not_eq : (a b : ℕ) → a ≢ b → (a == b) ≡ false
not_eq a b ne = grind (arith, nat_tests)

-- ---- sums over turns

pub none_of : (f : Turn → ℕ) (o : Option Turn) → option_len o ≡ 0 → of_turn f o ≡ 0
none_of f None z = refl
none_of f (Some t) z = absurd (omega (arith, z))

module _ (given : Given) (number : ℕ) (A : ℕ → Body) (f : Turn → ℕ) where
  pub none_in : ((core : ℕ) → turn_at number A core ≡ 0) → in_turns given number A f ≡ 0
  none_in z = total_none (λ core. of_turn f (vector_at number A core).turn) given.setup.cores (λ i l. none_of f (vector_at number A i).turn (z i))

  -- Where only one core may have the turn, the sum is that of its turn.
  pub one_in : (me : ℕ) → me < given.setup.cores → ((core : ℕ) → core ≢ me → turn_at number A core ≡ 0) → in_turns given number A f ≡ of_turn f (vector_at number A me).turn
  one_in me here z = omega (
    arith,
    total_put (λ (i x : ℕ). x) (λ i. of_turn f (vector_at number A i).turn) me 0 given.setup.cores here,
    total_none (λ i. put (λ i. of_turn f (vector_at number A i).turn) me 0 i) given.setup.cores
        (λ i l. put_each (λ (i x : ℕ). x ≡ 0) (λ i. of_turn f (vector_at number A i).turn) me 0 i (λ q. refl) (λ ne. none_of f (vector_at number A i).turn (z i ne))),
  )

-- ---- what weighs one

pub that_is : (number at : ℕ) → is_that number at number at ≡ suc zero
that_is number at = grind (arith, nat_tests)

pub that_by : (number position at : ℕ) → is_that number position number at ≡ (if position == at then 1 else zero)
that_by number position at = ap (λ (b : Bool). if b && position == at then 1 else zero) (self_eq number)

pub one_is : (number : ℕ) → number_of (number == number) ≡ suc zero
one_is number = grind (arith, nat_tests)

-- ---- tests over a list

pub any_puts : (pairs : List (ℕ × ℕ)) (position : ℕ) → puts_at position pairs ≤ 1 → number_of (list_any (λ pair. pair.0 == position) pairs) ≡ puts_at position pairs
any_puts [] position l = refl
any_puts (pair ∷ pairs) position l = by (pair.0 == position) (list_any (λ pair. pair.0 == position) pairs) l (any_puts pairs position)
  where
    by : (b any : Bool) → (if b then 1 else 0) + puts_at position pairs ≤ 1 → (puts_at position pairs ≤ 1 → number_of any ≡ puts_at position pairs)
        → number_of (b || any) ≡ (if b then 1 else 0) + puts_at position pairs
    by true any l more = omega (arith, l)
    by false any l more = omega (arith, more (omega (arith, l)))

pub any_gets : (positions : List ℕ) (position : ℕ) → gets_at position positions ≤ 1 → number_of (list_any (λ other. other == position) positions) ≡ gets_at position positions
any_gets [] position l = refl
any_gets (at ∷ positions) position l = by (at == position) (list_any (λ other. other == position) positions) l (any_gets positions position)
  where
    by : (b any : Bool) → (if b then 1 else 0) + gets_at position positions ≤ 1 → (gets_at position positions ≤ 1 → number_of any ≡ gets_at position positions)
        → number_of (b || any) ≡ (if b then 1 else 0) + gets_at position positions
    by true any l more = omega (arith, l)
    by false any l more = omega (arith, more (omega (arith, l)))

-- ---- one place has another content

pub put_moves : {X : Type 0} (F : X → ℕ) (f : ℕ → X) (k : ℕ) (x : X) (i : ℕ) → F (put f k x i) + (if k == i then F (f k) else zero) ≡ F (f i) + (if k == i then F x else zero)
put_moves F f k x i = put_each (λ i y. F y + (if k == i then F (f k) else zero) ≡ F (f i) + (if k == i then F x else zero)) f k x i
    (λ q. subst (λ (j : ℕ). F x + (if k == j then F (f k) else zero) ≡ F (f j) + (if k == j then F x else zero)) (sym q)
    (omega (arith, ap (λ (b : Bool). if b then F (f k) else zero) (self_eq k), ap (λ (b : Bool). if b then F x else zero) (self_eq k))))
    (λ ne. omega (arith, ap (λ (b : Bool). if b then F (f k) else zero) (not_eq k i (λ q. ne (sym q))), ap (λ (b : Bool). if b then F x else zero) (not_eq k i (λ q. ne (sym q)))))

pub none_if : (a b : ℕ) → (if a == b then 0 else 0) ≡ zero
none_if a b = by (a == b)
  where
    by : (t : Bool) → (if t then 0 else 0) ≡ zero
    by true = refl
    by false = refl

pub len_le : {X : Type 0} (o : Option X) → option_len o ≤ 1
len_le None = omega arith
len_le (Some x) = omega arith

pub number_le : (b : Bool) → number_of b ≤ 1
number_le true = omega arith
number_le false = omega arith

pub number_true : (b : Bool) → 1 ≤ number_of b → b ≡ true
number_true true l = refl
number_true false l = absurd (omega (arith, l))

pub len_none : {X : Type 0} (o : Option X) → option_len o ≡ 0 → o ≡ None
len_none None z = refl
len_none (Some x) z = absurd (omega (arith, z))

pub len_some : {X : Type 0} (o : Option X) → 1 ≤ option_len o → (x : X) × (o ≡ Some x)
len_some None l = absurd (omega (arith, l))
len_some (Some x) l = (x, refl)
