-- Words from words: signs, reducers and lists.
use Rattle.std.proofs.Common.{◌≡◌, ℕ, zero, suc, ◌+◌, ◌-◌, ◌*◌, ◌/◌, ◌%◌, ◌^◌, ◌<◌, ◌≤◌, ◌==◌, Bool, true, false, not, ◌&&◌, List, [], ◌∷◌, ◌++◌, Some, None, if◌then◌else◌, refl, subst, arith}
use Rattle.std.specs.Prelude.{nat_lt, nat_le, min, max, bit_and, take, drop, replicate, slice_get, slice_index, slice_set}
use Rattle.std.proofs.Math.Nat.{div-le_self, mod-le}
use Rattle.std.proofs.lemmas.Nat.{or_lt, xor_lt, and_le_l}
use Rattle.std.proofs.lemmas.Bool.Decides.{nat_tests}
use Rattle.gr_syntax.specs.declared.syntax.BinOp.{BinOp}
use Rattle.gr_syntax.specs.declared.syntax.BinOp.TheVariants as sign
use Rattle.gr_lang.specs.Expressions.{number_of, combine}
use Rattle.gr_lang.specs.Effects.{reduced}
use Rattle.gr_net.specs.Sums.{Each}
use Rattle.gr_fits_words.specs.Words.{IsWord, MayBeWord}

-- ---- tests

pub both : (a b : Bool) → (a && b) ≡ true → (a ≡ true) × (b ≡ true)
both true b h = (refl, h)
both false b h = cc

pub below : (n m : ℕ) → nat_lt n m ≡ true → n < m
below n m h = grind (arith, nat_tests, h)

-- ---- numbers

pub nought : IsWord 0
nought = omega arith

pub picks : (t : Bool) (a b : ℕ) → IsWord a → IsWord b → IsWord (if t then a else b)
picks true a b h k = h
picks false a b h k = k

pub number_word : (t : Bool) → IsWord (number_of t)
number_word true = omega arith
number_word false = omega arith

pub wraps : (n : ℕ) → IsWord (n % 2 ^ 64)
wraps n = omega arith

ands : (a b : ℕ) → IsWord a → IsWord (bit_and a b)
ands a b h = omega (arith, h, and_le_l a b)

quotient : (a b : ℕ) → IsWord a → IsWord (a / b)
quotient a b h = less (a / b) (div-le_self a b)
  where
    less : (c : ℕ) → c ≤ a → IsWord c
    less c l = omega (arith, l, h)

remainder : (a b : ℕ) → IsWord a → IsWord (a % b)
remainder a b h = less (a % b) (mod-le a b)
  where
    less : (c : ℕ) → c ≤ a → IsWord c
    less c l = omega (arith, l, h)

pub combined : (s : BinOp) (a b : ℕ) → IsWord a → IsWord b → MayBeWord (combine s a b)
combined sign.Eq a b h k = number_word (a == b)
combined sign.Ne a b h k = number_word (not (a == b))
combined sign.Lt a b h k = number_word (nat_lt a b)
combined sign.Le a b h k = number_word (nat_le a b)
combined sign.Gt a b h k = number_word (nat_lt b a)
combined sign.Ge a b h k = number_word (nat_le b a)
combined sign.Or a b h k = or_lt 64 a b h k
combined sign.Xor a b h k = xor_lt 64 a b h k
combined sign.And a b h k = ands a b h
combined sign.Add a b h k = wraps (a + b)
combined sign.Sub a b h k = wraps (a + 2 ^ 64 - b)
combined sign.Mul a b h k = wraps (a * b)
combined sign.Div a b h k = by (b == 0)
  where
    by : (t : Bool) → MayBeWord (if t then None else Some (a / b))
    by true = tt
    by false = quotient a b h
combined sign.Rem a b h k = by (b == 0)
  where
    by : (t : Bool) → MayBeWord (if t then None else Some (a % b))
    by true = tt
    by false = remainder a b h

pub reduced_word : (r a b : ℕ) → IsWord a → IsWord b → IsWord (reduced r a b)
reduced_word r a b h k =
    picks (r == 0) _ _ (wraps (a + b)) (picks (r == 1) _ _ least (picks (r == 2) _ _ greatest (picks (r == 3) _ _ (or_lt 64 a b h k)
    (picks (r == 4) _ _ (ands a b h) (picks (r == 5) _ _ (xor_lt 64 a b h k) (picks (r == 6) _ _ h k))))))
  where
    least : IsWord (min a b)
    least = omega (arith, h, k)

    greatest : IsWord (max a b)
    greatest = omega (arith, h, k)

-- ---- lists

module _ {A : Type 0} (P : A → Type 0) where
  pub each_get : (xs : List A) (k : ℕ) (x : A) → Each P xs → slice_get xs k ≡ Some x → P x
  each_get [] k x h at = cc
  each_get (y ∷ ys) zero x h at = let same : y ≡ x = cc in subst P same h.0
  each_get (y ∷ ys) (suc k) x h at = each_get ys k x h.1 at

  pub each_set : (xs : List A) (k : ℕ) (y : A) → Each P xs → P y → Each P (slice_set xs k y)
  each_set [] k y h g = tt
  each_set (x ∷ xs) zero y h g = (g, h.1)
  each_set (x ∷ xs) (suc k) y h g = (h.0, each_set xs k y h.1 g)

  pub each_more : (xs ys : List A) → Each P xs → Each P ys → Each P (xs ++ ys)
  each_more [] ys h g = g
  each_more (x ∷ xs) ys h g = (h.0, each_more xs ys h.1 g)

  pub each_take : (n : ℕ) (xs : List A) → Each P xs → Each P (take n xs)
  each_take zero xs h = tt
  each_take (suc n) [] h = tt
  each_take (suc n) (x ∷ xs) h = (h.0, each_take n xs h.1)

  pub each_rest : (xs : List A) → Each P xs → Each P (drop 1 xs)
  each_rest [] h = tt
  each_rest (x ∷ xs) h = h.1

  pub each_same : (n : ℕ) (x : A) → P x → Each P (replicate n x)
  each_same zero x h = tt
  each_same (suc n) x h = (h, each_same n x h)

pub index_word : (xs : List ℕ) (k : ℕ) → Each IsWord xs → IsWord (slice_index xs k)
index_word [] k h = nought
index_word (x ∷ xs) zero h = h.0
index_word (x ∷ xs) (suc k) h = index_word xs k h.1

pub get_word : (xs : List ℕ) (k : ℕ) → Each IsWord xs → MayBeWord (slice_get xs k)
get_word [] k h = tt
get_word (x ∷ xs) zero h = h.0
get_word (x ∷ xs) (suc k) h = get_word xs k h.1
