-- How the number of a finite map's values that pass a test changes as a value is put in.
use Rattle.std.proofs.Common.{◌≡◌, ℕ, ◌+◌, ◌≤◌, Bool, true, false, ◌&&◌, ◌||◌, List, [], ◌∷◌, Option, Some, None, refl, sym, ap, ◌∙◌, arith, cond, map}
use Rattle.std.specs.Prelude.{T, nat_lt}
use Rattle.std.proofs.lemmas.List.{length-map}
use Rattle.std.proofs.lemmas.Bool.Decides.{nat_tests}
use Rattle.std.specs.Option.{option_map_or}
use Rattle.std.specs.List.{count_by, list_any}
use Rattle.std.proofs.lemmas.List.Sums.{sum_by-cons, count_by-le-length}
use Rattle.std.specs.declared.cmp.Ordering.{Ordering}
use Rattle.std.specs.declared.cmp.Ordering.TheVariants.{Less, Equal, Greater}
use Rattle.std.specs.Ordering.{is_lt, is_eq}
use Rattle.std.specs.Cmp.{IsTotalOrder}
use Rattle.std.specs.FinMap.{FinMap, entries, entries_sorted, entries-insert, insert, get, get-entries, values, len, len-entries}
use Rattle.std.specs.FinMap.Entries.{by_order, put, find, below_all, is_sorted}

first : (a b : Bool) → T (a && b) → T a
first true b p = tt
first false b p = p

second : (a b : Bool) → T (a && b) → T b
second true b p = p
second false b p = absurd p

less : (o : Ordering) → T (is_lt o) → o ≡ Less
less Less p = refl
less Equal p = absurd p
less Greater p = absurd p

-- How many of no value or one value pass the test.
abbrev pub count_in : {X : Type 0} → (X → Bool) → Option X → ℕ
count_in p o = option_map_or (λ x. cond (p x) 1 0) o 0

module _ {K X : Type 0} {R : K → K → Ordering} (o : IsTotalOrder R) (p : X → Bool) where
  -- a key below all keys of the list isn't in it
  missed : (k x : K) (es : List (K × X)) → R k x ≡ Less → T (below_all R x es) → find R k es ≡ None
  missed k x [] h b = refl
  missed k x (e ∷ es) h b =
      ap (λ r. cond (is_eq r) (Some e.1) (find R k es)) (o.trans k x e.0 h (less _ (first _ _ b))) ∙ missed k x es h (second _ _ b)

  abbrev tally : List (K × X) → ℕ
  tally es = count_by p (map (λ e. e.1) es)

  one_more : (e : K × X) (es : List (K × X)) → tally (e ∷ es) ≡ cond (p e.1) 1 0 + tally es
  one_more e es = sum_by-cons (λ x. cond (p x) 1 0) e.1 (map (λ d. d.1) es)

  tally-put : (k : K) (v : X) (es : List (K × X)) → T (is_sorted R es) → tally (put R k v es) + count_in p (find R k es) ≡ tally es + cond (p v) 1 0
  tally-put k v [] h = omega (arith, one_more (k, v) [])
  tally-put k v (e ∷ es) h =
      elim (R k e.0) as (λ r. R k e.0 ≡ r → tally (by_order r ((k, v) ∷ e ∷ es) ((e.0, v) ∷ es) (e ∷ put R k v es)) + count_in p (cond (is_eq r) (Some e.1) (find R k es)) ≡ tally (e ∷ es) + cond (p v) 1 0) [
        | Less ↦ λ q. rw (missed k e.0 es q (first _ _ h)) (omega (arith, one_more (k, v) (e ∷ es)))
        | Equal ↦ λ q. omega (arith, one_more (e.0, v) es, one_more e es)
        | Greater ↦ λ q. omega (arith, one_more e (put R k v es), one_more e es, tally-put k v es (second _ _ h))
      ] refl

  pub count-insert : (m : FinMap R X) (k : K) (v : X) → count_by p (values (insert m k v)) + count_in p (get m k) ≡ count_by p (values m) + cond (p v) 1 0
  count-insert m k v =
      rw (entries-insert o m k v, get-entries m k) (tally-put k v (entries m) (entries_sorted m))

  pub count-le-len : (m : FinMap R X) → count_by p (values m) ≤ len m
  count-le-len m = rw (len-entries m) (omega (arith, count_by-le-length p (values m), length-map (entries m) (λ (e : K × X). e.1)))

-- Some value passes the test where more than none do.
pub any-count : {X : Type 0} (p : X → Bool) (xs : List X) → list_any p xs ≡ nat_lt 0 (count_by p xs)
any-count p [] = sym (grind (arith, nat_tests))
any-count p (x ∷ xs) = rw (sum_by-cons (λ y. cond (p y) 1 0) x xs) (elim (p x) as (λ b. (b || list_any p xs) ≡ nat_lt 0 (cond b 1 0 + count_by p xs)) [ true ↦ sym (grind (arith, nat_tests)) | false ↦ any-count p xs ∙ ap (nat_lt 0) (omega arith) ])
