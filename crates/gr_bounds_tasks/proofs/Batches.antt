-- The number of a core's next batch, with the calls that wait to be combined, grows by one at most: of the calls on a key the first goes off.
use Rattle.std.proofs.Common.{◌≡◌, ◌≤◌, ◌⊎◌, ℕ, zero, suc, ◌+◌, ◌==◌, List, [], ◌∷◌, ◌++◌, length, refl, sym, ap, ◌∙◌, subst, arith, inl, inr}
use Rattle.std.specs.Prelude.{Bool, true, false, not, Option, Some, None, if◌then◌else◌, is_some, map}
use Rattle.std.specs.Option.{option_and_then}
use Rattle.std.specs.List.{filter}
use Rattle.std.proofs.lemmas.List.{length-append}
use Rattle.std.proofs.lemmas.Bool.{cases_eq}
use Rattle.std.proofs.lemmas.Bool.Decides.{nat_tests}
use Rattle.gr_lang.specs.Effects.{effect_of}
use Rattle.gr_lang.specs.declared.action.Effect.{Effect}
use Rattle.gr_lang.specs.declared.action.Effect.TheVariants as effect
use Rattle.gr_lang.specs.declared.action.WaitingCall.{WaitingCall}
use Rattle.gr_view.specs.Places.{put}
use Rattle.gr_batch.specs.Folding.{together, folded}
use Rattle.gr_batch.specs.Batches.{Group, distinct, keys_of, calls_at, group_of, groups_of, batch_of, batches_of, stays_after, one_if, rest_after, rest_of}
use Rattle.gr_batch.specs.declared.combiner.Held.{Held}
use Rattle.gr_net.specs.Sums.{total, weigh}
use Rattle.gr_net.proofs.Spreads.{total_put, total_put_past, total_none}
use Rattle.gr_machine.specs.Machines.{Machine}
use Rattle.gr_bounds_numbers.specs.Bounds.{weightless}
use Rattle.gr_bounds_tasks.specs.Laws as laws
use Rattle.gr_bounds.proofs.Shares.{cases_below, total_rises}
use Rattle.gr_bounds_numbers.proofs.Plain.{Numbers}
use Rattle.gr_bounds_numbers.proofs.Counting.{CountRules}
use Rattle.gr_bounds.specs.Outcomes.{NoneKnown}
use Rattle.gr_bounds_numbers.proofs.Grows.{grows}

-- ---- the first call on a key

first_folds : (what : Effect) → is_some (together effect.Keep what) ≡ true
first_folds effect.Keep = refl
first_folds (effect.Present word) = refl
first_folds effect.Absent = refl
first_folds (effect.Fold reducer word) = refl

-- 1 where no call on the key is held.
abbrev is_fresh : List Held → ℕ → ℕ
is_fresh [] key = 1
is_fresh (one ∷ held) key = if one.key == key then 0 else is_fresh held key

fresh_calls : (held : List Held) (key : ℕ) → (is_fresh held key ≡ 0) ⊎ ((is_fresh held key ≡ 1) × (calls_at key held ≡ []))
fresh_calls [] key = inr (refl, refl)
fresh_calls (one ∷ held) key = both (one.key == key) (fresh_calls held key)
  where
    both : (b : Bool) → (is_fresh held key ≡ 0) ⊎ ((is_fresh held key ≡ 1) × (calls_at key held ≡ []))
        → ((if b then 0 else is_fresh held key) ≡ 0) ⊎ (((if b then 0 else is_fresh held key) ≡ 1) × ((if b then one.call ∷ calls_at key held else calls_at key held) ≡ []))
    both true r = inl refl
    both false r = r

-- A call goes off where it is the first on its key.
stays_few : (before : List Held) (one : Held) → is_fresh before one.key + length (one_if (stays_after before one) one) ≤ 1
stays_few before one = elim (fresh_calls before one.key) [
  | inl e ↦ omega (arith, e, few (stays_after before one))
  | inr e ↦ omega (arith, e.0, ap (λ (calls : List WaitingCall). length (one_if (not (is_some (folded (calls ++ one.call ∷ [])))) one)) e.1, alone (together effect.Keep (effect_of one.call.op)) (first_folds (effect_of one.call.op)))
]
  where
    few : (b : Bool) → length (one_if b one) ≤ 1
    few true = omega arith
    few false = omega arith

    alone : (both : Option Effect) → is_some both ≡ true → length (one_if (not (is_some (option_and_then (λ first. Some first) both))) one) ≡ 0
    alone None e = absurd (cc)
    alone (Some first) e = refl

-- The keys of which no call was held before.
fresh_more : (before : List Held) (one : Held) (key : ℕ) → is_fresh (before ++ one ∷ []) key ≡ (if one.key == key then 0 else is_fresh before key)
fresh_more [] one key = refl
fresh_more (first ∷ before) one key = ap (λ (n : ℕ). if first.key == key then 0 else n) (fresh_more before one key) ∙ swapped (first.key == key) (one.key == key)
  where
    swapped : (a b : Bool) → (if a then 0 else (if b then 0 else is_fresh before key)) ≡ (if b then 0 else (if a then 0 else is_fresh before key))
    swapped true true = refl
    swapped true false = refl
    swapped false true = refl
    swapped false false = refl

weigh_filtered : (h : ℕ → ℕ) (test : ℕ → Bool) (xs : List ℕ) → weigh h (filter test xs) ≡ weigh (λ x. if test x then h x else 0) xs
weigh_filtered h test [] = refl
weigh_filtered h test (x ∷ xs) = both (test x) (weigh_filtered h test xs)
  where
    both : (b : Bool) → weigh h (filter test xs) ≡ weigh (λ x. if test x then h x else 0) xs
        → weigh h (if b then x ∷ filter test xs else filter test xs) ≡ (if b then h x else 0) + weigh (λ x. if test x then h x else 0) xs
    both true e = omega (arith, e)
    both false e = omega (arith, e)

weigh_as : (f g : ℕ → ℕ) → ((x : ℕ) → f x ≡ g x) → (xs : List ℕ) → weigh f xs ≡ weigh g xs
weigh_as f g e [] = refl
weigh_as f g e (x ∷ xs) = omega (arith, e x, weigh_as f g e xs)

turned : (a b n : ℕ) → (if not (a == b) then n else 0) ≡ (if b == a then 0 else n)
turned a b n = elim (cases_eq a b) [
  | inl e ↦ subst (λ (c : ℕ). (if not (a == c) then n else 0) ≡ (if c == a then 0 else n)) e (same a)
  | inr e ↦ grind (arith, nat_tests)
]
  where
    same : (a : ℕ) → (if not (a == a) then n else 0) ≡ (if a == a then 0 else n)
    same a = both (a == a)
      where
        both : (b : Bool) → (if not b then n else 0) ≡ (if b then 0 else n)
        both true = refl
        both false = refl

rest_few : (before held : List Held) → weigh (is_fresh before) (distinct (keys_of held)) + length (rest_after before held) ≤ length held
rest_few before [] = omega arith
rest_few before (one ∷ held) = omega (
  arith,
  stays_few before one,
  length-append (one_if (stays_after before one) one) (rest_after (before ++ one ∷ []) held),
  rest_few (before ++ one ∷ []) held,
  weigh_filtered (is_fresh before) (λ other. not (other == one.key)) (distinct (keys_of held)),
  weigh_as (λ x. if not (x == one.key) then is_fresh before x else 0) (is_fresh (before ++ one ∷ [])) (λ x. turned x one.key (is_fresh before x) ∙ sym (fresh_more before one x)) (distinct (keys_of held)),
)

ones_are : (keys : List ℕ) → weigh (is_fresh []) keys ≡ length keys
ones_are [] = refl
ones_are (key ∷ keys) = omega (arith, ones_are keys)

length_mapped : {X Y : Type 0} (f : X → Y) (xs : List X) → length (map f xs) ≡ length xs
length_mapped f [] = refl
length_mapped f (x ∷ xs) = ap suc (length_mapped f xs)

closed_few : (held : List Held) → length (batches_of held) + length (rest_of held) ≤ length held
closed_few held = omega (
  arith,
  rest_few [] held,
  ones_are (distinct (keys_of held)),
  length_mapped batch_of (groups_of held),
  length_mapped {Y = ℕ × Group} (λ key. (key, group_of (calls_at key held))) (distinct (keys_of held)),
)

-- ---- the number with the calls that wait

abbrev NextBatch : ℕ → Numbers → ℕ → Type 0
NextBatch me n x = (objects : ℕ) → n.batch + total objects (λ object. length (n.combiners object)) ≤ x

total_grows : (f : ℕ → ℕ) (less more : ℕ) → less ≤ more → total less f ≤ total more f
total_grows f less zero l = omega (arith, ap (λ (n : ℕ). total n f) (nothing less l))
  where
    nothing : (n : ℕ) → n ≤ 0 → n ≡ 0
    nothing n l = omega (arith, l)
total_grows f less (suc more) l = elim (cases_below less (suc more)) [
  | inl q ↦ omega (arith, total_grows f less more (omega (arith, q)))
  | inr q ↦ omega (arith, ap (λ (n : ℕ). total n f) (same less (suc more) l q))
]
  where
    same : (a b : ℕ) → a ≤ b → b ≤ a → a ≡ b
    same a b l m = omega (arith, l, m)

calls_closed : (n : Numbers) (object x : ℕ) → NextBatch 0 n x → (objects : ℕ)
    → (n.batch + length (batches_of (n.combiners object))) + total objects (λ other. length (put n.combiners object (rest_of (n.combiners object)) other)) ≤ x
calls_closed n object x old objects = elim (cases_below object objects) [
  | inl q ↦ omega (arith, old objects, closed_few (n.combiners object), total_put (λ (i : ℕ) (held : List Held). length held) n.combiners object (rest_of (n.combiners object)) objects q)
  | inr q ↦ omega (
    arith,
    old (suc object),
    closed_few (n.combiners object),
    total_put_past (λ (i : ℕ) (held : List Held). length held) n.combiners object (rest_of (n.combiners object)) objects q,
    total_grows (λ other. length (n.combiners other)) objects object q,
  )
]

batch_rules : (machine : Machine) → CountRules NextBatch weightless machine NoneKnown
batch_rules machine = record {
  adds = λ from to scope one other. refl;
  light = λ from to message p. refl;
  knows = λ me body k. k;
  more = λ me n x f objects. omega (arith, f objects);
  joined = λ me n object held x f objects. omega (
    arith,
    f objects,
    total_rises (λ (i : ℕ) (calls : List Held). length calls) n.combiners object (n.combiners object ++ held ∷ []) objects 1
        (omega (arith, length-append (n.combiners object) (held ∷ []))),
  );
  closed = λ me n object x f objects. omega (arith, calls_closed n object x f objects);
  made = λ me n x f objects. omega (arith, f objects);
  counted = λ me n scope tasks e x f objects. omega (arith, f objects);
  asks = λ me n scope slot e x f. record { share = x; fact = f; all = omega arith };
  waits = λ me n scope slot slots e x f objects. omega (arith, f objects);
  acked = λ me n scope slots some e l x f objects. omega (arith, f objects);
  finish = λ me n scope c m x f objects. omega (arith, f objects);
  range = λ me body slot task known there lo hi grain target args a scope c m who x f objects. omega (arith, f objects);
  completed_by = λ me n scope tasks x f. f;
  waited_by = λ me n scope who x f. f;
  left_by = λ me n scope x f. f;
  enrols = λ me from n scope x f. record { share = x; fact = f; all = omega arith };
  ends = λ from to scope. omega arith;
}

no_calls : (objects : ℕ) → total objects (λ object. 0) ≡ 0
no_calls objects = total_none (λ object. 0) objects (λ i l. refl)

pub batches_grow : laws.BatchesGrow
batches_grow = grows NextBatch weightless batch_rules (λ machine slot objects. omega (arith, no_calls objects)) (λ machine me objects. omega (arith, no_calls objects))
