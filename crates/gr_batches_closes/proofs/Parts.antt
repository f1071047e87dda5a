-- The calls that are held are those of the batches that they make and those that stay.
use Rattle.std.proofs.Common.{◌≡◌, ◌≢◌, ℕ, zero, suc, ◌+◌, ◌<◌, ◌==◌, if◌then◌else◌, not, Bool, true, false, List, [], ◌∷◌, ◌++◌, length, map, inl, inr, ◌∙◌, ap, subst, refl, arith, Some, None}
use Rattle.std.specs.List.{filter}
use Rattle.std.specs.Option.{option_and_then}
use Rattle.std.proofs.lemmas.Bool.{cases_eq}
use Rattle.std.proofs.lemmas.Bool.Decides.{nat_tests}
use Rattle.gr_lang.specs.declared.action.Effect.{Effect}
use Rattle.gr_lang.specs.declared.action.Effect.TheVariants as effect
use Rattle.gr_lang.specs.declared.action.WaitingCall.{WaitingCall}
use Rattle.gr_lang.specs.Effects.{effect_of}
use Rattle.gr_batch.specs.Folding.{folded, folded_after, together}
use Rattle.gr_batch.specs.Batches.{distinct, keys_of, calls_at, group_of, batch_of, batches_of, rest_of, rest_after, one_if, stays_after}
use Rattle.gr_batch.specs.Laws.{IsLongest}
use Rattle.gr_batch.specs.declared.combiner.Batch.{Batch}
use Rattle.gr_batch.specs.declared.combiner.Held.{Held}
use Rattle.gr_batch.proofs.Groups.{longest_is}
use Rattle.gr_batch.proofs.Kept.{each_kept}
use Rattle.gr_net.specs.Sums.{weigh, Each}
use Rattle.gr_net.proofs.Spreads.{weigh-append, Each-map}
use Rattle.gr_stands.specs.Calls.{times}

pub both_each : {X : Type 0} (P : X → Type 0) (xs ys : List X) → Each P (xs ++ ys) → Each P xs × Each P ys
both_each P [] ys e = (tt, e)
both_each P (x ∷ xs) ys e = let r = both_each P xs ys e.1 in ((e.0, r.0), r.1)

-- ---- each key once

keep_others : (key : ℕ) (keys : List ℕ) (k : ℕ) → times k (filter (λ other. not (other == key)) keys) ≡ (if key == k then 0 else times k keys)
keep_others key [] k = by (key == k)
  where
    by : (b : Bool) → zero ≡ (if b then zero else zero)
    by true = refl
    by false = refl
keep_others key (other ∷ keys) k = by (other == key) refl (keep_others key keys k)
  where
    kept : (a b c n m : ℕ) → (a == b) ≡ false → n ≡ (if b == c then 0 else m) → (if a == c then 1 else 0) + n ≡ (if b == c then 0 else (if a == c then 1 else 0) + m)
    kept a b c n m e f = grind (arith, nat_tests)

    dropped : (a b c n m : ℕ) → (a == b) ≡ true → n ≡ (if b == c then 0 else m) → n ≡ (if b == c then 0 else (if a == c then 1 else 0) + m)
    dropped a b c n m e f = grind (arith, nat_tests)

    by : (t : Bool) → (other == key) ≡ t → times k (filter (λ other. not (other == key)) keys) ≡ (if key == k then 0 else times k keys)
        → times k (if not t then other ∷ filter (λ other. not (other == key)) keys else filter (λ other. not (other == key)) keys) ≡ (if key == k then 0 else times k (other ∷ keys))
    by true e r = dropped other key k (times k (filter (λ other. not (other == key)) keys)) (times k keys) e r
    by false e r = kept other key k (times k (filter (λ other. not (other == key)) keys)) (times k keys) e r

times_distinct : (keys : List ℕ) (k : ℕ) → times k (distinct keys) ≡ (if times k keys == 0 then 0 else 1)
times_distinct [] k = refl
times_distinct (key ∷ keys) k = first key k (times k (filter (λ other. not (other == key)) (distinct keys))) (times k (distinct keys)) (times k keys)
    (keep_others key (distinct keys) k) (times_distinct keys k)
  where
    first : (key k n d m : ℕ) → n ≡ (if key == k then 0 else d) → d ≡ (if m == 0 then 0 else 1) → (if key == k then 1 else 0) + n ≡ (if (if key == k then 1 else 0) + m == 0 then 0 else 1)
    first key k n d m e f = grind (arith, nat_tests)

-- A key is known where it is once among some keys.
abbrev Known : List ℕ → Held → Type 0
Known keys one = times one.key keys ≡ 1

all_known : (held : List Held) → Each (Known (distinct (keys_of held))) held
all_known held = by held (λ k. (zero, omega arith))
  where
    -- The keys of the held calls are those of some more and these.
    by : (rest : List Held) → ((k : ℕ) → (n : ℕ) × (times k (keys_of held) ≡ n + times k (keys_of rest))) → Each (Known (distinct (keys_of held))) rest
    by [] f = tt
    by (one ∷ rest) f = (
      times_distinct (keys_of held) one.key ∙ some (times one.key (keys_of held)) (omega (arith, (f one.key).1, itself one.key (keys_of rest))),
      by rest (λ k. ((f k).0 + (if one.key == k then 1 else 0), omega (arith, (f k).1))),
    )
      where
        itself : (key : ℕ) (keys : List ℕ) → times key (key ∷ keys) ≡ suc (times key keys)
        itself key keys = grind (arith, nat_tests)

        some : (n : ℕ) → 0 < n → (if n == 0 then zero else suc zero) ≡ 1
        some n l = grind (arith, nat_tests)

rest_part : (P : Held → Type 0) (before held : List Held) → Each P held → Each P (rest_after before held)
rest_part P before [] f = tt
rest_part P before (one ∷ held) f = by (stays_after before one) (rest_part P (before ++ one ∷ []) held f.1)
  where
    by : (b : Bool) → Each P (rest_after (before ++ one ∷ []) held) → Each P (one_if b one ++ rest_after (before ++ one ∷ []) held)
    by true r = (f.0, r)
    by false r = r

-- A number for one of some keys, which is among them once or not at all.
none_of : (key n : ℕ) (keys : List ℕ) → times key keys ≡ 0 → weigh (λ other. if key == other then n else 0) keys ≡ 0
none_of key n [] e = refl
none_of key n (other ∷ keys) e = omega (arith, off key other n (apart key other (omega (arith, e))), none_of key n keys (omega (arith, e)))
  where
    apart : (key other : ℕ) → (if other == key then suc zero else zero) ≡ zero → other ≢ key
    apart key other e q = grind (arith, nat_tests)

    off : (key other n : ℕ) → other ≢ key → (if key == other then n else 0) ≡ 0
    off key other n ne = grind (arith, nat_tests)

once : (key n : ℕ) (keys : List ℕ) → times key keys ≡ 1 → weigh (λ other. if key == other then n else 0) keys ≡ n
once key n [] e = absurd (omega (arith, e))
once key n (other ∷ keys) e = elim (cases_eq other key) [
  | inl q ↦ omega (arith, (on key other n q).0, none_of key n keys (omega (arith, e, (on key other n q).1)))
  | inr ne ↦ omega (arith, (off key other n ne).0, once key n keys (omega (arith, e, (off key other n ne).1)))
]
  where
    on : (key other n : ℕ) → other ≡ key → ((if key == other then n else 0) ≡ n) × ((if other == key then suc zero else zero) ≡ 1)
    on key other n q = (grind (arith, nat_tests), grind (arith, nat_tests))

    off : (key other n : ℕ) → other ≢ key → ((if key == other then n else zero) ≡ zero) × ((if other == key then suc zero else zero) ≡ zero)
    off key other n ne = (grind (arith, nat_tests), grind (arith, nat_tests))

-- ---- sums

module _ (weight : WaitingCall → ℕ) where
  abbrev at_key : List Held → ℕ → ℕ
  at_key held key = weigh weight (calls_at key held)

  one_at : (one : Held) (held : List Held) (key : ℕ) → at_key (one ∷ held) key ≡ (if one.key == key then weight one.call else 0) + at_key held key
  one_at one held key = by (one.key == key)
    where
      by : (b : Bool) → weigh weight (if b then one.call ∷ calls_at key held else calls_at key held) ≡ (if b then weight one.call else 0) + at_key held key
      by true = refl
      by false = omega arith

  over : (one : Held) (held : List Held) (keys : List ℕ) → weigh (at_key (one ∷ held)) keys ≡ weigh (λ key. if one.key == key then weight one.call else 0) keys + weigh (at_key held) keys
  over one held [] = refl
  over one held (key ∷ keys) = omega (arith, one_at one held key, over one held keys)

  no_call : (keys : List ℕ) → weigh (at_key []) keys ≡ 0
  no_call [] = refl
  no_call (key ∷ keys) = omega (arith, no_call keys)

  -- Over keys among which that of each call is once.
  over_all : (keys : List ℕ) (held : List Held) → Each (Known keys) held → weigh (at_key held) keys ≡ weigh (λ one. weight one.call) held
  over_all keys [] f = no_call keys
  over_all keys (one ∷ held) f = omega (arith, over one held keys, once one.key (weight one.call) keys f.0, over_all keys held f.1)

  of_groups : (held : List Held) (keys : List ℕ)
      → weigh (λ batch. weigh weight batch.calls) (map batch_of (map (λ key. (key, group_of (calls_at key held))) keys)) + weigh (at_key (rest_of held)) keys ≡ weigh (at_key held) keys
  of_groups held [] = refl
  of_groups held (key ∷ keys) = omega (
    arith,
    of_groups held keys,
    ap (weigh weight) (each_kept key held),
    weigh-append weight (group_of (calls_at key held)).calls (calls_at key (rest_of held)),
  )

  pub weigh_parts : (held : List Held) → weigh (λ batch. weigh weight batch.calls) (batches_of held) + weigh (λ one. weight one.call) (rest_of held) ≡ weigh (λ one. weight one.call) held
  weigh_parts held =
      let keys : List ℕ = distinct (keys_of held) in
      let known : Each (Known keys) held = all_known held in
      omega (arith, of_groups held keys, over_all keys held known, over_all keys (rest_of held) (rest_part (Known keys) [] held known))

-- ---- facts

each_filter : {X : Type 0} (P : X → Type 0) (test : X → Bool) (xs : List X) → Each P xs → Each P (filter test xs)
each_filter P test [] f = tt
each_filter P test (x ∷ xs) f = by (test x) (each_filter P test xs f.1)
  where
    by : (b : Bool) → Each P (filter test xs) → Each P (if b then x ∷ filter test xs else filter test xs)
    by true r = (f.0, r)
    by false r = r

keys_there : (keys : List ℕ) → Each (λ k. 0 < times k keys) (distinct keys)
keys_there [] = tt
keys_there (key ∷ keys) = (
  itself key keys,
  each_filter (λ (k : ℕ). 0 < times k (key ∷ keys)) (λ other. not (other == key)) (distinct keys)
      (Each-map (λ (k : ℕ). 0 < times k keys) (λ (k : ℕ). 0 < times k (key ∷ keys)) (λ k l. omega (arith, l)) (distinct keys) (keys_there keys)),
)
  where
    itself : (key : ℕ) (keys : List ℕ) → 0 < times key (key ∷ keys)
    itself key keys = grind (arith, nat_tests)

calls_some : (held : List Held) (k : ℕ) → 0 < times k (keys_of held) → 0 < length (calls_at k held)
calls_some [] k l = absurd (omega (arith, l))
calls_some (one ∷ held) k l = by (one.key == k) l (calls_some held k)
  where
    by : (b : Bool) → 0 < (if b then 1 else 0) + times k (keys_of held) → (0 < times k (keys_of held) → 0 < length (calls_at k held))
        → 0 < length (if b then one.call ∷ calls_at k held else calls_at k held)
    by true l rec = omega arith
    by false l rec = rec (omega (arith, l))

one_folds : (what : Effect) → option_and_then (λ both. folded_after both []) (together effect.Keep what) ≡ None → ⊥
one_folds effect.Keep e = cc
one_folds (effect.Present word) e = cc
one_folds effect.Absent e = cc
one_folds (effect.Fold reducer word) e = cc

some_batch : (calls batch : List WaitingCall) (both : Effect) → IsLongest calls batch both → 0 < length calls → 0 < length batch
some_batch calls (one ∷ batch) both l some = omega arith
some_batch calls [] both l some = absurd (by l.rest l.parts l.longest)
  where
    by : (rest : List WaitingCall) → calls ≡ rest → ((next : WaitingCall) (more : List WaitingCall) → rest ≡ next ∷ more → folded (next ∷ []) ≡ None) → ⊥
    by [] e f = omega (arith, some, ap length e)
    by (next ∷ more) e f = one_folds (effect_of next.op) (f next more refl)

at_calls : (P : Held → Type 0) (k : ℕ) (held : List Held) → Each P held → Each (λ call. P (record { key = k; call = call })) (calls_at k held)
at_calls P k [] f = tt
at_calls P k (one ∷ held) f = by (one.key == k) refl (at_calls P k held f.1)
  where
    equal : (a b : ℕ) → (a == b) ≡ true → a ≡ b
    equal a b e = grind (arith, nat_tests)

    by : (b : Bool) → (one.key == k) ≡ b → Each (λ call. P (record { key = k; call = call })) (calls_at k held)
        → Each (λ call. P (record { key = k; call = call })) (if b then one.call ∷ calls_at k held else calls_at k held)
    by true e r = (subst (λ (i : ℕ). P (record { key = i; call = one.call })) (equal one.key k e) f.0, r)
    by false e r = r

-- A batch has calls, folds to its effect, and has calls of which all is so that is of each held call.
pub record IsPart (P : Held → Type 0) (batch : Batch) : Type 0 where
  pub some : 0 < length batch.calls
  pub folds : folded batch.calls ≡ Some batch.effect
  pub calls : Each (λ call. P (record { key = batch.key; call = call })) batch.calls

pub are_parts : (P : Held → Type 0) (held : List Held) → Each P held → Each (IsPart P) (batches_of held)
are_parts P held f = by (distinct (keys_of held)) (keys_there (keys_of held))
  where
    by : (keys : List ℕ) → Each (λ k. 0 < times k (keys_of held)) keys → Each (IsPart P) (map batch_of (map (λ key. (key, group_of (calls_at key held))) keys))
    by [] g = tt
    by (key ∷ keys) g = (
      record {
        some = some_batch (calls_at key held) (group_of (calls_at key held)).calls (group_of (calls_at key held)).effect (longest_is (calls_at key held)) (calls_some held key g.0);
        folds = (longest_is (calls_at key held)).folds;
        calls = (both_each (λ (call : WaitingCall). P (record { key = key; call = call })) (group_of (calls_at key held)).calls (calls_at key (rest_of held))
            (subst (Each (λ (call : WaitingCall). P (record { key = key; call = call }))) (each_kept key held) (at_calls P key held f))).0;
      },
      by keys g.1,
    )

pub rest_is : (P : Held → Type 0) (held : List Held) → Each P held → Each P (rest_of held)
rest_is P held f = rest_part P [] held f
