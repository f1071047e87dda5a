-- Each place of an object of a program has an address of its own: arrays lie one after another, and the heap behind them.
use Rattle.std.proofs.Common.{◌≡◌, ◌≢◌, ℕ, zero, suc, ◌+◌, ◌-◌, ◌<◌, ◌≤◌, ◌==◌, ◌&&◌, Bool, true, false, nat_lt, nat_le, if◌then◌else◌, List, [], ◌∷◌, ◌++◌, length, replicate, slice_get, sym, ◌∙◌, ap, subst, refl, arith, Option, Some, None}
use Rattle.std.proofs.lemmas.List.{length-append, length-replicate}
use Rattle.std.proofs.lemmas.Bool.Decides.{nat_tests}
use Rattle.gr_syntax.specs.declared.limits.TheConstants.{HEAP}
use Rattle.gr_syntax.specs.declared.syntax.Item.{Item}
use Rattle.gr_syntax.specs.declared.syntax.Item.TheVariants as item
use Rattle.gr_syntax.specs.declared.syntax.Program.{Program}
use Rattle.gr_lang.specs.Objects.{Object, array, keys, pairs, line, Heap, Objects, address, address_in, heap_address}
use Rattle.gr_lang.specs.Openings.{opening, objects_from, array_words, input_of, heap_words, heap_of, padded}
use Rattle.gr_machine.specs.Requests.{array_at, or_heap, named_at}
use Rattle.gr_stands.specs.Worlds.{Given, machine_in}
use Rattle.gr_stands.specs.Stands.{IsSound}
use Rattle.gr_stands_opening.specs.Laws as laws

-- ---- arrays one after another

-- The words of all arrays.
size : List Item → ℕ
size [] = 0
size (item.Array name words ∷ more) = words.value + size more
size (_ ∷ more) = size more

inside_is : (from count at p : ℕ) → at ≡ from + p → p < count → (nat_le from at && nat_lt at (from + count)) ≡ true
inside_is from count at p e l = grind (arith, nat_tests, e, l)

behind_is : (from count at : ℕ) → from + count ≤ at → (nat_le from at && nat_lt at (from + count)) ≡ false
behind_is from count at l = grind (arith, nat_tests, l)

abbrev spot : ℕ → ℕ → Option (ℕ × ℕ)
spot object place = Some (object, place)

pair_is : (k p q : ℕ) → p ≡ q → spot k p ≡ spot (k + 0) q
pair_is k p q e = ap (spot k) e ∙ ap (λ (n : ℕ). spot n q) (none_more k)
  where
    none_more : (k : ℕ) → k ≡ k + 0
    none_more k = omega arith

next_is : (k j p : ℕ) → spot (k + 1 + j) p ≡ spot (k + suc j) p
next_is k j p = ap (λ (n : ℕ). spot n p) (shifted k j)
  where
    shifted : (k j : ℕ) → k + 1 + j ≡ k + suc j
    shifted k j = omega arith

-- An array of the list lies behind its start, and an address of its is found there.
record Placed (k base : ℕ) (items : List Item) (j f c p : ℕ) : Type 0 where
  from : base ≤ f
  to : f + c ≤ base + size items
  found : array_at k (f + p) (objects_from base items) ≡ spot (k + j) p

not_array : (thing : Object) (f c : ℕ) → ((f c : ℕ) → thing ≡ array f c → ⊥) → Some thing ≡ Some (array f c) → ⊥
not_array thing f c n e = n f c (cc)

placed : (items : List Item) (k base j f c p : ℕ) → slice_get (objects_from base items) j ≡ Some (array f c) → p < c → Placed k base items j f c p
unfolding size
placed [] k base j f c p h l = absurd (cc)
placed (item.Array name words ∷ more) k base zero f c p h l =
    let start : base ≡ f = cc in
    let count : words.value ≡ c = cc in
    record {
      from = omega arith;
      to = omega arith;
      found = ap (λ (b : Bool). if b then spot k (f + p - base) else array_at (k + 1) (f + p) (objects_from (base + words.value) more)) (inside_is base words.value (f + p) p (omega arith) (omega arith))
          ∙ pair_is k (f + p - base) p (omega arith);
    }
placed (item.Array name words ∷ more) k base (suc j) f c p h l =
    let r = placed more (k + 1) (base + words.value) j f c p h l in
    record {
      from = omega (arith, r.from);
      to = omega (arith, r.to);
      found = ap (λ (b : Bool). if b then spot k (f + p - base) else array_at (k + 1) (f + p) (objects_from (base + words.value) more)) (behind_is base words.value (f + p) (omega (arith, r.from)))
          ∙ r.found ∙ next_is k j p;
    }
placed (item.Set name ∷ more) k base zero f c p h l = absurd (cc)
placed (item.Set name ∷ more) k base (suc j) f c p h l = let r = placed more (k + 1) base j f c p h l in record { from = r.from; to = r.to; found = r.found ∙ next_is k j p }
placed (item.Map name ∷ more) k base zero f c p h l = absurd (cc)
placed (item.Map name ∷ more) k base (suc j) f c p h l = let r = placed more (k + 1) base j f c p h l in record { from = r.from; to = r.to; found = r.found ∙ next_is k j p }
placed (item.Vector name ∷ more) k base zero f c p h l = absurd (cc)
placed (item.Vector name ∷ more) k base (suc j) f c p h l = let r = placed more (k + 1) base j f c p h l in record { from = r.from; to = r.to; found = r.found ∙ next_is k j p }
placed (item.Heap words ∷ more) k base j f c p h l = let r = placed more k base j f c p h l in record { from = r.from; to = r.to; found = r.found }
placed (item.Show name ∷ more) k base j f c p h l = let r = placed more k base j f c p h l in record { from = r.from; to = r.to; found = r.found }
placed (item.Input name values ∷ more) k base j f c p h l = let r = placed more k base j f c p h l in record { from = r.from; to = r.to; found = r.found }
placed (item.Task name params body ∷ more) k base j f c p h l = let r = placed more k base j f c p h l in record { from = r.from; to = r.to; found = r.found }

-- No array has an address behind them all.
none_behind : (items : List Item) (k base at : ℕ) → base + size items ≤ at → array_at k at (objects_from base items) ≡ None
unfolding size
none_behind [] k base at l = refl
none_behind (item.Array name words ∷ more) k base at l =
    ap (λ (b : Bool). if b then spot k (at - base) else array_at (k + 1) at (objects_from (base + words.value) more)) (behind_is base words.value at (omega arith))
    ∙ none_behind more (k + 1) (base + words.value) at (omega arith)
none_behind (item.Set name ∷ more) k base at l = none_behind more (k + 1) base at l
none_behind (item.Map name ∷ more) k base at l = none_behind more (k + 1) base at l
none_behind (item.Vector name ∷ more) k base at l = none_behind more (k + 1) base at l
none_behind (item.Heap words ∷ more) k base at l = none_behind more k base at l
none_behind (item.Show name ∷ more) k base at l = none_behind more k base at l
none_behind (item.Input name values ∷ more) k base at l = none_behind more k base at l
none_behind (item.Task name params body ∷ more) k base at l = none_behind more k base at l

padded_holds : (count : ℕ) (words : List ℕ) → count ≤ length (padded count words)
padded_holds count words = omega (arith, length-append words (replicate (count - length words) 0), length-replicate {A = ℕ} (count - length words) 0)

words_hold : (all items : List Item) → size items ≤ length (array_words all items)
unfolding size
words_hold all [] = omega arith
words_hold all (item.Array name words ∷ more) = omega (
  arith,
  padded_holds words.value (input_of all name.text),
  length-append (padded words.value (input_of all name.text)) (array_words all more),
  words_hold all more,
)
words_hold all (item.Set name ∷ more) = words_hold all more
words_hold all (item.Map name ∷ more) = words_hold all more
words_hold all (item.Vector name ∷ more) = words_hold all more
words_hold all (item.Heap words ∷ more) = words_hold all more
words_hold all (item.Show name ∷ more) = words_hold all more
words_hold all (item.Input name values ∷ more) = words_hold all more
words_hold all (item.Task name params body ∷ more) = words_hold all more

-- ---- the addresses of a program

module _ (given : Given) where
  abbrev items : List Item
  items = given.program.items

  arrays : ℕ
  arrays = length (array_words items items)

  -- An address, by what it is of.
  record Lies (object place at : ℕ) : Type 0 where
    named : named_at (machine_in given) at ≡ (object, place)
    inside : at < length (machine_in given).code.objects.words

  all_words : length (machine_in given).code.objects.words ≡ length (array_words items items) + heap_words items
  unfolding opening
  all_words = length-append (array_words items items) (replicate (heap_words items) 0) ∙ ap (λ (n : ℕ). length (array_words items items) + n) (length-replicate {A = ℕ} (heap_words items) 0)

  in_heap : (place at : ℕ) → heap_address (machine_in given).code.objects.heap place ≡ Some at → Lies HEAP place at
  unfolding opening
  in_heap place at h = by (nat_le (length (array_words items items)) place && nat_lt place (length (array_words items items) + heap_words items)) refl h
    where
      split : (a b c : ℕ) → (nat_le a b && nat_lt b c) ≡ true → (a ≤ b) × (b < c)
      split a b c e = (grind (arith, nat_tests, e), grind (arith, nat_tests, e))

      by : (b : Bool) → (nat_le (length (array_words items items)) place && nat_lt place (length (array_words items items) + heap_words items)) ≡ b → (if b then Some place else None) ≡ Some at → Lies HEAP place at
      by false e h = absurd (cc)
      by true e h =
          let same : place ≡ at = cc in
          let s = split (length (array_words items items)) place (length (array_words items items) + heap_words items) e in
          record {
            named = ap (or_heap at) (none_behind items 0 0 at (omega (arith, words_hold items items, s.0))) ∙ ap (λ (n : ℕ). (HEAP, n)) (sym same);
            inside = omega (arith, all_words, s.1);
          }

  in_thing : (object place at : ℕ) (thing : Option Object) → slice_get (machine_in given).code.objects.things object ≡ thing → address_in thing place ≡ Some at → Lies object place at
  unfolding opening
  in_thing object place at None e h = absurd (cc)
  in_thing object place at (Some (keys held)) e h = absurd (cc)
  in_thing object place at (Some (pairs held)) e h = absurd (cc)
  in_thing object place at (Some (line words)) e h = absurd (cc)
  in_thing object place at (Some (array f c)) e h = by (nat_lt place c) refl h
    where
      lower : (a b : ℕ) → nat_lt a b ≡ true → a < b
      lower a b e = grind (arith, nat_tests, e)

      by : (b : Bool) → nat_lt place c ≡ b → (if b then Some (f + place) else None) ≡ Some at → Lies object place at
      by false q h = absurd (cc)
      by true q h =
          let same : f + place ≡ at = cc in
          let r = placed items 0 0 object f c place e (lower place c q) in
          record {
            named = ap (λ (n : ℕ). or_heap n (array_at 0 n (objects_from 0 items))) (sym same) ∙ ap (or_heap (f + place)) r.found ∙ ap (λ (n : ℕ). (n, place)) (none_before object);
            inside = omega (arith, all_words, r.to, lower place c q, words_hold items items);
          }
        where
          none_before : (n : ℕ) → 0 + n ≡ n
          none_before n = omega arith

  lies : (object place at : ℕ) → address (machine_in given).code.objects object place ≡ Some at → Lies object place at
  lies object place at h = by (object == HEAP) refl h
    where
      equal_so : (a b : ℕ) → (a == b) ≡ true → b ≡ a
      equal_so a b e = grind (arith, nat_tests, e)

      by : (b : Bool) → (object == HEAP) ≡ b
          → (if b then heap_address (machine_in given).code.objects.heap place else address_in (slice_get (machine_in given).code.objects.things object) place) ≡ Some at → Lies object place at
      by true e h = subst (λ (n : ℕ). Lies n place at) (equal_so object HEAP e) (in_heap place at h)
      by false e h = in_thing object place at (slice_get (machine_in given).code.objects.things object) refl h

pub programs_are_sound : laws.ProgramsAreSound
programs_are_sound given cores block = record {
  cores = cores;
  block = block;
  named = λ object place at h. (lies given object place at h).named;
  inside = λ object place at h. (lies given object place at h).inside;
}
