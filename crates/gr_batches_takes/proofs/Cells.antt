-- What calls do to what stands under one key.
use Rattle.std.proofs.Common.{◌≡◌, ◌≢◌, ℕ, zero, suc, ◌||◌, ◌&&◌, not, Bool, true, false, if◌then◌else◌, cond, List, [], ◌∷◌, slice_get, slice_set, inl, inr, sym, ◌∙◌, ap, subst, refl, Option, Some, None}
use Rattle.std.specs.Option.{option_and_then}
use Rattle.std.specs.Ordering.{nat_cmp, eq_by_cmp}
use Rattle.std.specs.FinMap as map
use Rattle.std.specs.FinSet as set
use Rattle.std.proofs.lemmas.Bool.{cases_eq}
use Rattle.std.proofs.lemmas.Cmp.{eq_by_cmp_equiv, nat_cmp_total}
use Rattle.std.proofs.lemmas.Map.Lookups.{exact_unsigned}
use Rattle.std.proofs.lemmas.Map.Views.{tells_apart}
use Rattle.gr_lang.specs.declared.action.Op.{Op}
use Rattle.gr_lang.specs.declared.action.Op.TheVariants as op
use Rattle.gr_lang.specs.Effects.{after, effect_of, key_reply, word_after}
use Rattle.gr_lang.specs.Objects.{Object, array, keys, pairs, line, Objects, Called, call, address, under, with_key, affected, with_object, on_key, at_object, on_object}
use Rattle.gr_machine.specs.Machines.{Machine, thing}
use Rattle.gr_machine.specs.Calls.{is_keyed}
use Rattle.gr_stands.specs.Memory.{under_key, emptied, kind_of, kind_at}
use Rattle.gr_batches.specs.Keys.{IsKeyed, IsOn}
use Rattle.gr_batches_takes.proofs.Words.{IsReduceOf}

-- ---- numbers as keys

key_self : (k : ℕ) → eq_by_cmp nat_cmp k k ≡ true
key_self k = (eq_by_cmp_equiv nat_cmp_total).refl k

key_other : (j k : ℕ) → j ≢ k → eq_by_cmp nat_cmp j k ≡ false
key_other j k ne = go (eq_by_cmp nat_cmp j k) refl
  where
    go : (b : Bool) → eq_by_cmp nat_cmp j k ≡ b → eq_by_cmp nat_cmp j k ≡ false
    go true e = absurd (ne (tells_apart exact_unsigned j k e))
    go false e = e

-- ---- lists

set_there : {X : Type 0} (xs : List X) (i : ℕ) (x y : X) → slice_get xs i ≡ Some y → slice_get (slice_set xs i x) i ≡ Some x
set_there [] i x y e = absurd (cc)
set_there (z ∷ xs) zero x y e = refl
set_there (z ∷ xs) (suc i) x y e = set_there xs i x y e

set_elsewhere : {X : Type 0} (xs : List X) (i j : ℕ) (x : X) → j ≢ i → slice_get (slice_set xs i x) j ≡ slice_get xs j
set_elsewhere [] i j x ne = refl
set_elsewhere (z ∷ xs) zero zero x ne = absurd (ne refl)
set_elsewhere (z ∷ xs) zero (suc j) x ne = refl
set_elsewhere (z ∷ xs) (suc i) zero x ne = refl
set_elsewhere (z ∷ xs) (suc i) (suc j) x ne = set_elsewhere xs i j x (λ q. ne (ap suc q))

-- ---- one key of one object

-- What an effect of a call makes of one key of a set or map.
record Affects (thing : Object) (key : ℕ) (call : Op) : Type 0 where
  here : under (affected thing key (effect_of call)) key ≡ after (effect_of call) (under thing key)
  there : (other : ℕ) → other ≢ key → under (affected thing key (effect_of call)) other ≡ under thing other
  kind : emptied (affected thing key (effect_of call)) ≡ emptied thing

abbrev zero_if : Bool → Option ℕ
zero_if b = if b then Some 0 else None

module _ (held : set.FinSet nat_cmp) (key : ℕ) where
  set_in : (other : ℕ) → set.contains (set.insert held key) other ≡ (eq_by_cmp nat_cmp other key || set.contains held other)
  set_in other = set.contains-insert nat_cmp_total held key other

  set_out : (other : ℕ) → set.contains (set.remove held key) other ≡ (not (eq_by_cmp nat_cmp other key) && set.contains held other)
  set_out other = set.contains-remove nat_cmp_total held key other

  inserted : (call : Op) → affected (keys held) key (effect_of call) ≡ keys (set.insert held key) → after (effect_of call) (under (keys held) key) ≡ Some 0 → Affects (keys held) key call
  inserted call e a = record {
    here = ap (λ (x : Object). under x key) e ∙ ap zero_if (set_in key ∙ ap (λ (b : Bool). b || set.contains held key) (key_self key)) ∙ sym a;
    there = λ other ne. ap (λ (x : Object). under x other) e ∙ ap zero_if (set_in other ∙ ap (λ (b : Bool). b || set.contains held other) (key_other other key ne));
    kind = ap emptied e;
  }

  removed : (call : Op) → affected (keys held) key (effect_of call) ≡ keys (set.remove held key) → after (effect_of call) (under (keys held) key) ≡ None → Affects (keys held) key call
  removed call e a = record {
    here = ap (λ (x : Object). under x key) e ∙ ap zero_if (set_out key ∙ ap (λ (b : Bool). not b && set.contains held key) (key_self key)) ∙ sym a;
    there = λ other ne. ap (λ (x : Object). under x other) e ∙ ap zero_if (set_out other ∙ ap (λ (b : Bool). not b && set.contains held other) (key_other other key ne));
    kind = ap emptied e;
  }

module _ (held : map.FinMap nat_cmp ℕ) (key : ℕ) where
  put_in : (call : Op) (word : ℕ) → affected (pairs held) key (effect_of call) ≡ pairs (map.insert held key word) → after (effect_of call) (under (pairs held) key) ≡ Some word
      → Affects (pairs held) key call
  put_in call word e a = record {
    here = ap (λ (x : Object). under x key) e ∙ map.get-insert nat_cmp_total held key word key ∙ ap (λ (b : Bool). cond b (Some word) (map.get held key)) (key_self key) ∙ sym a;
    there = λ other ne. ap (λ (x : Object). under x other) e ∙ map.get-insert nat_cmp_total held key word other
        ∙ ap (λ (b : Bool). cond b (Some word) (map.get held other)) (key_other other key ne);
    kind = ap emptied e;
  }

  taken_out : (call : Op) → affected (pairs held) key (effect_of call) ≡ pairs (map.remove held key) → after (effect_of call) (under (pairs held) key) ≡ None → Affects (pairs held) key call
  taken_out call e a = record {
    here = ap (λ (x : Object). under x key) e ∙ map.get-remove nat_cmp_total held key key ∙ ap (λ (b : Bool). cond b None (map.get held key)) (key_self key) ∙ sym a;
    there = λ other ne. ap (λ (x : Object). under x other) e ∙ map.get-remove nat_cmp_total held key other
        ∙ ap (λ (b : Bool). cond b None (map.get held other)) (key_other other key ne);
    kind = ap emptied e;
  }

  merged : (on reducer under_it word : ℕ) → Affects (pairs held) key (op.Merge on reducer under_it word)
  merged on reducer under_it word = by (map.get held key) refl
    where
      by : (o : Option ℕ) → map.get held key ≡ o → Affects (pairs held) key (op.Merge on reducer under_it word)
      by None e = put_in (op.Merge on reducer under_it word) word
          (ap (λ (x : Option ℕ). with_key (pairs held) key (after (effect_of (op.Merge on reducer under_it word)) x)) e)
          (ap (after (effect_of (op.Merge on reducer under_it word))) e)
      by (Some old) e = put_in (op.Merge on reducer under_it word) (word_after (op.Reduce on reducer 0 word) old)
          (ap (λ (x : Option ℕ). with_key (pairs held) key (after (effect_of (op.Merge on reducer under_it word)) x)) e)
          (ap (after (effect_of (op.Merge on reducer under_it word))) e)

-- An array and a vector have no such call, nor has no object.
pub array_keyed : (from count : ℕ) (o : Op) → is_keyed o (Some (array from count)) ≡ true → ⊥
array_keyed from count (op.Insert on under_it) e = cc
array_keyed from count _ e = cc

pub line_keyed : (words : List ℕ) (o : Op) → is_keyed o (Some (line words)) ≡ true → ⊥
line_keyed words (op.Insert on under_it) e = cc
line_keyed words _ e = cc

pub none_keyed : (o : Op) → is_keyed o None ≡ true → ⊥
none_keyed (op.Insert on under_it) e = cc
none_keyed _ e = cc

-- A call that the set or map has.
affects : (it : Object) (key : ℕ) (o : Op) → is_keyed o (Some it) ≡ true → Affects it key o
affects (keys held) key (op.Insert on under_it) k = inserted held key (op.Insert on under_it) refl refl
affects (keys held) key (op.Remove on under_it) k = removed held key (op.Remove on under_it) refl refl
affects (keys held) key (op.Has on under_it) k = record { here = refl; there = λ other ne. refl; kind = refl }
affects (keys held) key _ k = absurd (cc)
affects (pairs held) key (op.Put on under_it word) k = put_in held key (op.Put on under_it word) word refl refl
affects (pairs held) key (op.Get on under_it) k = record { here = refl; there = λ other ne. refl; kind = refl }
affects (pairs held) key (op.Erase on under_it) k = taken_out held key (op.Erase on under_it) refl refl
affects (pairs held) key (op.Merge on reducer under_it word) k = merged held key on reducer under_it word
affects (pairs held) key _ k = absurd (cc)
affects (array from count) key o k = absurd (array_keyed from count o k)
affects (line words) key o k = absurd (line_keyed words o k)

-- Whether an object has a call depends on its kind alone.
of_keys : (o : Op) (a b : set.FinSet nat_cmp) → is_keyed o (Some (keys a)) ≡ is_keyed o (Some (keys b))
of_keys (op.Insert on under_it) a b = refl
of_keys _ a b = refl

of_pairs : (o : Op) (a b : map.FinMap nat_cmp ℕ) → is_keyed o (Some (pairs a)) ≡ is_keyed o (Some (pairs b))
of_pairs (op.Put on under_it word) a b = refl
of_pairs _ a b = refl

of_line : (o : Op) (a b : List ℕ) → is_keyed o (Some (line a)) ≡ is_keyed o (Some (line b))
of_line (op.Put on under_it word) a b = refl
of_line _ a b = refl

of_kind : (o : Op) (it : Option Object) → is_keyed o it ≡ is_keyed o (kind_of it)
of_kind o None = refl
of_kind o (Some (array from count)) = refl
of_kind o (Some (keys held)) = of_keys o held set.empty
of_kind o (Some (pairs held)) = of_pairs o held map.empty
of_kind o (Some (line words)) = of_line o words []

module _ (machine : Machine) (object key : ℕ) where
  -- The objects are of the kinds with which the machine opens.
  pub record HasKey (S : Objects) : Type 0 where
    pub kinds : (other : ℕ) → kind_at S other ≡ kind_at machine.code.objects other

  pub record PutsKey (S : Objects) (value : Option ℕ) (T : Objects) : Type 0 where
    pub here : under_key T object key ≡ value
    pub there : (other another : ℕ) → ((other ≡ object) × (another ≡ key) → ⊥) → under_key T other another ≡ under_key S other another
    pub words : T.words ≡ S.words
    pub live : T.live ≡ S.live
    pub heap : T.heap ≡ S.heap
    pub kinds : (other : ℕ) → kind_at T other ≡ kind_at S other

  -- A call under the key, which the object has.
  pub record IsCallOf (o : Op) : Type 0 where
    pub is : (S : Objects) → call o S ≡ on_object object (on_key key o) S
    pub has : is_keyed o (thing machine object) ≡ true

  abbrev pub key_at : Objects → Option ℕ
  key_at S = under_key S object key

  pub key_nothing : (S : Objects) → HasKey S → PutsKey S (key_at S) S
  key_nothing S f = record { here = refl; there = λ other another ne. refl; words = refl; live = refl; heap = refl; kinds = λ other. refl }

  -- The object that has the call, and what the call does.
  record Made (S : Objects) (o : Op) : Type 0 where
    it : Object
    there : slice_get S.things object ≡ Some it
    has : is_keyed o (Some it) ≡ true

  made : (S : Objects) (o : Op) → HasKey S → IsCallOf o → Made S o
  made S o f g = by (slice_get S.things object) refl
    where
      by : (x : Option Object) → slice_get S.things object ≡ x → Made S o
      by None e = absurd (none_keyed o (sym (ap (is_keyed o) e) ∙ of_kind o (slice_get S.things object) ∙ ap (is_keyed o) (f.kinds object) ∙ sym (of_kind o (thing machine object)) ∙ g.has))
      by (Some it) e = record {
        it = it;
        there = e;
        has = sym (ap (is_keyed o) e) ∙ of_kind o (slice_get S.things object) ∙ ap (is_keyed o) (f.kinds object) ∙ sym (of_kind o (thing machine object)) ∙ g.has;
      }

  call_is : (S : Objects) (o : Op) → IsCallOf o → (m : Made S o) → call o S ≡ (with_object S object (affected m.it key (effect_of o)), key_reply o (under m.it key))
  call_is S o g m = g.is S ∙ ap (λ (x : Option Object). at_object x object (on_key key o) S) m.there

  cell_is : (S : Objects) (o : Op) (m : Made S o) → key_at S ≡ under m.it key
  cell_is S o m = ap (option_and_then (λ (x : Object). under x key)) m.there

  pub key_makes : (S : Objects) (o : Op) → HasKey S → IsCallOf o → PutsKey S (after (effect_of o) (key_at S)) (call o S).0
  key_makes S o f g =
      let m : Made S o = made S o f g in
      let a : Affects m.it key o = affects m.it key o m.has in
      let new : Object = affected m.it key (effect_of o) in
      let there : slice_get (slice_set S.things object new) object ≡ Some new = set_there S.things object new m.it m.there in
      subst (PutsKey S (after (effect_of o) (key_at S))) (sym (ap (λ (c : Called). c.0) (call_is S o g m))) (record {
        here = ap (option_and_then (λ (x : Object). under x key)) there ∙ a.here ∙ ap (after (effect_of o)) (sym (cell_is S o m));
        there = λ other another ne. elim (cases_eq other object) [
          | inl e ↦ ap (λ (i : ℕ). option_and_then (λ (x : Object). under x another) (slice_get (slice_set S.things object new) i)) e
              ∙ ap (option_and_then (λ (x : Object). under x another)) there ∙ a.there another (λ q. ne (e, q))
              ∙ sym (ap (λ (i : ℕ). option_and_then (λ (x : Object). under x another) (slice_get S.things i)) e ∙ ap (option_and_then (λ (x : Object). under x another)) m.there)
          | inr n ↦ ap (option_and_then (λ (x : Object). under x another)) (set_elsewhere S.things object other new n)
        ];
        words = refl;
        live = refl;
        heap = refl;
        kinds = λ other. elim (cases_eq other object) [
          | inl e ↦ ap (λ (i : ℕ). kind_of (slice_get (slice_set S.things object new) i)) e ∙ ap kind_of there ∙ ap Some a.kind
              ∙ sym (ap (λ (i : ℕ). kind_of (slice_get S.things i)) e ∙ ap kind_of m.there)
          | inr n ↦ ap kind_of (set_elsewhere S.things object other new n)
        ];
      })

  pub key_replies : (S : Objects) (o : Op) → HasKey S → IsCallOf o → (call o S).1 ≡ key_reply o (key_at S)
  key_replies S o f g =
      let m : Made S o = made S o f g in
      ap (λ (c : Called). c.1) (call_is S o g m) ∙ ap (key_reply o) (sym (cell_is S o m))

  pub key_chained : (S T U : Objects) (x y : Option ℕ) → PutsKey S x T → PutsKey T y U → PutsKey S y U
  key_chained S T U x y p q = record {
    here = q.here;
    there = λ other another ne. q.there other another ne ∙ p.there other another ne;
    words = q.words ∙ p.words;
    live = q.live ∙ p.live;
    heap = q.heap ∙ p.heap;
    kinds = λ other. q.kinds other ∙ p.kinds other;
  }

  pub key_cell : (S T : Objects) (x : Option ℕ) → HasKey S → PutsKey S x T → key_at T ≡ x
  key_cell S T x f p = p.here

  pub key_fine : (S T : Objects) (x : Option ℕ) → HasKey S → PutsKey S x T → HasKey T
  key_fine S T x f p = record { kinds = λ other. p.kinds other ∙ f.kinds other }

-- ---- which calls these are

module _ (machine : Machine) (object key : ℕ) where
  pub as_word : (o : Op) → IsOn machine object key o → (is_keyed o (thing machine object) ≡ true → ⊥) → IsReduceOf machine object key o
  as_word (op.Insert on under_it) r none = absurd (none r.has)
  as_word (op.Remove on under_it) r none = absurd (none r.has)
  as_word (op.Has on under_it) r none = absurd (none r.has)
  as_word (op.Put on under_it word) r none = absurd (none r.has)
  as_word (op.Get on under_it) r none = absurd (none r.has)
  as_word (op.Erase on under_it) r none = absurd (none r.has)
  as_word (op.Merge on reducer under_it word) r none = absurd (none r.has)
  as_word (op.Reduce on reducer place word) r none = record { on = on; reducer = reducer; place = place; word = word; is = refl; object_is = r.object_is; lies = r.lies; known = r.known }
  as_word _ r none = absurd r

  keyed : (o : Op) (on under_it : ℕ) → IsKeyed machine object key o on under_it → ((S : Objects) → call o S ≡ on_object on (on_key under_it o) S) → IsCallOf machine object key o
  keyed o on under_it r is = record {
    is = λ S. is S ∙ ap (λ (n : ℕ). on_object n (on_key under_it o) S) r.object_is ∙ ap (λ (k : ℕ). on_object object (on_key k o) S) r.key_is;
    has = r.has;
  }

  pub as_key : (o : Op) → IsOn machine object key o → ((place : ℕ) → address machine.code.objects object place ≡ Some key → ⊥) → IsCallOf machine object key o
  as_key (op.Insert on under_it) r none = keyed (op.Insert on under_it) on under_it r (λ S. refl)
  as_key (op.Remove on under_it) r none = keyed (op.Remove on under_it) on under_it r (λ S. refl)
  as_key (op.Has on under_it) r none = keyed (op.Has on under_it) on under_it r (λ S. refl)
  as_key (op.Put on under_it word) r none = keyed (op.Put on under_it word) on under_it r (λ S. refl)
  as_key (op.Get on under_it) r none = keyed (op.Get on under_it) on under_it r (λ S. refl)
  as_key (op.Erase on under_it) r none = keyed (op.Erase on under_it) on under_it r (λ S. refl)
  as_key (op.Merge on reducer under_it word) r none = keyed (op.Merge on reducer under_it word) on under_it r (λ S. refl)
  as_key (op.Reduce on reducer place word) r none = absurd (none place (ap (λ (n : ℕ). address machine.code.objects n place) (sym r.object_is) ∙ r.lies))
  as_key _ r none = absurd r
