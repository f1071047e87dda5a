-- What calls do to one word.
use Rattle.std.proofs.Common.{◌≡◌, ℕ, zero, suc, ◌<◌, true, List, [], ◌∷◌, length, slice_get, slice_set, slice_index, sym, ◌∙◌, ap, subst, refl, Option, Some}
use Rattle.std.proofs.lemmas.List.{set-get_or}
use Rattle.std.proofs.lemmas.Option.{slice_get-get_or}
use Rattle.gr_lang.specs.declared.action.Op.{Op}
use Rattle.gr_lang.specs.declared.action.Op.TheVariants as op
use Rattle.gr_lang.specs.Effects.{after, effect_of, key_reply, word_after, word_reply}
use Rattle.gr_lang.specs.Objects.{Objects, Called, call, address, at_address}
use Rattle.gr_machine.specs.Machines.{Machine}
use Rattle.gr_machine.specs.Calls.{is_reducer}
use Rattle.gr_stands.specs.Memory.{kind_at}
use Rattle.gr_stands.proofs.Memories.{get_set}
use Rattle.gr_stands_calls.proofs.Made.{address_same}

set_twice : (xs : List ℕ) (i x y : ℕ) → slice_set (slice_set xs i x) i y ≡ slice_set xs i y
set_twice [] i x y = refl
set_twice (z ∷ xs) zero x y = refl
set_twice (z ∷ xs) (suc i) x y = ap (λ (l : List ℕ). z ∷ l) (set_twice xs i x y)

length_set : (xs : List ℕ) (i x : ℕ) → length (slice_set xs i x) ≡ length xs
length_set [] i x = refl
length_set (z ∷ xs) zero x = refl
length_set (z ∷ xs) (suc i) x = ap suc (length_set xs i x)

-- ---- one word

module _ (machine : Machine) (object key : ℕ) where
  -- The objects are of the kinds with which the machine opens, and have the word.
  pub record HasWord (S : Objects) : Type 0 where
    pub kinds : (other : ℕ) → kind_at S other ≡ kind_at machine.code.objects other
    pub heap : S.heap ≡ machine.code.objects.heap
    pub low : key < length S.words

  pub record PutsWord (S : Objects) (value : Option ℕ) (T : Objects) : Type 0 where
    pub word : ℕ
    pub is : value ≡ Some word
    pub objects : T ≡ record S { words = slice_set S.words key word }

  -- A reduce of the word.
  pub record IsReduceOf (call : Op) : Type 0 where
    pub on : ℕ
    pub reducer : ℕ
    pub place : ℕ
    pub word : ℕ
    pub is : call ≡ op.Reduce on reducer place word
    pub object_is : on ≡ object
    pub lies : address machine.code.objects on place ≡ Some key
    pub known : is_reducer reducer ≡ true

  abbrev pub word_at : Objects → Option ℕ
  word_at S = slice_get S.words key

  pub word_is : (S : Objects) → HasWord S → word_at S ≡ Some (slice_index S.words key)
  word_is S f = slice_get-get_or S.words key 0 f.low

  pub word_nothing : (S : Objects) → HasWord S → PutsWord S (word_at S) S
  word_nothing S f = record {
    word = slice_index S.words key;
    is = word_is S f;
    objects = ap (λ (xs : List ℕ). record S { words = xs }) (sym (set-get_or S.words key 0));
  }

  reduces : (S : Objects) (o : Op) → HasWord S → (g : IsReduceOf o)
      → call o S ≡ (
        record S { words = slice_set S.words key (word_after (op.Reduce g.on g.reducer g.place g.word) (slice_index S.words key)) },
        word_reply (op.Reduce g.on g.reducer g.place g.word) (slice_index S.words key),
      )
  reduces S o f g = ap (λ (c : Op). call c S) g.is
      ∙ ap (λ (a : Option ℕ). at_address a (op.Reduce g.on g.reducer g.place g.word) S) (address_same machine.code.objects S f.kinds f.heap g.on g.place ∙ g.lies)

  pub word_makes : (S : Objects) (o : Op) → HasWord S → IsReduceOf o → PutsWord S (after (effect_of o) (word_at S)) (call o S).0
  word_makes S o f g = record {
    word = word_after (op.Reduce g.on g.reducer g.place g.word) (slice_index S.words key);
    is = ap (λ (c : Op). after (effect_of c) (word_at S)) g.is ∙ ap (after (effect_of (op.Reduce g.on g.reducer g.place g.word))) (word_is S f);
    objects = ap (λ (c : Called). c.0) (reduces S o f g);
  }

  pub word_replies : (S : Objects) (o : Op) → HasWord S → IsReduceOf o → (call o S).1 ≡ key_reply o (word_at S)
  word_replies S o f g = ap (λ (c : Called). c.1) (reduces S o f g)
      ∙ sym (ap (λ (c : Op). key_reply c (word_at S)) g.is ∙ ap (key_reply (op.Reduce g.on g.reducer g.place g.word)) (word_is S f))

  pub word_chained : (S T U : Objects) (x y : Option ℕ) → PutsWord S x T → PutsWord T y U → PutsWord S y U
  word_chained S T U x y p q = record {
    word = q.word;
    is = q.is;
    objects = q.objects ∙ ap (λ (R : Objects). record R { words = slice_set R.words key q.word }) p.objects
        ∙ ap (λ (xs : List ℕ). record S { words = xs }) (set_twice S.words key p.word q.word);
  }

  pub word_cell : (S T : Objects) (x : Option ℕ) → HasWord S → PutsWord S x T → word_at T ≡ x
  word_cell S T x f p = ap word_at p.objects ∙ get_set S.words key p.word f.low ∙ sym p.is

  pub word_fine : (S T : Objects) (x : Option ℕ) → HasWord S → PutsWord S x T → HasWord T
  word_fine S T x f p = subst HasWord (sym p.objects)
      (record { kinds = f.kinds; heap = f.heap; low = subst (λ (n : ℕ). key < n) (sym (length_set S.words key p.word)) f.low })
