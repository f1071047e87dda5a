-- What the first of several holds, where one alone holds something.
use Rattle.std.proofs.Common.{◌≡◌, ◌≢◌, ℕ, zero, suc, ◌+◌, ◌<◌, List, [], ◌∷◌, Bool, true, false, Option, Some, None, refl, sym, ap, ◌∙◌, subst, length, get_or, arith, eq-eqb, ne_eqb}
use Rattle.std.proofs.lemmas.List.{ext_get_or}
use Rattle.std.specs.Prelude.{T, map, if◌then◌else◌, slice_index}
use Rattle.std.specs.Cmp.{nat_cmp_total}
use Rattle.std.specs.FinMap.{nat_cmp-IsAntisymmetric}
use Rattle.std.specs.FinMap.Entries.{same_entries}
use Rattle.std.specs.Map.{keys_of, values_of}
use Rattle.std.specs.Option.{option_or}
use Rattle.std.specs.Ordering.{nat_cmp}
use Rattle.gr_store.specs.Stores.{Lists}
use Rattle.gr_memory.specs.declared.contents.Content.{Content}
use Rattle.gr_memory.specs.declared.contents.Content.TheVariants as content
use Rattle.gr_code.specs.declared.shapes.Shape.{Shape}
use Rattle.gr_code.specs.declared.shapes.Shape.TheVariants as shape
use Rattle.gr_machine.specs.Machines.{Machine, home, place}
use Rattle.gr_core.specs.Cores.{run_of}
use Rattle.gr_core.specs.declared.cores.Core.{Core}
use Rattle.gr_courses.specs.Seen.{Seen}
use Rattle.gr_report.specs.Gathered.{AreGathered, AreKeys, AreValues, AreWords, IsGathered, first_held, held_by, word_by, word_in, word_of}
use Rattle.gr_report.specs.Laws.{AreInOrder}

-- One thing.

so : (b : Bool) → b ≡ true → T b
so true e = tt
so false e = cc

lists_once : (xs ys : List (ℕ × ℕ)) (under : ℕ → Option ℕ) → Lists xs under → Lists ys under → xs ≡ ys
lists_once xs ys under h k = same_entries nat_cmp nat_cmp_total nat_cmp-IsAntisymmetric xs ys (so _ h.rising) (so _ k.rising) (λ q. h.each q ∙ sym (k.each q))

some_is : (x y : ℕ) (o : Option ℕ) → o ≡ Some x → o ≡ Some y → x ≡ y
some_is x y o e f = cc

words_once : (cores : List Core) (from count : ℕ) (xs ys : List ℕ) → AreWords cores from count xs → AreWords cores from count ys → xs ≡ ys
words_once cores from count xs ys h k = ext_get_or 0 xs ys (h.len ∙ sym k.len)
    (λ i lt. some_is (slice_index xs i) (slice_index ys i) _ (h.each i lt) (k.each i (subst (λ n. i < n) (h.len ∙ sym k.len) lt)))

keys_once : (under : ℕ → Option ℕ) (xs ys : List ℕ) → AreKeys under xs → AreKeys under ys → xs ≡ ys
keys_once under xs ys h k = h.keys_are ∙ ap keys_of (lists_once h.pairs k.pairs under h.lists k.lists) ∙ sym k.keys_are

values_once : (under : ℕ → Option ℕ) (xs ys : List ℕ) → AreValues under xs → AreValues under ys → xs ≡ ys
values_once under xs ys h k = h.words_are ∙ ap values_of (lists_once h.pairs k.pairs under h.lists k.lists) ∙ sym k.words_are

one_once : (cores : List Core) (object : ℕ) (s : Shape) (x y : Content) → IsGathered cores object s x → IsGathered cores object s y → x ≡ y
one_once cores object (shape.Words from count) (content.Array xs) (content.Array ys) h k = ap content.Array (words_once cores from count xs ys h k)
one_once cores object (shape.Words from count) (content.Array xs) _ h k = absurd k
one_once cores object shape.Set (content.Set xs) (content.Set ys) h k = ap content.Set (keys_once (held_by cores object) xs ys h k)
one_once cores object shape.Set (content.Set xs) _ h k = absurd k
one_once cores object shape.Map (content.Map xs) (content.Map ys) h k = ap content.Map (lists_once xs ys (held_by cores object) h k)
one_once cores object shape.Map (content.Map xs) _ h k = absurd k
one_once cores object shape.Vector (content.Vector xs) (content.Vector ys) h k = ap content.Vector (values_once (held_by cores object) xs ys h k)
one_once cores object shape.Vector (content.Vector xs) _ h k = absurd k
one_once cores object _ _ _ h k = absurd h

pub once : (cores : List Core) (object : ℕ) (shapes : List Shape) (xs ys : List Content) → AreGathered cores object shapes xs → AreGathered cores object shapes ys → xs ≡ ys
once cores object [] [] [] h k = refl
once cores object (s ∷ shapes) (x ∷ xs) (y ∷ ys) h k = λ i. one_once cores object s x y h.0 k.0 i ∷ once cores (object + 1) shapes xs ys h.1 k.1 i
once cores object [] [] (y ∷ ys) h k = absurd k
once cores object [] (x ∷ xs) ys h k = absurd h
once cores object (s ∷ shapes) [] ys h k = absurd h
once cores object (s ∷ shapes) (x ∷ xs) [] h k = absurd k

-- One alone.

or_none : (x : Option ℕ) → option_or x None ≡ x
or_none None = refl
or_none (Some w) = refl

module _ {X : Type 0} (held : X → ℕ → Option ℕ) (at : ℕ) (d : X) where
  pub first_none : (xs : List X) → ((i : ℕ) → i < length xs → held (get_or xs i d) at ≡ None) → first_held (map held xs) at ≡ None
  unfolding first_held
  first_none [] h = refl
  first_none (x ∷ xs) h = ap (λ (o : Option ℕ). option_or o (first_held (map held xs) at)) (h 0 (omega arith)) ∙ first_none xs (λ i lt. h (suc i) (omega arith))

  pub first_alone : (xs : List X) (one : ℕ) → one < length xs → ((i : ℕ) → i < length xs → i ≢ one → held (get_or xs i d) at ≡ None) → first_held (map held xs) at ≡ held (get_or xs one d) at
  unfolding first_held
  first_alone [] one lt h = absurd (omega (arith, lt))
  first_alone (x ∷ xs) zero lt h = ap (option_or (held x at)) (first_none xs (λ i less. h (suc i) (omega arith) (λ e. omega (arith, e)))) ∙ or_none (held x at)
  first_alone (x ∷ xs) (suc one) lt h =
      ap (λ (o : Option ℕ). option_or o (first_held (map held xs) at)) (h 0 (omega arith) (λ e. omega (arith, e)))
      ∙ first_alone xs one (omega arith) (λ i less n. h (suc i) (omega arith) (λ e. n (omega (arith, e))))

-- The word at its home.

here : (seen : Seen) (machine : Machine) (me at : ℕ) → seen.machine ≡ machine → seen.me ≡ me → home machine at ≡ me → word_in seen at ≡ seen.core.body.words.segment (place machine at)
here seen machine me at e f h =
    ap (λ (b : Bool). if b then seen.core.body.words.segment (place seen.machine at) else None) (eq-eqb (home seen.machine at) seen.me (ap (λ m. home m at) e ∙ h ∙ sym f))
    ∙ ap (λ m. seen.core.body.words.segment (place m at)) e

elsewhere : (seen : Seen) (machine : Machine) (me at : ℕ) → seen.machine ≡ machine → seen.me ≡ me → me ≢ home machine at → word_in seen at ≡ None
elsewhere seen machine me at e f n =
    ap (λ (b : Bool). if b then seen.core.body.words.segment (place seen.machine at) else None)
    (ne_eqb (home seen.machine at) seen.me (λ h. n (sym f ∙ sym h ∙ ap (λ m. home m at) e)))

pub at_home : (machine : Machine) (cores : List Core) (at : ℕ) (d : Core) → AreInOrder machine cores → home machine at < machine.setup.cores
    → word_by cores at ≡ (run_of (get_or cores (home machine at) d)).seen.core.body.words.segment (place machine at)
at_home machine cores at d h lt =
    let within : home machine at < length cores = subst (λ n. home machine at < n) (sym h.len) lt in
    first_alone word_of at d cores (home machine at) within (λ i less n. elsewhere (run_of (get_or cores i d)).seen machine i at (h.of_machine i d less) (h.numbered i d less) n)
    ∙ here (run_of (get_or cores (home machine at) d)).seen machine (home machine at) at (h.of_machine (home machine at) d within) (h.numbered (home machine at) d within) refl
