-- No array, no input and no heap of an accepted program has more words than all may have, and there are few arrays.
use Rattle.std.proofs.Common.{◌≡◌, ℕ, zero, suc, ◌+◌, ◌-◌, ◌*◌, ◌≤◌, ◌^◌, Bool, true, false, not, ◌&&◌, List, [], ◌∷◌, ◌++◌, length, map, Option, Some, None, if◌then◌else◌, refl, arith, length-append, codes}
use Rattle.std.specs.Prelude.{nat_le, nat_lt, replicate, slice_get}
use Rattle.std.specs.Str.{bytes_eq}
use Rattle.std.proofs.lemmas.List.{length-replicate}
use Rattle.std.proofs.lemmas.Bool.Decides.{nat_tests}
use Rattle.gr_syntax.specs.declared.limits.TheConstants.{MAX_OBJECTS, MAX_WORDS}
use Rattle.gr_syntax.specs.declared.refusal.Kind.TheVariants as kind
use Rattle.gr_syntax.specs.declared.syntax.Item.{Item}
use Rattle.gr_syntax.specs.declared.syntax.Item.TheVariants as i
use Rattle.gr_syntax.specs.declared.syntax.Name.{Name}
use Rattle.gr_syntax.specs.declared.syntax.Number.{Number}
use Rattle.gr_syntax.specs.declared.syntax.Program.{Program}
use Rattle.gr_syntax.specs.Faults.{when}
use Rattle.gr_accept.specs.declared.operation.Declared.{Declared}
use Rattle.gr_accept.specs.declared.operation.Declared.TheVariants as d
use Rattle.gr_accept.specs.Accepted.{object_sites, head_sites, heads_sites, uses_sites}
use Rattle.gr_accept.specs.Conditions.{faults_at, words_in, is_array, past_faults, past_array}
use Rattle.gr_accept.specs.Declarations.{first_named}
use Rattle.gr_accept.specs.Sites.{sizes, declares, shows, fills, begins, ends}
use Rattle.gr_accept.specs.Walks.{body_sites}
use Rattle.gr_lang.specs.Openings.{opening, objects_from, input_of, padded, array_words, heap_words}
use Rattle.gr_known.proofs.Bodies.{Clean}
use Rattle.gr_fits.proofs.Sites.{front_empty, front_clean, back_clean, unbroken}
use Rattle.gr_fits_objects.proofs.Few.{objects_few}
use Rattle.gr_fits_words_heap.specs.Laws as laws

-- ---- sizes

-- Each array and heap has no more words than all may have.
abbrev Sized : List Item → Type 0
Sized [] = Unit {0}
Sized (i.Array name words ∷ more) = (words.value ≤ MAX_WORDS) × Sized more
Sized (i.Heap words ∷ more) = (words.value ≤ MAX_WORDS) × Sized more
Sized (_ ∷ more) = Sized more

within : (a b : ℕ) → a ≤ MAX_WORDS → (nat_le a MAX_WORDS && nat_lt MAX_WORDS b) ≡ false → b ≤ MAX_WORDS
within a b h e = grind (arith, nat_tests)

one_sized : (p : Program) (n : Number) (before : List Item) → words_in before ≤ MAX_WORDS → Clean p (sizes n before ∷ []) → words_in before + n.value ≤ MAX_WORDS
unfolding faults_at
one_sized p n before h e = within (words_in before) (words_in before + n.value) h (unbroken _ _ _ (front_empty _ _ (front_empty _ _ e)))

last : (a b : ℕ) → a + b ≤ MAX_WORDS → b ≤ MAX_WORDS
last a b l = omega (arith, l)

sized : (p : Program) (items before : List Item) → words_in before ≤ MAX_WORDS → Clean p (heads_sites before items) → Sized items
sized p [] before h e = tt
sized p (i.Array name words ∷ more) before h e =
    let it : Clean p (head_sites before (i.Array name words)) = front_clean p (head_sites before (i.Array name words)) _ e in
    let l = one_sized p words before h (front_clean p (sizes words before ∷ []) (object_sites before name) it) in
    (last (words_in before) words.value l, sized p more (i.Array name words ∷ before) l (back_clean p (head_sites before (i.Array name words)) _ e))
sized p (i.Heap words ∷ more) before h e =
    let it : Clean p (head_sites before (i.Heap words)) = front_clean p (head_sites before (i.Heap words)) _ e in
    let l = one_sized p words before h (front_clean p (sizes words before ∷ []) (declares (codes "heap") words.at before ∷ []) it) in
    (last (words_in before) words.value l, sized p more (i.Heap words ∷ before) l (back_clean p (head_sites before (i.Heap words)) _ e))
sized p (i.Set name ∷ more) before h e = sized p more (i.Set name ∷ before) h (back_clean p (head_sites before (i.Set name)) _ e)
sized p (i.Map name ∷ more) before h e = sized p more (i.Map name ∷ before) h (back_clean p (head_sites before (i.Map name)) _ e)
sized p (i.Vector name ∷ more) before h e = sized p more (i.Vector name ∷ before) h (back_clean p (head_sites before (i.Vector name)) _ e)
sized p (i.Show name ∷ more) before h e = sized p more (i.Show name ∷ before) h (back_clean p (head_sites before (i.Show name)) _ e)
sized p (i.Input name values ∷ more) before h e = sized p more (i.Input name values ∷ before) h (back_clean p (head_sites before (i.Input name values)) _ e)
sized p (i.Task name params body ∷ more) before h e = sized p more (i.Task name params body ∷ before) h (back_clean p (head_sites before (i.Task name params body)) _ e)

heap_small : (items : List Item) → Sized items → heap_words items ≤ MAX_WORDS
heap_small [] h = omega arith
heap_small (i.Heap words ∷ more) h = h.0
heap_small (i.Array name words ∷ more) h = heap_small more h.1
heap_small (i.Set name ∷ more) h = heap_small more h
heap_small (i.Map name ∷ more) h = heap_small more h
heap_small (i.Vector name ∷ more) h = heap_small more h
heap_small (i.Show name ∷ more) h = heap_small more h
heap_small (i.Input name values ∷ more) h = heap_small more h
heap_small (i.Task name params body ∷ more) h = heap_small more h

-- ---- what a name means

meant : (t : Bool) (x : Declared) (rest : Option Declared) (w : ℕ) → (x ≡ d.Array w → w ≤ MAX_WORDS) → (rest ≡ Some (d.Array w) → w ≤ MAX_WORDS)
    → (if t then Some x else rest) ≡ Some (d.Array w) → w ≤ MAX_WORDS
meant true x rest w f g e = let same : x ≡ d.Array w = cc in f same
meant false x rest w f g e = g e

same_size : (a w : ℕ) → a ≤ MAX_WORDS → d.Array a ≡ d.Array w → w ≤ MAX_WORDS
same_size a w h e = let same : a ≡ w = cc in omega (arith, h, same)

array_small : (items : List Item) (name : List ℕ) (w : ℕ) → Sized items → first_named items name ≡ Some (d.Array w) → w ≤ MAX_WORDS
array_small [] name w h e = cc
array_small (i.Array n words ∷ more) name w h e = meant _ (d.Array words.value) (first_named more name) w (same_size words.value w h.0) (array_small more name w h.1) e
array_small (i.Set n ∷ more) name w h e = meant _ d.Set (first_named more name) w (λ k. cc) (array_small more name w h) e
array_small (i.Map n ∷ more) name w h e = meant _ d.Map (first_named more name) w (λ k. cc) (array_small more name w h) e
array_small (i.Vector n ∷ more) name w h e = meant _ d.Vector (first_named more name) w (λ k. cc) (array_small more name w h) e
array_small (i.Heap words ∷ more) name w h e = meant _ d.Heap (first_named more name) w (λ k. cc) (array_small more name w h.1) e
array_small (i.Show n ∷ more) name w h e = array_small more name w h e
array_small (i.Input n values ∷ more) name w h e = array_small more name w h e
array_small (i.Task n params body ∷ more) name w h e = meant _ (d.Task (length params)) (first_named more name) w (λ k. cc) (array_small more name w h) e

-- ---- inputs

short : (values : List Number) (w : ℕ) → past_faults (slice_get values w) ≡ [] → length values ≤ w
short [] w e = omega arith
short (v ∷ vs) zero e = cc
short (v ∷ vs) (suc w) e = omega (arith, short vs w e)

at_most : (n w : ℕ) → n ≤ w → w ≤ MAX_WORDS → n ≤ MAX_WORDS
at_most n w h k = omega (arith, h, k)

filled : (p : Program) (n : Name) (values : List Number) → Sized p.items → Clean p (fills n values ∷ []) → length values ≤ MAX_WORDS
unfolding faults_at
filled p n values h e = by (first_named p.items n.text) (array_small p.items n.text) (front_empty _ _ e)
  where
    by : (o : Option Declared) → ((w : ℕ) → Sized p.items → o ≡ Some (d.Array w) → w ≤ MAX_WORDS) → past_array o values ++ when (not (is_array o)) kind.InputUnknown n.at ≡ [] → length values ≤ MAX_WORDS
    by (Some (d.Array w)) f e = at_most (length values) w (short values w (front_empty _ _ e)) (f w h refl)
    by None f e = cc
    by (Some d.Set) f e = cc
    by (Some d.Map) f e = cc
    by (Some d.Vector) f e = cc
    by (Some d.Heap) f e = cc
    by (Some (d.Task params)) f e = cc

as_many : (values : List Number) → length (map (λ n. n.value) values) ≡ length values
as_many [] = refl
as_many (v ∷ vs) = omega (arith, as_many vs)

input_short : (p : Program) (items : List Item) (name : List ℕ) → Sized p.items → Clean p (uses_sites items) → length (input_of items name) ≤ MAX_WORDS
input_short p [] name h e = omega arith
input_short p (i.Input of values ∷ more) name h e =
    by (bytes_eq of.text name) (filled p of values h (front_clean p (fills of values ∷ []) (uses_sites more) e)) (input_short p more name h (back_clean p (fills of values ∷ []) (uses_sites more) e))
  where
    by : (t : Bool) → length values ≤ MAX_WORDS → length (input_of more name) ≤ MAX_WORDS → length (if t then map (λ n. n.value) values else input_of more name) ≤ MAX_WORDS
    by true f g = omega (arith, f, as_many values)
    by false f g = g
input_short p (i.Show n ∷ more) name h e = input_short p more name h (back_clean p (shows n ∷ []) (uses_sites more) e)
input_short p (i.Task n params body ∷ more) name h e = input_short p more name h (back_clean p (begins n params ∷ body_sites params body) (uses_sites more) e)
input_short p (i.Array n words ∷ more) name h e = input_short p more name h e
input_short p (i.Set n ∷ more) name h e = input_short p more name h e
input_short p (i.Map n ∷ more) name h e = input_short p more name h e
input_short p (i.Vector n ∷ more) name h e = input_short p more name h e
input_short p (i.Heap words ∷ more) name h e = input_short p more name h e

-- ---- arrays

padded_short : (n : ℕ) (ws : List ℕ) → n ≤ MAX_WORDS → length ws ≤ MAX_WORDS → length (padded n ws) ≤ MAX_WORDS
padded_short n ws h k = omega (arith, h, k, length-append ws (replicate (n - length ws) 0), length-replicate {A = ℕ} (n - length ws) 0)

arrays_short : (all items : List Item) (base : ℕ) → ((name : List ℕ) → length (input_of all name) ≤ MAX_WORDS) → Sized items → length (array_words all items) ≤ length (objects_from base items) * MAX_WORDS
arrays_short all [] base f h = omega arith
arrays_short all (i.Array name words ∷ more) base f h =
    let this : List ℕ = padded words.value (input_of all name.text) in
    omega (arith, length-append this (array_words all more), padded_short words.value (input_of all name.text) h.0 (f name.text), arrays_short all more (base + words.value) f h.1)
arrays_short all (i.Set n ∷ more) base f h = omega (arith, arrays_short all more base f h)
arrays_short all (i.Map n ∷ more) base f h = omega (arith, arrays_short all more base f h)
arrays_short all (i.Vector n ∷ more) base f h = omega (arith, arrays_short all more base f h)
arrays_short all (i.Heap words ∷ more) base f h = arrays_short all more base f h.1
arrays_short all (i.Show n ∷ more) base f h = arrays_short all more base f h
arrays_short all (i.Input n values ∷ more) base f h = arrays_short all more base f h
arrays_short all (i.Task n params body ∷ more) base f h = arrays_short all more base f h

-- ---- the heap

pub heap_fits : laws.AcceptedHeapsFit
unfolding opening
heap_fits program accepted =
    let all : Sized program.items = sized program program.items [] (omega arith) (front_clean program (heads_sites [] program.items) _ accepted.no_faults) in
    let uses : Clean program (uses_sites program.items) =
    front_clean program (uses_sites program.items) (ends program.end program.items ∷ []) (back_clean program (heads_sites [] program.items) _ accepted.no_faults) in
    sum _ (length (objects_from 0 program.items)) _ (objects_few program accepted)
    (arrays_short program.items program.items 0 (λ name. input_short program program.items name all uses) all) (heap_small program.items all)
  where
    sum : (a k c : ℕ) → k ≤ MAX_OBJECTS → a ≤ k * MAX_WORDS → c ≤ MAX_WORDS → a + c ≤ 2 ^ 64
    sum a k c h l m = omega (arith, h, l, m)

pub literals_fit : laws.AcceptedLiteralsFit
literals_fit program accepted numbers = record { numbers = numbers; heap = heap_fits program accepted }
