-- The words of an accepted program: its heap has no more than all words may be, and its arrays lie in the words with which it opens.
use Rattle.std.proofs.Common.{◌≡◌, ℕ, ◌+◌, ◌-◌, ◌≤◌, ◌^◌, Bool, true, false, ◌&&◌, List, [], ◌∷◌, ◌++◌, refl, sym, ap, ◌∙◌, arith, subst, length, length-append}
use Rattle.std.specs.Prelude.{nat_le, nat_lt, replicate}
use Rattle.std.specs.List.{flat_map, All}
use Rattle.std.proofs.lemmas.List.Elements.{All-cons}
use Rattle.gr_lang.specs.Objects.{Object, array, keys, pairs, line}
use Rattle.std.specs.FinMap as fin
use Rattle.std.specs.FinSet as set
use Rattle.gr_memory.specs.Ranges.{LiesIn}
use Rattle.gr_plain.specs.SizeWords.{arrays_in}
use Rattle.std.proofs.lemmas.Bool.Decides.{nat_tests}
use Rattle.std.proofs.lemmas.Grind.{flat_map-append}
use Rattle.std.proofs.lemmas.List.{length-replicate}
use Rattle.gr_accept.specs.Accepted.{IsAccepted, heads_sites, head_sites, uses_sites}
use Rattle.gr_accept.specs.Conditions.{faults_at, words_in}
use Rattle.gr_accept.specs.Declarations.{Meaning, first_named}
use Rattle.gr_syntax.specs.Faults.{when}
use Rattle.gr_syntax.specs.declared.limits.TheConstants.{MAX_WORDS}
use Rattle.gr_lang.specs.Openings.{array_words, heap_words, input_of, objects_from, padded}
use Rattle.gr_accept.specs.Sites.{sizes, ends}
use Rattle.gr_syntax.specs.declared.refusal.Fault.{Fault}
use Rattle.gr_syntax.specs.declared.refusal.Kind.{Kind}
use Rattle.gr_syntax.specs.declared.syntax.Place.{Place}
use Rattle.gr_syntax.specs.declared.syntax.Item.{Item}
use Rattle.gr_syntax.specs.declared.syntax.Item.TheVariants as i
use Rattle.gr_syntax.specs.declared.syntax.Number.{Number}
use Rattle.gr_syntax.specs.declared.syntax.Program.{Program}

none_before : (xs ys : List Fault) → xs ++ ys ≡ [] → xs ≡ []
none_before [] ys e = refl
none_before (x ∷ xs) ys e = cc

none_behind : (xs ys : List Fault) → xs ++ ys ≡ [] → ys ≡ []
none_behind [] ys e = e
none_behind (x ∷ xs) ys e = cc

unbroken : (b : Bool) (kind : Kind) (at : Place) (more : List Fault) → when b kind at ++ more ≡ [] → b ≡ false
unbroken true kind at more e = cc
unbroken false kind at more e = refl

within : (a b : ℕ) → a ≤ MAX_WORDS → (nat_le a MAX_WORDS && nat_lt MAX_WORDS b) ≡ false → b ≤ MAX_WORDS
within a b h e = grind (arith, nat_tests)

-- Where no fault is at the size of an array or the heap, it keeps the sum within the limit.
sized : (m : Meaning) (n : Number) (before : List Item) → words_in before ≤ MAX_WORDS → faults_at m (sizes n before) ≡ [] → words_in before + n.value ≤ MAX_WORDS
unfolding faults_at
sized m n before h e = within (words_in before) (words_in before + n.value) h (unbroken _ _ _ _ e)

step : (m : Meaning) (item : Item) (more before : List Item) → flat_map (faults_at m) (head_sites before item ++ heads_sites (item ∷ before) more) ≡ []
    → (flat_map (faults_at m) (head_sites before item) ≡ []) × (flat_map (faults_at m) (heads_sites (item ∷ before) more) ≡ [])
step m item more before e =
    let split = sym (flat_map-append (faults_at m) (head_sites before item) (heads_sites (item ∷ before) more)) ∙ e in
    (none_before _ _ split, none_behind _ _ split)

-- Item by item, the words before it fit.
walked : (m : Meaning) (items before : List Item) → words_in before ≤ MAX_WORDS → flat_map (faults_at m) (heads_sites before items) ≡ [] → heap_words items ≤ MAX_WORDS
walked m [] before h e = omega arith
walked m (i.Array name words ∷ more) before h e =
    let s = step m (i.Array name words) more before e in
    walked m more (i.Array name words ∷ before) (sized m words before h (none_before _ _ s.0)) s.1
walked m (i.Heap words ∷ more) before h e =
    let s = step m (i.Heap words) more before e in
    let all : words_in before + words.value ≤ MAX_WORDS = sized m words before h (none_before _ _ s.0) in omega (arith, all)
walked m (i.Set name ∷ more) before h e = walked m more (i.Set name ∷ before) h (step m (i.Set name) more before e).1
walked m (i.Map name ∷ more) before h e = walked m more (i.Map name ∷ before) h (step m (i.Map name) more before e).1
walked m (i.Vector name ∷ more) before h e = walked m more (i.Vector name ∷ before) h (step m (i.Vector name) more before e).1
walked m (i.Show name ∷ more) before h e = walked m more (i.Show name ∷ before) h (step m (i.Show name) more before e).1
walked m (i.Input name values ∷ more) before h e = walked m more (i.Input name values ∷ before) h (step m (i.Input name values) more before e).1
walked m (i.Task name params body ∷ more) before h e = walked m more (i.Task name params body ∷ before) h (step m (i.Task name params body) more before e).1

pub heap_small : (p : Program) → IsAccepted p → heap_words p.items ≤ MAX_WORDS
heap_small p h =
    let m : Meaning = first_named p.items in
    let split = sym (flat_map-append (faults_at m) (heads_sites [] p.items) (uses_sites p.items ++ (ends p.end p.items ∷ []))) ∙ h.no_faults in
    walked m p.items [] (omega arith) (none_before _ _ split)

-- ---- the arrays

padded_long : (n : ℕ) (ws : List ℕ) → n ≤ length (padded n ws)
padded_long n ws = omega (arith, length-append ws (replicate (n - length ws) 0), length-replicate {A = ℕ} (n - length ws) 0)

-- The arrays have as many words as they take, or more.
pub arrays_fit : (all items : List Item) → arrays_in items ≤ length (array_words all items)
arrays_fit all [] = omega arith
arrays_fit all (i.Array name words ∷ more) =
    let this : List ℕ = padded words.value (input_of all name.text) in
    omega (arith, length-append this (array_words all more), padded_long words.value (input_of all name.text), arrays_fit all more)
arrays_fit all (i.Set name ∷ more) = arrays_fit all more
arrays_fit all (i.Map name ∷ more) = arrays_fit all more
arrays_fit all (i.Vector name ∷ more) = arrays_fit all more
arrays_fit all (i.Heap words ∷ more) = arrays_fit all more
arrays_fit all (i.Show name ∷ more) = arrays_fit all more
arrays_fit all (i.Input name values ∷ more) = arrays_fit all more
arrays_fit all (i.Task name params body ∷ more) = arrays_fit all more

-- They still have, with more words behind them.
pub words_hold : (items : List Item) (words more all : List ℕ) → words ≡ array_words items items → all ≡ words ++ more → 0 + arrays_in items ≤ length all
words_hold items words more all e f = omega (arith, arrays_fit items items, ap length e, ap length f, length-append words more)

-- The arrays with which a program opens, one behind the other, lie in as many words as they take.
pub all_lie : (n : ℕ) (items : List Item) (from : ℕ) → from + arrays_in items ≤ n → All (LiesIn n) (objects_from from items)
all_lie n [] from h = λ k d lt. absurd (omega arith)
all_lie n (i.Array name words ∷ more) from h =
    All-cons (LiesIn n) (array from words.value) (objects_from (from + words.value) more) (omega (arith, h)) (all_lie n more (from + words.value) (omega (arith, h)))
all_lie n (i.Set name ∷ more) from h = All-cons (LiesIn n) (keys set.empty) (objects_from from more) tt (all_lie n more from h)
all_lie n (i.Map name ∷ more) from h = All-cons (LiesIn n) (pairs fin.empty) (objects_from from more) tt (all_lie n more from h)
all_lie n (i.Vector name ∷ more) from h = All-cons (LiesIn n) (line []) (objects_from from more) tt (all_lie n more from h)
all_lie n (i.Heap words ∷ more) from h = all_lie n more from h
all_lie n (i.Show name ∷ more) from h = all_lie n more from h
all_lie n (i.Input name values ∷ more) from h = all_lie n more from h
all_lie n (i.Task name params body ∷ more) from h = all_lie n more from h

-- So they lie in the words with which a run opens.
pub arrays_lie : (items : List Item) (words more all : List ℕ) (things : List Object) → words ≡ array_words items items → all ≡ words ++ more → things ≡ objects_from 0 items → All (LiesIn (length all)) things
arrays_lie items words more all things e f g = subst (λ (os : List Object). All (LiesIn (length all)) os) (sym g) (all_lie (length all) items 0 (words_hold items words more all e f))
