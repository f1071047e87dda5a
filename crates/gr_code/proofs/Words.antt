-- The words with which arrays open.
use Rattle.std.proofs.Common.{◌≡◌, ◌≢◌, ℕ, zero, suc, get_or, drop, ◌+◌, ◌-◌, ◌<◌, List, [], ◌∷◌, ◌++◌, length, refl, sym, ap, ◌∙◌, arith, append-nil, append_assoc, length-append, slice_index, map}
use Rattle.std.specs.Prelude.{replicate, if◌then◌else◌}
use Rattle.std.specs.Str.{bytes_eq}
use Rattle.std.proofs.lemmas.List.{length-replicate}
use Rattle.gr_syntax.specs.declared.syntax.Item.{Item}
use Rattle.gr_syntax.specs.declared.syntax.Item.TheVariants as i
use Rattle.std.proofs.Math.Seq.{drop-cons}
use Rattle.gr_syntax.specs.declared.syntax.Name.{Name}
use Rattle.gr_syntax.specs.declared.syntax.Number.{Number}
use Rattle.gr_syntax.specs.declared.syntax.Program.{Program}
use Rattle.gr_code.specs.declared.opening.ArrayWords.{ArrayWords}
use Rattle.gr_lang.specs.Openings.{array_words, heap_words, input_of, objects_from, opening, padded}
use Rattle.gr_code.specs.Shapes.{shape_of, shapes_of}
use Rattle.gr_code.specs.OpeningWords.{inputs_of, numbers_for, words_of, all_words}

no_word : (n k : ℕ) → slice_index (replicate n 0) k ≡ 0
no_word zero k = refl
no_word (suc n) zero = refl
no_word (suc n) (suc k) = no_word n k

-- Zeros behind words change none of them.
pub with_zeros : (ws : List ℕ) (n k : ℕ) → slice_index (ws ++ replicate n 0) k ≡ slice_index ws k
with_zeros [] n k = no_word n k
with_zeros (w ∷ ws) n zero = refl
with_zeros (w ∷ ws) n (suc k) = with_zeros ws n k

pub padded_length : (n : ℕ) (ws : List ℕ) → length (padded n ws) ≡ length ws + (n - length ws)
padded_length n ws = omega (arith, length-append ws (replicate (n - length ws) 0), length-replicate {A = ℕ} (n - length ws) 0)

-- An array's numbers are those of the first input for it.
pub numbers_are : (items : List Item) (name : List ℕ) → numbers_for (inputs_of items) name ≡ input_of items name
numbers_are [] name = refl
numbers_are (i.Input of values ∷ more) name = ap (λ l. if bytes_eq of.text name then map (λ n. n.value) values else l) (numbers_are more name)
numbers_are (i.Array of words ∷ more) name = numbers_are more name
numbers_are (i.Set of ∷ more) name = numbers_are more name
numbers_are (i.Map of ∷ more) name = numbers_are more name
numbers_are (i.Vector of ∷ more) name = numbers_are more name
numbers_are (i.Heap words ∷ more) name = numbers_are more name
numbers_are (i.Show of ∷ more) name = numbers_are more name
numbers_are (i.Task of params body ∷ more) name = numbers_are more name

-- The word at an address as a run opens is that of an array.
pub opening_is : (p : Program) (k : ℕ) → slice_index (opening p).words k ≡ slice_index (array_words p.items p.items) k
unfolding opening
opening_is p k = with_zeros (array_words p.items p.items) (heap_words p.items) k

-- One more array behind those before it.
pub words_added : (xs : List ArrayWords) (a : ArrayWords) (rest : List ℕ) → all_words (xs ++ a ∷ []) ++ rest ≡ all_words xs ++ (words_of a ++ rest)
words_added [] a rest = ap (λ l. l ++ rest) (append-nil (words_of a))
words_added (x ∷ xs) a rest = append_assoc (words_of x) (all_words (xs ++ a ∷ [])) rest ∙ ap (λ l. words_of x ++ l) (words_added xs a rest) ∙ sym (append_assoc (words_of x) (all_words xs) (words_of a ++ rest))

pub shapes_are : (p : Program) → map shape_of (objects_from 0 p.items) ≡ shapes_of p
unfolding opening
shapes_are p = refl

-- The next item is an array, whose words are added.
pub array_added : (arrays arrays' arrays'' : List ArrayWords) (a : ArrayWords) (name : Name) (words : Number) (list : List Item) (k : ℕ) (item : Item) (whole : List ℕ)
    → k < length list → item ≡ get_or list k item → item ≡ i.Array name words → arrays' ≡ arrays ++ a ∷ [] → a.count ≡ words.value
    → map (λ n. n.value) a.first.now ≡ numbers_for (inputs_of list) name.text → arrays'' ≡ arrays'
    → all_words arrays ++ array_words list (drop k list) ≡ whole → all_words arrays'' ++ array_words list (drop (k + 1) list) ≡ whole
array_added arrays arrays' arrays'' a name words list k x whole lt at is added count numbers same inv =
    let up : suc k ≡ k + 1 = omega arith in
    let cut : drop k list ≡ i.Array name words ∷ drop (k + 1) list = drop-cons list k x lt ∙ ap (λ h. h ∷ drop (suc k) list) (sym at ∙ is) ∙ ap (λ n. i.Array name words ∷ drop n list) up in
    let rest : List ℕ = array_words list (drop (k + 1) list) in
    ap (λ l. all_words l ++ rest) (same ∙ added) ∙ words_added arrays a rest
    ∙ ap (λ n. all_words arrays ++ (padded n (map (λ n. n.value) a.first.now) ++ rest)) count
    ∙ ap (λ ns. all_words arrays ++ (padded words.value ns ++ rest)) (numbers ∙ numbers_are list name.text)
    ∙ ap (λ l. all_words arrays ++ array_words list l) (sym cut) ∙ inv

not_an_array : (all : List Item) (item : Item) (rest : List Item) → ((name : Name) (words : Number) → item ≢ i.Array name words) → array_words all (item ∷ rest) ≡ array_words all rest
not_an_array all (i.Array name words) rest h = absurd (h name words refl)
not_an_array all (i.Task name params body) rest h = refl
not_an_array all (i.Set name) rest h = refl
not_an_array all (i.Map name) rest h = refl
not_an_array all (i.Vector name) rest h = refl
not_an_array all (i.Heap words) rest h = refl
not_an_array all (i.Show name) rest h = refl
not_an_array all (i.Input name values) rest h = refl

-- The next item is no array.
pub item_skipped : (arrays arrays' : List ArrayWords) (list : List Item) (k : ℕ) (item : Item) (whole : List ℕ) → k < length list → item ≡ get_or list k item
    → ((name : Name) (words : Number) → item ≢ i.Array name words) → arrays' ≡ arrays
    → all_words arrays ++ array_words list (drop k list) ≡ whole → all_words arrays' ++ array_words list (drop (k + 1) list) ≡ whole
item_skipped arrays arrays' list k x whole lt at not same inv =
    let up : suc k ≡ k + 1 = omega arith in
    let cut : drop k list ≡ x ∷ drop (k + 1) list = drop-cons list k x lt ∙ ap (λ h. h ∷ drop (suc k) list) (sym at) ∙ ap (λ n. x ∷ drop n list) up in
    let left : array_words list (drop k list) ≡ array_words list (drop (k + 1) list) = ap (array_words list) cut ∙ not_an_array list x (drop (k + 1) list) not in
    ap (λ l. all_words l ++ array_words list (drop (k + 1) list)) same ∙ ap (λ l. all_words arrays ++ l) (sym left) ∙ inv
