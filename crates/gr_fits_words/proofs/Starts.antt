-- Where a task starts with words, and where a run opens, all are words.
use Rattle.std.proofs.Common.{◌≡◌, ℕ, zero, suc, ◌+◌, ◌-◌, true, List, [], ◌∷◌, ◌++◌, length, map, slice_get, Option, Some, None, if◌then◌else◌, Bool, false, refl, sym, ap, ◌∙◌, subst, bytes_eq}
use Rattle.std.specs.Prelude.{replicate}
use Rattle.std.specs.FinMap as fin
use Rattle.std.specs.Ordering.{nat_cmp}
use Rattle.gr_syntax.specs.declared.syntax.Item.{Item}
use Rattle.gr_syntax.specs.declared.syntax.Item.TheVariants as i
use Rattle.gr_syntax.specs.declared.syntax.Number.{Number}
use Rattle.gr_syntax.specs.declared.syntax.Program.{Program}
use Rattle.gr_syntax.specs.declared.syntax.Stmt.{Stmt}
use Rattle.gr_syntax.specs.Items.{TaskText, tasks_of}
use Rattle.gr_lang.specs.Next.{start, start_at, given, lets_of}
use Rattle.gr_lang.specs.Objects.{pairs}
use Rattle.gr_lang.specs.Openings.{objects_from, input_of, padded, array_words, heap_words, opening}
use Rattle.gr_net.specs.Sums.{Each}
use Rattle.gr_fits_words.specs.Literals.{all_hold, number_fits, items_fit, stmts_fit, LiteralsFit}
use Rattle.gr_fits_words.specs.Words.{IsWord, ThingHasWords, ObjectsHaveWords, LocalsHaveWords, RunningHasWords}
use Rattle.gr_fits_words.proofs.Numbers.{both, below, nought, each_more, each_same}
use Rattle.gr_fits_words.proofs.Looks.{alone}

given_words : (names : List (List ℕ)) (ws : List ℕ) → Each IsWord ws → LocalsHaveWords (given names ws)
given_words [] ws h = tt
given_words (n ∷ ns) [] h = (nought, given_words ns [] tt)
given_words (n ∷ ns) (w ∷ ws) h = (h.0, given_words ns ws h.1)

bodies_fit : (items : List Item) → items_fit items ≡ true → (k : ℕ) (t : TaskText) → slice_get (tasks_of items) k ≡ Some t → stmts_fit t.body ≡ true
bodies_fit [] h k t at = cc
bodies_fit (i.Task name params body ∷ more) h zero t at =
    let same : body ≡ t.body = ap (λ (o : Option TaskText). body_of o) at in
    subst (λ (ss : List Stmt). stmts_fit ss ≡ true) same (both (stmts_fit body) (items_fit more) h).0
  where
    body_of : Option TaskText → List Stmt
    body_of None = []
    body_of (Some x) = x.body
bodies_fit (i.Task name params body ∷ more) h (suc k) t at = bodies_fit more (both (stmts_fit body) (items_fit more) h).1 k t at
bodies_fit (i.Array name words ∷ more) h k t at = bodies_fit more h k t at
bodies_fit (i.Set name ∷ more) h k t at = bodies_fit more h k t at
bodies_fit (i.Map name ∷ more) h k t at = bodies_fit more h k t at
bodies_fit (i.Vector name ∷ more) h k t at = bodies_fit more h k t at
bodies_fit (i.Heap words ∷ more) h k t at = bodies_fit more h k t at
bodies_fit (i.Show name ∷ more) h k t at = bodies_fit more h k t at
bodies_fit (i.Input of values ∷ more) h k t at = bodies_fit more (both (all_hold (map number_fits values)) (items_fit more) h).1 k t at

start_words_at : (found : Option TaskText) (ws : List ℕ) → ((t : TaskText) → found ≡ Some t → stmts_fit t.body ≡ true) → Each IsWord ws → RunningHasWords (start_at found ws)
start_words_at None ws h k = record { locals = tt; todo = tt }
start_words_at (Some t) ws h k = record { locals = given_words (t.params ++ lets_of t.body) ws k; todo = alone t.body (h t refl) }

pub start_words : (p : Program) (target : ℕ) (ws : List ℕ) → LiteralsFit p → Each IsWord ws → RunningHasWords (start p target ws)
unfolding start
start_words p target ws h k = start_words_at (slice_get (tasks_of p.items) target) ws (bodies_fit p.items h.numbers target) k

-- ---- the opening objects

input_numbers : (values : List Number) → all_hold (map number_fits values) ≡ true → Each IsWord (map (λ n. n.value) values)
input_numbers [] h = tt
input_numbers (v ∷ vs) h = let k = both (number_fits v) (all_hold (map number_fits vs)) h in (below v.value _ k.0, input_numbers vs k.1)

input_words : (items : List Item) (name : List ℕ) → items_fit items ≡ true → Each IsWord (input_of items name)
input_words [] name h = tt
input_words (i.Input of values ∷ more) name h =
    let k = both (all_hold (map number_fits values)) (items_fit more) h in
    by (bytes_eq of.text name) (input_numbers values k.0) (input_words more name k.1)
  where
    by : (t : Bool) → Each IsWord (map (λ n. n.value) values) → Each IsWord (input_of more name) → Each IsWord (if t then map (λ n. n.value) values else input_of more name)
    by true f g = f
    by false f g = g
input_words (i.Task n params body ∷ more) name h = input_words more name (both (stmts_fit body) (items_fit more) h).1
input_words (i.Array n words ∷ more) name h = input_words more name h
input_words (i.Set n ∷ more) name h = input_words more name h
input_words (i.Map n ∷ more) name h = input_words more name h
input_words (i.Vector n ∷ more) name h = input_words more name h
input_words (i.Heap words ∷ more) name h = input_words more name h
input_words (i.Show n ∷ more) name h = input_words more name h

padded_words : (count : ℕ) (ws : List ℕ) → Each IsWord ws → Each IsWord (padded count ws)
padded_words count ws h = each_more IsWord ws (replicate (count - length ws) 0) h (each_same IsWord (count - length ws) 0 nought)

arrays_words : (all items : List Item) → items_fit all ≡ true → Each IsWord (array_words all items)
arrays_words all [] h = tt
arrays_words all (i.Array name words ∷ more) h =
    each_more IsWord (padded words.value (input_of all name.text)) (array_words all more) (padded_words words.value (input_of all name.text) (input_words all name.text h)) (arrays_words all more h)
arrays_words all (i.Set n ∷ more) h = arrays_words all more h
arrays_words all (i.Map n ∷ more) h = arrays_words all more h
arrays_words all (i.Vector n ∷ more) h = arrays_words all more h
arrays_words all (i.Heap words ∷ more) h = arrays_words all more h
arrays_words all (i.Show n ∷ more) h = arrays_words all more h
arrays_words all (i.Input n values ∷ more) h = arrays_words all more h
arrays_words all (i.Task n params body ∷ more) h = arrays_words all more h

empty_pairs : ThingHasWords (pairs fin.empty)
empty_pairs key word e = let no : None ≡ Some word = sym (fin.get-empty nat_cmp key) ∙ e in cc

things_words : (from : ℕ) (items : List Item) → Each ThingHasWords (objects_from from items)
things_words from [] = tt
things_words from (i.Array name words ∷ more) = (tt, things_words (from + words.value) more)
things_words from (i.Set n ∷ more) = (tt, things_words from more)
things_words from (i.Map n ∷ more) = (empty_pairs, things_words from more)
things_words from (i.Vector n ∷ more) = (tt, things_words from more)
things_words from (i.Heap words ∷ more) = things_words from more
things_words from (i.Show n ∷ more) = things_words from more
things_words from (i.Input n values ∷ more) = things_words from more
things_words from (i.Task n params body ∷ more) = things_words from more

pub opening_words : (p : Program) → LiteralsFit p → ObjectsHaveWords (opening p)
unfolding opening
opening_words p h = record {
  words = each_more IsWord (array_words p.items p.items) (replicate (heap_words p.items) 0) (arrays_words p.items p.items h.numbers) (each_same IsWord (heap_words p.items) 0 nought);
  things = things_words 0 p.items;
  heap = h.heap;
}
