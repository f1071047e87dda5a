-- Pairs by rising key: those of a set, of a map, and of words at positions.
use Rattle.std.proofs.Common.{◌≡◌, ℕ, ◌+◌, ◌<◌, ◌==◌, ◌&&◌, cond, if◌then◌else◌, Bool, true, false, List, [], ◌∷◌, Option, Some, None, is_some, refl, sym, ap, ◌∙◌, subst, arith}
use Rattle.std.specs.Prelude.{T}
use Rattle.std.specs.FinMap as fin
use Rattle.std.specs.FinMap.{find, is_sorted, nat_cmp-IsAntisymmetric}
use Rattle.std.specs.FinMap.Entries.{below_all, same_entries, is_some-find}
use Rattle.std.specs.FinSet as set
use Rattle.std.specs.List.{AllByRecursion}
use Rattle.std.specs.List.Sorted.{IsStrictlySortedBy}
use Rattle.std.specs.Map.{keys_of, values_of}
use Rattle.std.specs.Ordering.{nat_cmp, is_lt}
use Rattle.std.specs.Cmp.{nat_cmp_total, nat_cmp_is, unsigned_tied}
use Rattle.std.specs.declared.cmp.Ordering.{Ordering}
use Rattle.std.specs.declared.cmp.Ordering.TheVariants.{Less, Equal, Greater}
use Rattle.gr_memory.specs.Contents.{rising}
use Rattle.gr_memory.proofs.Trees.{keys_are}
use Rattle.gr_store.specs.Stores.{Lists}
use Rattle.gr_stands_contents.specs.Rests.{word_from}

so : (b : Bool) → b ≡ true → T b
so true e = tt
so false e = cc

is_so : (b : Bool) → T b → b ≡ true
is_so true h = refl
is_so false h = absurd h

parts : (a b : Bool) → T (a && b) → T a × T b
parts true b h = (tt, h)
parts false b h = absurd h

both : (a b : Bool) → T a → T b → T (a && b)
both true b h k = k
both false b h k = absurd h

-- There is one list of what stands under keys.
pub lists_once : (xs ys : List (ℕ × ℕ)) (under : ℕ → Option ℕ) → Lists xs under → T (is_sorted nat_cmp ys) → ((key : ℕ) → find nat_cmp key ys ≡ under key) → xs ≡ ys
lists_once xs ys under h s k = same_entries nat_cmp nat_cmp_total nat_cmp-IsAntisymmetric xs ys (so _ h.rising) s (λ q. h.each q ∙ sym (k q))

-- ---- maps

pub map_pairs : (held : fin.FinMap nat_cmp ℕ) (xs : List (ℕ × ℕ)) (under : ℕ → Option ℕ) → Lists xs under → ((key : ℕ) → under key ≡ fin.get held key) → xs ≡ fin.entries held
map_pairs held xs under h k = lists_once xs (fin.entries held) under h (fin.entries_sorted held) (λ q. sym (fin.get-entries held q) ∙ sym (k q))

-- ---- sets

less : (o : Ordering) → T (is_lt o) → o ≡ Less
less Less h = refl
less Equal h = absurd h
less Greater h = absurd h

all_less : (k : ℕ) (xs : List (ℕ × ℕ)) → T (below_all nat_cmp k xs) → AllByRecursion (λ q. nat_cmp k q ≡ Less) (keys_of xs)
all_less k [] h = tt
all_less k (x ∷ xs) h = let p = parts (is_lt (nat_cmp k x.0)) (below_all nat_cmp k xs) h in (less (nat_cmp k x.0) p.0, all_less k xs p.1)

keys_rise : (xs : List (ℕ × ℕ)) → T (is_sorted nat_cmp xs) → IsStrictlySortedBy nat_cmp (keys_of xs)
unfolding IsStrictlySortedBy
keys_rise [] h = tt
keys_rise (x ∷ xs) h = let p = parts (below_all nat_cmp x.0 xs) (is_sorted nat_cmp xs) h in (all_less x.0 xs p.0, keys_rise xs p.1)

is_key : (b : Bool) → is_some {T = ℕ} (if b then Some 0 else None) ≡ b
is_key true = refl
is_key false = refl

pub set_keys : (held : set.FinSet nat_cmp) (xs : List (ℕ × ℕ)) (under : ℕ → Option ℕ) → Lists xs under
    → ((key : ℕ) → under key ≡ (if set.contains held key then Some 0 else None)) → keys_of xs ≡ rising (set.items held)
set_keys held xs under h k = sym (keys_are (keys_of xs) (keys_rise xs (so _ h.rising))) ∙ ap (λ (s : set.FinSet nat_cmp). rising (set.items s)) same
  where
    same : set.from_list {R = nat_cmp} (keys_of xs) ≡ held
    same = set.same_set nat_cmp_total nat_cmp-IsAntisymmetric (set.from_list (keys_of xs)) held (λ q.
        set.contains-from_list nat_cmp_total (keys_of xs) q ∙ sym (is_some-find nat_cmp q xs) ∙ ap is_some (h.each q ∙ k q) ∙ is_key (set.contains held q))

-- ---- words at positions

abbrev placed : ℕ → List ℕ → List (ℕ × ℕ)
placed first [] = []
placed first (word ∷ words) = (first, word) ∷ placed (first + 1) words

placed_after : (k first : ℕ) (words : List ℕ) → k < first → T (below_all nat_cmp k (placed first words))
placed_after k first [] l = tt
placed_after k first (word ∷ words) l =
    both (is_lt (nat_cmp k first)) (below_all nat_cmp k (placed (first + 1) words)) (subst (λ (o : Ordering). T (is_lt o)) (nat_cmp_is k first Less l) tt) (placed_after k (first + 1) words (omega (arith, l)))

placed_rise : (first : ℕ) (words : List ℕ) → T (is_sorted nat_cmp (placed first words))
placed_rise first [] = tt
placed_rise first (word ∷ words) =
    both (below_all nat_cmp first (placed (first + 1) words)) (is_sorted nat_cmp (placed (first + 1) words)) (placed_after first (first + 1) words (omega arith)) (placed_rise (first + 1) words)

as_if : {X : Type 0} (b : Bool) (x y : X) → cond b x y ≡ (if b then x else y)
as_if true x y = refl
as_if false x y = refl

placed_word : (first : ℕ) (words : List ℕ) (q : ℕ) → find nat_cmp q (placed first words) ≡ word_from first words q
placed_word first [] q = refl
placed_word first (word ∷ words) q =
    ap (λ (b : Bool). cond b (Some word) (find nat_cmp q (placed (first + 1) words))) (unsigned_tied q first)
    ∙ ap (cond (q == first) (Some word)) (placed_word (first + 1) words q)
    ∙ as_if (q == first) (Some word) (word_from (first + 1) words q)

placed_values : (first : ℕ) (words : List ℕ) → values_of (placed first words) ≡ words
placed_values first [] = refl
placed_values first (word ∷ words) = ap (λ (ws : List ℕ). word ∷ ws) (placed_values (first + 1) words)

pub line_words : (first : ℕ) (words : List ℕ) (xs : List (ℕ × ℕ)) (under : ℕ → Option ℕ) → Lists xs under → ((q : ℕ) → under q ≡ word_from first words q) → values_of xs ≡ words
line_words first words xs under h k =
    ap values_of (lists_once xs (placed first words) under h (placed_rise first words) (λ q. placed_word first words q ∙ sym (k q))) ∙ placed_values first words
