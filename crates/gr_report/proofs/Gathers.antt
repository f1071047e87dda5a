-- What cores hold, one after another.
use Rattle.std.proofs.Common.{◌≡◌, ℕ, ◌+◌, ◌<◌, List, [], ◌∷◌, ◌++◌, Bool, true, false, Option, Some, None, refl, sym, ap, ◌∙◌, cond, subst, length, drop, get_or, ◌≤◌}
use Rattle.std.proofs.lemmas.List.{append-nil, at_drop_all, at_drop_more}
use Rattle.std.specs.Prelude.{T, ◌&&◌, map, IfNone, IfSome}
use Rattle.std.specs.FinMap.{find, is_sorted}
use Rattle.std.specs.FinMap.Entries.{below_all}
use Rattle.std.specs.List.{AllByRecursion}
use Rattle.std.specs.List.Sorted.{IsStrictlySortedBy}
use Rattle.std.specs.Map.{keys_of}
use Rattle.std.specs.BTreeMap.{is_at}
use Rattle.std.specs.Option.{option_or}
use Rattle.std.specs.Ordering.{nat_cmp, is_lt}
use Rattle.std.specs.declared.cmp.Ordering.TheVariants.{Less}
use Rattle.gr_vector.specs.Parts.{part_of}
use Rattle.gr_store.specs.Stores.{Lists}
use Rattle.gr_machine.specs.States.{Vector}
use Rattle.gr_memory.specs.declared.contents.Content.{Content}
use Rattle.gr_code.specs.declared.shapes.Shape.{Shape}
use Rattle.gr_core.specs.declared.cores.Core.{Core}
use Rattle.gr_report.specs.Gathered.{AreGathered, IsGathered, first_held, part_or}

find_key : (pairs : List (ℕ × ℕ)) (key : ℕ) → part_of pairs key ≡ find nat_cmp key pairs
unfolding part_of
find_key [] key = refl
find_key (pair ∷ pairs) key = ap (cond (is_at (nat_cmp key) pair.0) (Some pair.1)) (find_key pairs key)

-- What a core says that it holds.
pub holds_by : (v : Option Vector) (under : ℕ → Option ℕ) (pairs : List (ℕ × ℕ)) → IfNone v (Lists pairs under) → IfSome v (λ vector. part_of pairs ≡ vector.part)
    → (at : ℕ) → part_of pairs at ≡ part_or v under at
holds_by None under pairs h k at = find_key pairs at ∙ h.each at
holds_by (Some vector) under pairs h k at = ap (λ (f : ℕ → Option ℕ). f at) k

-- One core more.
pub held_more : {X : Type 0} (held : X → ℕ → Option ℕ) (xs : List X) (i : ℕ) (x : X) (at : ℕ) → i < length xs → x ≡ get_or xs i x
    → first_held (map held (drop i xs)) at ≡ option_or (held x at) (first_held (map held (drop (i + 1) xs)) at)
unfolding first_held
held_more held xs i x at lt is = at_drop_more (λ ys. first_held (map held ys) at) xs i x lt ∙ ap (λ y. first_held (map held (y ∷ drop (i + 1) xs)) at) (sym is)

or_assoc : (x y z : Option ℕ) → option_or (option_or x y) z ≡ option_or x (option_or y z)
or_assoc None y z = refl
or_assoc (Some w) y z = refl

pub noted_core : {X : Type 0} (held : X → ℕ → Option ℕ) (xs : List X) (i : ℕ) (x : X) (before now its all : Option ℕ) (at : ℕ) → i < length xs → x ≡ get_or xs i x
    → its ≡ held x at → now ≡ option_or before its → option_or before (first_held (map held (drop i xs)) at) ≡ all
    → option_or now (first_held (map held (drop (i + 1) xs)) at) ≡ all
noted_core held xs i x before now its all at lt is e step h =
    ap (λ (y : Option ℕ). option_or y (first_held (map held (drop (i + 1) xs)) at)) (step ∙ ap (option_or before) e)
    ∙ or_assoc before (held x at) (first_held (map held (drop (i + 1) xs)) at)
    ∙ ap (option_or before) (sym (held_more held xs i x at lt is)) ∙ h

both : (a b : Bool) → T a → T b → T (a && b)
both true b p q = q
both false b p q = p

below : (key : ℕ) (pairs : List (ℕ × ℕ)) → AllByRecursion (λ other. nat_cmp key other ≡ Less) (map (λ pair. pair.0) pairs) → T (below_all nat_cmp key pairs)
below key [] h = tt
below key (pair ∷ pairs) h = both _ _ (subst (λ r. T (is_lt r)) (sym h.0) tt) (below key pairs h.1)

rising : (pairs : List (ℕ × ℕ)) → IsStrictlySortedBy nat_cmp (map (λ pair. pair.0) pairs) → T (is_sorted nat_cmp pairs)
unfolding IsStrictlySortedBy
rising [] h = tt
rising (pair ∷ pairs) h = both _ _ (below pair.0 pairs h.0) (rising pairs h.1)

is_so : (b : Bool) → T b → b ≡ true
is_so true h = refl
is_so false h = absurd h

lists : (entries : List (ℕ × ℕ)) (under : ℕ → Option ℕ) → IsStrictlySortedBy nat_cmp (keys_of entries) → ((at : ℕ) → part_of entries at ≡ under at) → Lists entries under
lists entries under h k = record {
  rising = is_so _ (rising entries h);
  each = λ key. sym (find_key entries key) ∙ k key;
}

none_part : (at : ℕ) → part_of [] at ≡ None
unfolding part_of
none_part at = refl

-- The entries of a tree that was empty list what was put under its keys.
pub held_lists : (old entries pairs : List (ℕ × ℕ)) (under : ℕ → Option ℕ) → old ≡ [] → pairs ≡ entries → IsStrictlySortedBy nat_cmp (keys_of entries)
    → ((at : ℕ) → part_of entries at ≡ option_or (part_of old at) (under at)) → Lists pairs under
held_lists old entries pairs under none e h k = subst (λ (es : List (ℕ × ℕ)). Lists es under) (sym e) (lists entries under h
    (λ at. k at ∙ ap (λ (es : List (ℕ × ℕ)). option_or (part_of es at) (under at)) none ∙ ap (λ (x : Option ℕ). option_or x (under at)) (none_part at)))

-- One object more is gathered.
pub gathered_more : (cores : List Core) (object : ℕ) (shapes : List Shape) (shape : Shape) (one : Content) (rest : List Content) → object < length shapes → shape ≡ get_or shapes object shape
    → IsGathered cores object shape one → AreGathered cores (object + 1) (drop (object + 1) shapes) rest → AreGathered cores object (drop object shapes) (one ∷ rest)
gathered_more cores object shapes shape one rest lt is h k =
    subst (λ (xs : List Shape). AreGathered cores object xs (one ∷ rest)) (sym (at_drop_more (λ xs. xs) shapes object shape lt ∙ ap (λ (s : Shape). s ∷ drop (object + 1) shapes) (sym is))) (h, k)

-- All objects are gathered.
pub gathered_all : (cores : List Core) (shapes : List Shape) (contents : List Content) (object : ℕ) → length shapes ≤ object
    → ((rest : List Content) → AreGathered cores object (drop object shapes) rest → AreGathered cores 0 shapes (contents ++ rest)) → AreGathered cores 0 shapes contents
gathered_all cores shapes contents object le h =
    subst (AreGathered cores 0 shapes) (append-nil contents) (h [] (subst (λ (xs : List Shape). AreGathered cores object xs []) (sym (at_drop_all (λ xs. xs) shapes object le)) tt))
