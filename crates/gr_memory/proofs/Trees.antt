-- Tree sets and tree maps with numbers as keys, seen as finite sets and finite maps.
use Rattle.std.specs.Prelude.{T, map as map_list}
use Rattle.std.proofs.Common.{◌≡◌, ℕ, ◌+◌, List, [], ◌∷◌, Bool, true, false, not, ◌&&◌, ◌||◌, Option, Some, None, refl, sym, ap, ◌∙◌, cond, subst, length, add-one}
use Rattle.std.specs.Ordering.{nat_cmp, eq_by_cmp, is_eq, is_lt}
use Rattle.std.specs.declared.cmp.Ordering.TheVariants.{Less}
use Rattle.std.specs.List.{AllByRecursion}
use Rattle.std.specs.List.Sorted.{IsStrictlySortedBy}
use Rattle.std.proofs.lemmas.Map.Keys.{sorted_head, sorted_tail}
use Rattle.std.specs.Cmp.{nat_cmp_total, eq_by_cmp_equiv}
use Rattle.std.specs.List.{list_any}
use Rattle.std.specs.FinMap as map
use Rattle.std.specs.FinSet as set
use Rattle.std.specs.Map.{lookup}
use Rattle.std.specs.BTreeMap.{is_at}
use Rattle.std.specs.FinMap.Entries.{below_all, is_sorted}
use Rattle.gr_memory.specs.Contents.{rising}

pub has_key : (ks : List ℕ) (q : ℕ) → set.contains (set.from_list {R = nat_cmp} ks) q ≡ list_any (is_at (nat_cmp q)) ks
has_key ks q = set.contains-from_list nat_cmp_total ks q

or_is : (b x : Bool) → cond b true x ≡ (b || x)
or_is true x = refl
or_is false x = refl

and_is : (b x : Bool) → cond b false x ≡ (not b && x)
and_is true x = refl
and_is false x = refl

pub add_key : (ks ls : List ℕ) (k : ℕ) → ((q : ℕ) → list_any (is_at (nat_cmp q)) ls ≡ cond (is_at (nat_cmp k) q) true (list_any (is_at (nat_cmp q)) ks)) → set.from_list {R = nat_cmp} ls ≡ set.insert (set.from_list ks) k
add_key ks ls k h = set.same_set nat_cmp_total set.nat_cmp-IsAntisymmetric _ _ (λ q.
    has_key ls q ∙ h q ∙ or_is (is_at (nat_cmp k) q) (list_any (is_at (nat_cmp q)) ks) ∙ ap (λ b. b || list_any (is_at (nat_cmp q)) ks) ((eq_by_cmp_equiv nat_cmp_total).symm k q)
    ∙ sym (set.contains-insert nat_cmp_total (set.from_list ks) k q ∙ ap (λ b. eq_by_cmp nat_cmp q k || b) (has_key ks q)))

pub take_key : (ks ls : List ℕ) (k : ℕ) → ((q : ℕ) → list_any (is_at (nat_cmp q)) ls ≡ cond (is_at (nat_cmp k) q) false (list_any (is_at (nat_cmp q)) ks)) → set.from_list {R = nat_cmp} ls ≡ set.remove (set.from_list ks) k
take_key ks ls k h = set.same_set nat_cmp_total set.nat_cmp-IsAntisymmetric _ _ (λ q.
    has_key ls q ∙ h q ∙ and_is (is_at (nat_cmp k) q) (list_any (is_at (nat_cmp q)) ks) ∙ ap (λ b. not b && list_any (is_at (nat_cmp q)) ks) ((eq_by_cmp_equiv nat_cmp_total).symm k q)
    ∙ sym (set.contains-remove nat_cmp_total (set.from_list ks) k q ∙ ap (λ b. not (eq_by_cmp nat_cmp q k) && b) (has_key ks q)))

absent : (k : ℕ) (ks : List ℕ) → AllByRecursion (λ y. nat_cmp k y ≡ Less) ks → list_any (is_at (nat_cmp k)) ks ≡ false
absent k [] h = refl
absent k (x ∷ xs) h = ap (λ r. is_eq r || list_any (is_at (nat_cmp k)) xs) h.0 ∙ absent k xs h.1

-- a set has as many words as the tree that holds them in order
pub count_keys : (ks : List ℕ) → IsStrictlySortedBy nat_cmp ks → set.len (set.from_list {R = nat_cmp} ks) ≡ length ks
count_keys [] sorted = set.len-empty nat_cmp
count_keys (k ∷ ks) sorted =
    let rest = set.from_list {R = nat_cmp} ks in
    set.len-insert nat_cmp_total rest k
    ∙ ap (λ b. cond b (set.len rest) (set.len rest + 1)) (has_key ks k ∙ absent k ks (sorted_head nat_cmp k ks sorted))
    ∙ ap (λ n. n + 1) (count_keys ks (sorted_tail nat_cmp k ks sorted))
    ∙ add-one (length ks)

abbrev pub at_key : List (ℕ × ℕ) → ℕ → Option ℕ
at_key es q = lookup (is_at (nat_cmp q)) es

find_key : (es : List (ℕ × ℕ)) (q : ℕ) → map.find nat_cmp q es ≡ at_key es q
find_key [] q = refl
find_key (e ∷ es) q = ap (cond (is_at (nat_cmp q) e.0) (Some e.1)) (find_key es q)

pub get_key : (es : List (ℕ × ℕ)) (q : ℕ) → map.get (map.from_entries {R = nat_cmp} es) q ≡ at_key es q
get_key es q = map.get-from_entries nat_cmp_total es q ∙ find_key es q

pub put_pair : (es fs : List (ℕ × ℕ)) (k v : ℕ) → ((q : ℕ) → at_key fs q ≡ cond (is_at (nat_cmp k) q) (Some v) (at_key es q)) → map.from_entries {R = nat_cmp} fs ≡ map.insert (map.from_entries es) k v
put_pair es fs k v h = map.same_map nat_cmp_total map.nat_cmp-IsAntisymmetric _ _ (λ q.
    get_key fs q ∙ h q ∙ ap (λ b. cond b (Some v) (at_key es q)) ((eq_by_cmp_equiv nat_cmp_total).symm k q)
    ∙ sym (map.get-insert nat_cmp_total (map.from_entries es) k v q ∙ ap (cond (eq_by_cmp nat_cmp q k) (Some v)) (get_key es q)))

pub take_pair : (es fs : List (ℕ × ℕ)) (k : ℕ) → ((q : ℕ) → at_key fs q ≡ cond (is_at (nat_cmp k) q) None (at_key es q)) → map.from_entries {R = nat_cmp} fs ≡ map.remove (map.from_entries es) k
take_pair es fs k h = map.same_map nat_cmp_total map.nat_cmp-IsAntisymmetric _ _ (λ q.
    get_key fs q ∙ h q ∙ ap (λ b. cond b None (at_key es q)) ((eq_by_cmp_equiv nat_cmp_total).symm k q)
    ∙ sym (map.get-remove nat_cmp_total (map.from_entries es) k q ∙ ap (cond (eq_by_cmp nat_cmp q k) None) (get_key es q)))

-- Trees keep their keys in rising order.

both : (a b : Bool) → T a → T b → T (a && b)
both true b p q = q
both false b p q = p

below : {X : Type 0} (k : ℕ) (es : List (ℕ × X)) → AllByRecursion (λ q. nat_cmp k q ≡ Less) (map_list (λ e. e.0) es) → T (below_all nat_cmp k es)
below k [] h = tt
below k (e ∷ es) h = both _ _ (subst (λ r. T (is_lt r)) (sym h.0) tt) (below k es h.1)

in_order : {X : Type 0} (es : List (ℕ × X)) → IsStrictlySortedBy nat_cmp (map_list (λ e. e.0) es) → T (is_sorted nat_cmp es)
unfolding IsStrictlySortedBy
in_order [] h = tt
in_order (e ∷ es) h = both _ _ (below e.0 es h.0) (in_order es h.1)

pub entries_are : {X : Type 0} (es : List (ℕ × X)) → IsStrictlySortedBy nat_cmp (map_list (λ e. e.0) es) → map.entries (map.from_entries {R = nat_cmp} es) ≡ es
entries_are es h =
    ap map.entries (map.same_map nat_cmp_total map.nat_cmp-IsAntisymmetric _ _ (λ q. map.get-from_entries nat_cmp_total es q ∙ sym (map.get-from_sorted nat_cmp es q (in_order es h))))
    ∙ map.entries-from_sorted nat_cmp es (in_order es h)

abbrev marked : List ℕ → List (ℕ × Unit {0})
marked ks = map_list (λ k. (k, tt {0})) ks

marked_keys : (ks : List ℕ) → map_list (λ (e : ℕ × Unit {0}). e.0) (marked ks) ≡ ks
marked_keys [] = refl
marked_keys (k ∷ ks) = ap (λ rest. k ∷ rest) (marked_keys ks)

some_or : (b x : Bool) → cond b (Some (tt {0})) (cond x (Some (tt {0})) None) ≡ cond (b || x) (Some (tt {0})) None
some_or true x = refl
some_or false x = refl

find_marked : (ks : List ℕ) (q : ℕ) → map.find nat_cmp q (marked ks) ≡ cond (list_any (eq_by_cmp nat_cmp q) ks) (Some (tt {0})) None
find_marked [] q = refl
find_marked (k ∷ ks) q = ap (cond (eq_by_cmp nat_cmp q k) (Some (tt {0}))) (find_marked ks q) ∙ some_or (eq_by_cmp nat_cmp q k) (list_any (eq_by_cmp nat_cmp q) ks)

same_marked : (ks ls : List ℕ) → ((q : ℕ) → list_any (eq_by_cmp nat_cmp q) ks ≡ list_any (eq_by_cmp nat_cmp q) ls) → map.from_entries {R = nat_cmp} (marked ks) ≡ map.from_entries (marked ls)
same_marked ks ls h = map.same_map nat_cmp_total map.nat_cmp-IsAntisymmetric _ _ (λ q.
    map.get-from_entries nat_cmp_total (marked ks) q ∙ find_marked ks q ∙ ap (λ b. cond b (Some (tt {0})) None) (h q)
    ∙ sym (map.get-from_entries nat_cmp_total (marked ls) q ∙ find_marked ls q))

-- The words of a set in rising order are the keys of its tree.
pub keys_are : (ks : List ℕ) → IsStrictlySortedBy nat_cmp ks → rising (set.items (set.from_list {R = nat_cmp} ks)) ≡ ks
unfolding rising
keys_are ks h =
    ap (λ m. map.keys m) (same_marked (set.items (set.from_list {R = nat_cmp} ks)) ks (λ q. sym (set.contains-items (set.from_list ks) q) ∙ set.contains-from_list nat_cmp_total ks q))
    ∙ ap (map_list (λ (e : ℕ × Unit {0}). e.0)) (entries_are (marked ks) (subst (IsStrictlySortedBy nat_cmp) (sym (marked_keys ks)) h))
    ∙ marked_keys ks
