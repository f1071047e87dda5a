-- Tree maps and tree sets of words, seen as what stands under each key.
use Rattle.std.proofs.Common.{◌≡◌, ℕ, List, [], ◌∷◌, Bool, true, false, Option, Some, refl, sym, ap, ◌∙◌, cond, subst, eq-eqb, ne_eqb}
use mathlib.Core.Path.{fun_ext}
use Rattle.std.specs.Prelude.{◌&&◌, ◌||◌, T, map}
use Rattle.std.specs.declared.cmp.Ordering.TheVariants.{Less}
use Rattle.std.specs.List.{AllByRecursion, list_any}
use Rattle.std.specs.List.Sorted.{IsStrictlySortedBy}
use Rattle.std.specs.Ordering.{nat_cmp, is_lt}
use Rattle.std.specs.Cmp.{nat_cmp_total, unsigned_tied}
use Rattle.std.specs.FinMap.{FinMap, find, from_entries, empty, get, entries, get-empty, get-from_entries, get-from_sorted, entries-from_sorted, same_map, nat_cmp-IsAntisymmetric}
use Rattle.std.specs.FinMap.Entries.{below_all, is_sorted}
use Rattle.std.specs.Map.{lookup}
use Rattle.std.specs.BTreeMap.{is_at}
use Rattle.gr_view.specs.Places.{put}
use Rattle.gr_view.proofs.Puts.{put_by}
use Rattle.gr_hash.specs.Shards.{nothing_held, under_of, with_zeros, zero_if}

under_is : (shard : FinMap nat_cmp ℕ) (key : ℕ) → under_of shard key ≡ get shard key
unfolding under_of
under_is shard key = refl

pub none_held : under_of empty ≡ nothing_held
none_held = fun_ext (λ key. under_is empty key ∙ get-empty nat_cmp key)

-- Where what stands there is stored again, nothing changes.
pub keeps : (shard : FinMap nat_cmp ℕ) (key : ℕ) → put (under_of shard) key (under_of shard key) ≡ under_of shard
keeps shard key = sym (put_by (under_of shard) (under_of shard) key (under_of shard key) refl (λ other apart. refl))

-- Maps.

abbrev pub at_key : List (ℕ × ℕ) → ℕ → Option ℕ
at_key pairs key = lookup (is_at (nat_cmp key)) pairs

find_key : (pairs : List (ℕ × ℕ)) (key : ℕ) → find nat_cmp key pairs ≡ at_key pairs key
find_key [] key = refl
find_key (pair ∷ pairs) key = ap (cond (is_at (nat_cmp key) pair.0) (Some pair.1)) (find_key pairs key)

pub under_pairs : (pairs : List (ℕ × ℕ)) (key : ℕ) → under_of (from_entries {R = nat_cmp} pairs) key ≡ at_key pairs key
under_pairs pairs key = under_is (from_entries pairs) key ∙ get-from_entries nat_cmp_total pairs key ∙ find_key pairs key

pub pairs_changed : (old new : List (ℕ × ℕ)) (key : ℕ) (value : Option ℕ) → ((other : ℕ) → at_key new other ≡ cond (is_at (nat_cmp key) other) value (at_key old other))
    → under_of (from_entries {R = nat_cmp} new) ≡ put (under_of (from_entries {R = nat_cmp} old)) key value
pairs_changed old new key value each = put_by (under_of (from_entries {R = nat_cmp} old)) (under_of (from_entries {R = nat_cmp} new)) key value
    (under_pairs new key ∙ each key ∙ ap (λ (b : Bool). cond b value (at_key old key)) (unsigned_tied key key ∙ eq-eqb key key refl))
    (λ other apart. under_pairs new other ∙ each other
    ∙ ap (λ (b : Bool). cond b value (at_key old other)) (unsigned_tied key other ∙ ne_eqb key other (λ e. apart (sym e)))
    ∙ sym (under_pairs old other))

both : (a b : Bool) → T a → T b → T (a && b)
both true b p q = q
both false b p q = p

below : (key : ℕ) (pairs : List (ℕ × ℕ)) → AllByRecursion (λ other. nat_cmp key other ≡ Less) (map (λ pair. pair.0) pairs) → T (below_all nat_cmp key pairs)
below key [] h = tt
below key (pair ∷ pairs) h = both _ _ (subst (λ r. T (is_lt r)) (sym h.0) tt) (below key pairs h.1)

rising : (pairs : List (ℕ × ℕ)) → IsStrictlySortedBy nat_cmp (map (λ pair. pair.0) pairs) → T (is_sorted nat_cmp pairs)
unfolding IsStrictlySortedBy
rising [] h = tt
rising (pair ∷ pairs) h = both _ _ (below pair.0 pairs h.0) (rising pairs h.1)

pub entries_are : (pairs : List (ℕ × ℕ)) → IsStrictlySortedBy nat_cmp (map (λ pair. pair.0) pairs) → entries (from_entries {R = nat_cmp} pairs) ≡ pairs
entries_are pairs h =
    ap entries (same_map nat_cmp_total nat_cmp-IsAntisymmetric _ _ (λ key. get-from_entries nat_cmp_total pairs key ∙ sym (get-from_sorted nat_cmp pairs key (rising pairs h))))
    ∙ entries-from_sorted nat_cmp pairs (rising pairs h)

-- Sets.

pub zero_at : (keys : List ℕ) (key : ℕ) → at_key (with_zeros keys) key ≡ zero_if (list_any (is_at (nat_cmp key)) keys)
zero_at [] key = refl
zero_at (one ∷ keys) key = by (is_at (nat_cmp key) one) (zero_at keys key)
  where
    by : (here : Bool) → at_key (with_zeros keys) key ≡ zero_if (list_any (is_at (nat_cmp key)) keys)
        → cond here (Some 0) (at_key (with_zeros keys) key) ≡ zero_if (here || list_any (is_at (nat_cmp key)) keys)
    by true rest = refl
    by false rest = rest

pub under_keys : (keys : List ℕ) (key : ℕ) → under_of (from_entries {R = nat_cmp} (with_zeros keys)) key ≡ zero_if (list_any (is_at (nat_cmp key)) keys)
under_keys keys key = under_pairs (with_zeros keys) key ∙ zero_at keys key

chosen : (here now was : Bool) → zero_if (cond here now was) ≡ cond here (zero_if now) (zero_if was)
chosen true now was = refl
chosen false now was = refl

pub keys_changed : (old new : List ℕ) (key : ℕ) (now : Bool) → ((other : ℕ) → list_any (is_at (nat_cmp other)) new ≡ cond (is_at (nat_cmp key) other) now (list_any (is_at (nat_cmp other)) old))
    → under_of (from_entries {R = nat_cmp} (with_zeros new)) ≡ put (under_of (from_entries {R = nat_cmp} (with_zeros old))) key (zero_if now)
keys_changed old new key now each = pairs_changed (with_zeros old) (with_zeros new) key (zero_if now) (λ other.
    zero_at new other ∙ ap zero_if (each other) ∙ chosen (is_at (nat_cmp key) other) now (list_any (is_at (nat_cmp other)) old)
    ∙ ap (cond (is_at (nat_cmp key) other) (zero_if now)) (sym (zero_at old other)))

keys_of_zeros : (keys : List ℕ) → map (λ (pair : ℕ × ℕ). pair.0) (with_zeros keys) ≡ keys
keys_of_zeros [] = refl
keys_of_zeros (key ∷ keys) = ap (λ rest. key ∷ rest) (keys_of_zeros keys)

pub zeros_are : (keys : List ℕ) → IsStrictlySortedBy nat_cmp keys → entries (from_entries {R = nat_cmp} (with_zeros keys)) ≡ with_zeros keys
zeros_are keys h = entries_are (with_zeros keys) (subst (IsStrictlySortedBy nat_cmp) (sym (keys_of_zeros keys)) h)
