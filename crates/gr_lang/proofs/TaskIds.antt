-- A tree map keyed by task ids, as a finite map: what `BTreeMap` does to its entries is what the finite map does.
use Rattle.std.proofs.Common.{◌≡◌, ℕ, List, [], ◌∷◌, Bool, true, false, Option, Some, None, refl, sym, ap, ◌∙◌, cond, subst}
use Rattle.std.specs.declared.cmp.Ordering.TheVariants.{Less}
use Rattle.std.specs.Prelude.{◌&&◌, map, T}
use Rattle.std.specs.List.Sorted.{IsStrictlySortedBy}
use Rattle.std.specs.List.{AllByRecursion}
use Rattle.std.specs.FinMap.Entries.{below_all, is_sorted}
use Rattle.std.specs.Ordering.{nat_cmp, eq_by_cmp, is_lt}
use Rattle.std.specs.Cmp.{IsTotalOrder, nat_cmp_total, eq_by_cmp_equiv}
use Rattle.std.proofs.lemmas.Cmp.{on_total, then_total}
use Rattle.std.proofs.lemmas.Map.Lookups.{CmpEqualImpliesEq, exact_pairs, exact_unsigned}
use Rattle.std.specs.FinMap.{FinMap, find, from_entries, insert, remove, get, get-from_entries, get-insert, get-remove, same_map, entries, empty, get-from_sorted, entries-from_sorted, entries-insert, get-empty}
use Rattle.std.specs.FinMap.Entries.{put}
use Rattle.std.specs.Map.{lookup}
use Rattle.std.specs.BTreeMap.{is_at}
use Rattle.gr_lang.specs.declared.action.TaskId.{TaskId}
use Rattle.gr_lang.specs.States.{id_cmp}

pub ids_exact : CmpEqualImpliesEq id_cmp
ids_exact a b h = ap (λ (p : ℕ × ℕ). record { core = p.0; number = p.1 }) (exact_pairs nat_cmp nat_cmp exact_unsigned exact_unsigned (a.core, a.number) (b.core, b.number) h)

pub ids_total : IsTotalOrder id_cmp
ids_total = then_total (on_total (λ t. t.core) nat_cmp_total) (on_total (λ t. t.number) nat_cmp_total)

both : (a b : Bool) → T a → T b → T (a && b)
both true b p q = q
both false b p q = p

module _ {X : Type 0} where
  abbrev pub at_id : List (TaskId × X) → TaskId → Option X
  at_id es q = lookup (is_at (id_cmp q)) es

  find_id : (es : List (TaskId × X)) (q : TaskId) → find id_cmp q es ≡ at_id es q
  find_id [] q = refl
  find_id (e ∷ es) q = ap (cond (is_at (id_cmp q) e.0) (Some e.1)) (find_id es q)

  pub get_id : (es : List (TaskId × X)) (q : TaskId) → get (from_entries {R = id_cmp} es) q ≡ at_id es q
  get_id es q = get-from_entries ids_total es q ∙ find_id es q

  pub put_id : (es fs : List (TaskId × X)) (s : TaskId) (n : X) → ((q : TaskId) → at_id fs q ≡ cond (is_at (id_cmp s) q) (Some n) (at_id es q)) → from_entries {R = id_cmp} fs ≡ insert (from_entries es) s n
  put_id es fs s n h = same_map ids_total ids_exact _ _ (λ q.
      get_id fs q ∙ h q ∙ ap (λ b. cond b (Some n) (at_id es q)) ((eq_by_cmp_equiv ids_total).symm s q)
      ∙ sym (get-insert ids_total (from_entries es) s n q ∙ ap (cond (eq_by_cmp id_cmp q s) (Some n)) (get_id es q)))

  pub take_id : (es fs : List (TaskId × X)) (s : TaskId) → ((q : TaskId) → at_id fs q ≡ cond (is_at (id_cmp s) q) None (at_id es q)) → from_entries {R = id_cmp} fs ≡ remove (from_entries es) s
  take_id es fs s h = same_map ids_total ids_exact _ _ (λ q.
      get_id fs q ∙ h q ∙ ap (λ b. cond b None (at_id es q)) ((eq_by_cmp_equiv ids_total).symm s q)
      ∙ sym (get-remove ids_total (from_entries es) s q ∙ ap (cond (eq_by_cmp id_cmp q s) None) (get_id es q)))

  chosen : (b : Bool) (x y z : Option X) → cond b x (cond b y z) ≡ cond b x z
  chosen true x y z = refl
  chosen false x y z = refl

  pub put_back : (m : FinMap id_cmp X) (s : TaskId) (n : X) → insert (remove m s) s n ≡ insert m s n
  put_back m s n = same_map ids_total ids_exact _ _ (λ q.
      get-insert ids_total (remove m s) s n q ∙ ap (cond (eq_by_cmp id_cmp q s) (Some n)) (get-remove ids_total m s q)
      ∙ chosen (eq_by_cmp id_cmp q s) (Some n) None (get m q) ∙ sym (get-insert ids_total m s n q))

  below : (x : TaskId) (es : List (TaskId × X)) → AllByRecursion (λ y. id_cmp x y ≡ Less) (map (λ e. e.0) es) → T (below_all id_cmp x es)
  below x [] h = tt
  below x (e ∷ es) h = both _ _ (subst (λ r. T (is_lt r)) (sym h.0) tt) (below x es h.1)

  ascending : (es : List (TaskId × X)) → IsStrictlySortedBy id_cmp (map (λ e. e.0) es) → T (is_sorted id_cmp es)
  unfolding IsStrictlySortedBy
  ascending [] h = tt
  ascending (e ∷ es) h = both _ _ (below e.0 es h.0) (ascending es h.1)

  pub entries_id : (es : List (TaskId × X)) → IsStrictlySortedBy id_cmp (map (λ e. e.0) es) → entries (from_entries {R = id_cmp} es) ≡ es
  entries_id es h = ap entries (same_map ids_total ids_exact _ _ (λ q. get-from_entries ids_total es q ∙ sym (get-from_sorted id_cmp es q (ascending es h)))) ∙ entries-from_sorted id_cmp es (ascending es h)

  -- Looking up and listing what was put in, with no premise.
  pub get_put : (m : FinMap id_cmp X) (s : TaskId) (n : X) (q : TaskId) → get (insert m s n) q ≡ cond (eq_by_cmp id_cmp q s) (Some n) (get m q)
  get_put m s n q = get-insert ids_total m s n q

  pub get_none : (q : TaskId) → get (empty {X = X} {R = id_cmp}) q ≡ None
  get_none q = get-empty id_cmp q

  pub entries_put : (m : FinMap id_cmp X) (s : TaskId) (n : X) → entries (insert m s n) ≡ put id_cmp s n (entries m)
  entries_put m s n = entries-insert ids_total m s n

  pub entries_none : entries (empty {X = X} {R = id_cmp}) ≡ []
  unfolding IsStrictlySortedBy
  entries_none = entries_id [] tt

  -- A task that is put in twice counts as put in the second time.
  pub put_twice : (m : FinMap id_cmp X) (s : TaskId) (n k : X) → insert (insert m s n) s k ≡ insert m s k
  put_twice m s n k = same_map ids_total ids_exact _ _ (λ q.
      get-insert ids_total (insert m s n) s k q ∙ ap (cond (eq_by_cmp id_cmp q s) (Some k)) (get-insert ids_total m s n q)
      ∙ chosen (eq_by_cmp id_cmp q s) (Some k) (Some n) (get m q) ∙ sym (get-insert ids_total m s k q))

pub ruleset by_ids = (get_put, get_none, entries_put, entries_none)
