-- Looking up a task after a task was put in, and the tasks of a map as a list.
use Rattle.std.proofs.Common.{◌≡◌, List, [], ◌∷◌, map, Bool, true, false, cond, T, ◌&&◌, ◌||◌, ◌⊎◌, inl, inr, Option, Some, None, Ordering, Less, Equal, Greater, is_eq, is_lt, refl, sym, ap, ◌∙◌}
use Rattle.std.specs.List.{list_any}
use Rattle.std.specs.Ordering.{eq_by_cmp}
use Rattle.std.specs.Cmp.{eq_by_cmp_equiv}
use Rattle.std.proofs.lemmas.Map.Views.{tells_apart}
use Rattle.std.specs.FinMap.{FinMap, get, insert, entries, values, find, get-entries, entries_sorted}
use Rattle.std.specs.FinMap.Entries.{below_all, is_sorted}
use Rattle.gr_lang.specs.declared.action.TaskId.{TaskId}
use Rattle.gr_lang.specs.States.{id_cmp}
use Rattle.gr_lang.proofs.TaskIds.{ids_exact, ids_total, get_put}

pub same_id : (q : TaskId) → eq_by_cmp id_cmp q q ≡ true
same_id q = (eq_by_cmp_equiv ids_total).refl q

-- Two ids are equal or not.
pub id_split : (q s : TaskId) → (q ≡ s) ⊎ (eq_by_cmp id_cmp q s ≡ false)
id_split q s = by (eq_by_cmp id_cmp q s) refl
  where
    by : (b : Bool) → eq_by_cmp id_cmp q s ≡ b → (q ≡ s) ⊎ (eq_by_cmp id_cmp q s ≡ false)
    by true e = inl (tells_apart ids_exact q s e)
    by false e = inr e

below_more : (r : Ordering) (b : Bool) → T (is_lt r && b) → (is_eq r ≡ false) × T b
below_more Less b h = (refl, h)
below_more Equal b h = absurd h
below_more Greater b h = absurd h

and_both : (a b : Bool) → T (a && b) → T a × T b
and_both true b h = (tt, h)
and_both false b h = absurd h

or_true : (b : Bool) → (b || true) ≡ true
or_true true = refl
or_true false = refl

module _ {X : Type 0} where
  pub get_same : (m : FinMap id_cmp X) (s : TaskId) (n : X) → get (insert m s n) s ≡ Some n
  get_same m s n = get_put m s n s ∙ ap (λ b. cond b (Some n) (get m s)) (same_id s)

  pub get_other : (m : FinMap id_cmp X) (s q : TaskId) (n : X) → eq_by_cmp id_cmp q s ≡ false → get (insert m s n) q ≡ get m q
  get_other m s q n h = get_put m s n q ∙ ap (λ b. cond b (Some n) (get m q)) h

  -- A task that is found at q after n was put in at s: n itself at s, or what stood there before.
  abbrev pub IsPut : FinMap id_cmp X → TaskId → X → TaskId → X → Type 0
  IsPut m s n q t = ((q ≡ s) × (n ≡ t)) ⊎ ((eq_by_cmp id_cmp q s ≡ false) × (get m q ≡ Some t))

  pub found_put : (m : FinMap id_cmp X) (s q : TaskId) (n t : X) → get (insert m s n) q ≡ Some t → IsPut m s n q t
  found_put m s q n t h = by (id_split q s)
    where
      by : (q ≡ s) ⊎ (eq_by_cmp id_cmp q s ≡ false) → IsPut m s n q t
      by (inl e) =
          let k : Some n ≡ Some t = sym (get_same m s n) ∙ ap (λ (x : TaskId). get (insert m s n) x) (sym e) ∙ h in
          let v : n ≡ t = cc in inl (e, v)
      by (inr e) = inr (e, sym (get_other m s q n e) ∙ h)

  -- A task that was there before is there still, where the place of the one that was put in was empty.
  pub found_still : (m : FinMap id_cmp X) (s q : TaskId) (n t : X) → get m s ≡ None → get m q ≡ Some t → get (insert m s n) q ≡ Some t
  found_still m s q n t new h = by (id_split q s)
    where
      by : (q ≡ s) ⊎ (eq_by_cmp id_cmp q s ≡ false) → get (insert m s n) q ≡ Some t
      by (inl e) = let k : None ≡ Some t = sym new ∙ ap (get m) (sym e) ∙ h in cc
      by (inr e) = get_other m s q n e ∙ h

  -- ---- the tasks as a list

  first_found : (f : X → Bool) (q : TaskId) (t : X) (x : TaskId × X) (b : Bool) (rest : Option X) (more : Bool)
      → (rest ≡ Some t → more ≡ true) → f t ≡ true → cond b (Some x.1) rest ≡ Some t → (f x.1 || more) ≡ true
  first_found f q t x true rest more h k e = let v : x.1 ≡ t = cc in rw v (rw k refl)
  first_found f q t x false rest more h k e = rw (h e) (or_true (f x.1))

  find_any : (f : X → Bool) (q : TaskId) (t : X) (es : List (TaskId × X)) → f t ≡ true → find id_cmp q es ≡ Some t → list_any f (map (λ e. e.1) es) ≡ true
  find_any f q t [] k e = cc
  find_any f q t (x ∷ es) k e = first_found f q t x (eq_by_cmp id_cmp q x.0) (find id_cmp q es) _ (find_any f q t es k) k e

  -- A task that is found and passes a test is one of all.
  pub any_task : (m : FinMap id_cmp X) (f : X → Bool) (q : TaskId) (t : X) → get m q ≡ Some t → f t ≡ true → list_any f (values m) ≡ true
  any_task m f q t h k = find_any f q t (entries m) k (sym (get-entries m q) ∙ h)

  below_none : (x : TaskId) (es : List (TaskId × X)) → T (below_all id_cmp x es) → find id_cmp x es ≡ None
  below_none x [] h = refl
  below_none x (e ∷ es) h =
      let k : (is_eq (id_cmp x e.0) ≡ false) × T (below_all id_cmp x es) = below_more (id_cmp x e.0) (below_all id_cmp x es) h in
      ap (λ b. cond b (Some e.1) (find id_cmp x es)) k.0 ∙ below_none x es k.1

  -- What is found behind a key isn't found at it.
  behind : (x q : TaskId) (t : X) (es : List (TaskId × X)) → T (below_all id_cmp x es) → find id_cmp q es ≡ Some t → eq_by_cmp id_cmp q x ≡ false
  behind x q t es h e = by (id_split q x)
    where
      by : (q ≡ x) ⊎ (eq_by_cmp id_cmp q x ≡ false) → eq_by_cmp id_cmp q x ≡ false
      by (inl k) = let n : None ≡ Some t = sym (below_none x es h) ∙ ap (λ y. find id_cmp y es) (sym k) ∙ e in cc
      by (inr k) = k

  -- A task of all, and its id.
  pub record FoundIn (es : List (TaskId × X)) (f : X → Bool) : Type 0 where
    pub id : TaskId
    pub task : X
    pub there : find id_cmp id es ≡ Some task
    pub passes : f task ≡ true

  found_later : (x : TaskId × X) (es : List (TaskId × X)) (f : X → Bool) → T (below_all id_cmp x.0 es) → FoundIn es f → FoundIn (x ∷ es) f
  found_later x es f h k = record {
    id = k.id;
    task = k.task;
    there = ap (λ b. cond b (Some x.1) (find id_cmp k.id es)) (behind x.0 k.id k.task es h k.there) ∙ k.there;
    passes = k.passes;
  }

  found_in : (f : X → Bool) (es : List (TaskId × X)) → T (is_sorted id_cmp es) → list_any f (map (λ e. e.1) es) ≡ true → FoundIn es f
  found_in f [] s h = cc
  found_in f (x ∷ es) s h =
      let k : T (below_all id_cmp x.0 es) × T (is_sorted id_cmp es) = and_both (below_all id_cmp x.0 es) (is_sorted id_cmp es) s in
      elim (f x.1) as (λ b. f x.1 ≡ b → (b || list_any f (map (λ e. e.1) es)) ≡ true → FoundIn (x ∷ es) f) [
        | true ↦ λ e _. record { id = x.0; task = x.1; there = ap (λ b. cond b (Some x.1) (find id_cmp x.0 es)) (same_id x.0); passes = e }
        | false ↦ λ e r. found_later x es f k.0 (found_in f es k.1 r)
      ] refl h

  pub record Found (m : FinMap id_cmp X) (f : X → Bool) : Type 0 where
    pub id : TaskId
    pub task : X
    pub there : get m id ≡ Some task
    pub passes : f task ≡ true

  pub found_any : (m : FinMap id_cmp X) (f : X → Bool) → list_any f (values m) ≡ true → Found m f
  found_any m f h =
      let k : FoundIn (entries m) f = found_in f (entries m) (entries_sorted m) h in
      record { id = k.id; task = k.task; there = get-entries m k.id ∙ k.there; passes = k.passes }
