-- The loop over the held calls makes the groups and the calls that stay.
use Rattle.std.proofs.Common.{◌≡◌, ◌∙◌, ◌==◌, ◌||◌, ap, ap₂, refl, sym, subst, ℕ, Bool, true, false, not, List, [], ◌∷◌, ◌++◌, map, Option, Some, None, unwrap_or, is_some, option_and_then, nat_eq, cond, arith, append-nil, drop, take, length, zero, suc, ◌≤◌}
use Rattle.std.proofs.lemmas.Bool.{eqb-true, eq-eqb, ne_eqb}
use Rattle.std.proofs.lemmas.List.{append_assoc}
use Rattle.std.specs.List.{filter}
use Rattle.std.specs.Map.{lookup}
use Rattle.indexmap.specs.IndexMap.{insert_entry}
use Rattle.gr_lang.specs.Effects.{effect_of}
use Rattle.gr_lang.specs.declared.action.Effect.{Effect}
use Rattle.gr_lang.specs.declared.action.Effect.TheVariants as effect
use Rattle.gr_lang.specs.declared.action.WaitingCall.{WaitingCall}
use Rattle.gr_batch.specs.Folding.{folded, folded_after, together}
use Rattle.gr_batch.specs.Batches.{Group, calls_at, distinct, group_of, groups_of, grown, grown_all, grown_by, keys_of, no_group, one_if, rest_after, rest_of, stays_after}
use Rattle.gr_batch.specs.GroupWords.{closed_after, group_at, grow, stays_in}
use Rattle.gr_batch.specs.Laws.{BatchesAreLongest, IsLongest}
use Rattle.gr_batch.specs.declared.combiner.Held.{Held}

pub put_twice : (k : ℕ) (p : Group) (c : WaitingCall) (es : List (ℕ × Group)) → insert_entry nat_eq (insert_entry nat_eq es k p) k (grown (group_at k es) c) ≡ grow k c es
put_twice k p c [] = rw (eq-eqb k k refl) refl
put_twice k p c (e ∷ es) = by (k == e.0) refl (put_twice k p c es)
  where
    by : (t : Bool) → (k == e.0) ≡ t → insert_entry nat_eq (insert_entry nat_eq es k p) k (grown (group_at k es) c) ≡ grow k c es
        → insert_entry nat_eq (cond t ((e.0, p) ∷ es) (e ∷ insert_entry nat_eq es k p)) k (grown (unwrap_or (cond t (Some e.1) (lookup (nat_eq k) es)) no_group) c)
        ≡ cond t ((e.0, grown e.1 c) ∷ es) (e ∷ grow k c es)
    by true is rec = rw is refl
    by false is rec = rw is (ap (λ l. e ∷ l) rec)

-- Keys.

abbrev has : ℕ → List ℕ → Bool
has k [] = false
has k (j ∷ js) = (j == k) || has k js

abbrev without : ℕ → List ℕ → List ℕ
without j = filter (λ i. not (i == j))

has_without_same : (j : ℕ) (xs : List ℕ) → has j (without j xs) ≡ false
has_without_same j [] = refl
has_without_same j (x ∷ xs) = by (x == j) refl (has_without_same j xs)
  where
    by : (t : Bool) → (x == j) ≡ t → has j (without j xs) ≡ false → has j (cond (not t) (x ∷ without j xs) (without j xs)) ≡ false
    by true is rec = rec
    by false is rec = rw is rec

has_without_other : (k j : ℕ) (xs : List ℕ) → (j == k) ≡ false → has k (without j xs) ≡ has k xs
has_without_other k j [] other = refl
has_without_other k j (x ∷ xs) other = by (x == j) refl (has_without_other k j xs other)
  where
    by : (t : Bool) → (x == j) ≡ t → has k (without j xs) ≡ has k xs → has k (cond (not t) (x ∷ without j xs) (without j xs)) ≡ (x == k) || has k xs
    by true is rec =
        let same : x ≡ j = eqb-true x j is in
        let no_k : (x == k) ≡ false = ap (λ (i : ℕ). i == k) same ∙ other in
        rec ∙ ap (λ (b : Bool). b || has k xs) (sym no_k)
    by false is rec = ap (λ (b : Bool). (x == k) || b) rec

has_without_less : (k j : ℕ) (xs : List ℕ) → has k xs ≡ false → has k (without j xs) ≡ false
has_without_less k j [] none = refl
has_without_less k j (x ∷ xs) none = by (x == k) (x == j) refl none (has_without_less k j xs)
  where
    by : (s t : Bool) → (x == k) ≡ s → s || has k xs ≡ false → (has k xs ≡ false → has k (without j xs) ≡ false) → has k (cond (not t) (x ∷ without j xs) (without j xs)) ≡ false
    by true t is none rec = cc
    by false true is none rec = rec none
    by false false is none rec = rw is (rec none)

abbrev NoTwice : List ℕ → Type 0
NoTwice [] = Unit {0}
NoTwice (k ∷ ks) = (has k ks ≡ false) × NoTwice ks

no_twice_without : (j : ℕ) (xs : List ℕ) → NoTwice xs → NoTwice (without j xs)
no_twice_without j [] h = tt
no_twice_without j (x ∷ xs) h = by (x == j) (no_twice_without j xs h.1)
  where
    by : (t : Bool) → NoTwice (without j xs) → NoTwice (cond (not t) (x ∷ without j xs) (without j xs))
    by true rec = rec
    by false rec = (has_without_less x j xs h.0, rec)

no_twice : (ks : List ℕ) → NoTwice (distinct ks)
no_twice [] = tt
no_twice (k ∷ ks) = (has_without_same k (distinct ks), no_twice_without k (distinct ks) (no_twice ks))

has_distinct : (k : ℕ) (ks : List ℕ) → has k (distinct ks) ≡ has k ks
has_distinct k [] = refl
has_distinct k (j ∷ ks) = by (j == k) refl (has_distinct k ks)
  where
    by : (t : Bool) → (j == k) ≡ t → has k (distinct ks) ≡ has k ks → t || has k (without j (distinct ks)) ≡ t || has k ks
    by true is rec = refl
    by false is rec = has_without_other k j (distinct ks) is ∙ rec

without_push : (j k : ℕ) (xs : List ℕ) → without j (xs ++ k ∷ []) ≡ without j xs ++ without j (k ∷ [])
without_push j k [] = refl
without_push j k (x ∷ xs) = by (x == j) (without_push j k xs)
  where
    by : (t : Bool) → without j (xs ++ k ∷ []) ≡ without j xs ++ without j (k ∷ [])
        → cond (not t) (x ∷ without j (xs ++ k ∷ [])) (without j (xs ++ k ∷ [])) ≡ cond (not t) (x ∷ without j xs) (without j xs) ++ without j (k ∷ [])
    by true rec = rec
    by false rec = ap (λ l. x ∷ l) rec

abbrev pushed_if_new : ℕ → List ℕ → List ℕ → List ℕ
pushed_if_new k ks js = cond (has k ks) js (js ++ k ∷ [])

distinct_push : (k : ℕ) (ks : List ℕ) → distinct (ks ++ k ∷ []) ≡ cond (has k ks) (distinct ks) (distinct ks ++ k ∷ [])
distinct_push k [] = refl
distinct_push k (j ∷ ks) = by (has k ks) (j == k) refl (distinct_push k ks)
  where
    by : (s t : Bool) → (j == k) ≡ t → distinct (ks ++ k ∷ []) ≡ cond s (distinct ks) (distinct ks ++ k ∷ [])
        → j ∷ without j (distinct (ks ++ k ∷ [])) ≡ cond (t || s) (j ∷ without j (distinct ks)) (j ∷ (without j (distinct ks) ++ k ∷ []))
    by true true is rec = ap (λ l. j ∷ without j l) rec
    by true false is rec = ap (λ l. j ∷ without j l) rec
    by false true is rec =
        let back : (k == j) ≡ true = eq-eqb k j (sym (eqb-true j k is)) in
        ap (λ l. j ∷ without j l) rec ∙ ap (λ l. j ∷ l) (without_push j k (distinct ks))
        ∙ ap (λ (b : Bool). j ∷ (without j (distinct ks) ++ cond (not b) (k ∷ []) [])) back ∙ ap (λ l. j ∷ l) (append-nil (without j (distinct ks)))
    by false false is rec =
        let back : (k == j) ≡ false = ne_eqb k j (λ e. let bad : true ≡ false = sym (eq-eqb j k (sym e)) ∙ is in cc) in
        ap (λ l. j ∷ without j l) rec ∙ ap (λ l. j ∷ l) (without_push j k (distinct ks))
        ∙ ap (λ (b : Bool). j ∷ (without j (distinct ks) ++ cond (not b) (k ∷ []) [])) back

-- Groups.

pub calls_push : (k : ℕ) (hs : List Held) (h : Held) → calls_at k (hs ++ h ∷ []) ≡ calls_at k hs ++ cond (h.key == k) (h.call ∷ []) []
calls_push k [] h = refl
calls_push k (x ∷ hs) h = by (x.key == k) (calls_push k hs h)
  where
    by : (t : Bool) → calls_at k (hs ++ h ∷ []) ≡ calls_at k hs ++ cond (h.key == k) (h.call ∷ []) []
        → cond t (x.call ∷ calls_at k (hs ++ h ∷ [])) (calls_at k (hs ++ h ∷ [])) ≡ cond t (x.call ∷ calls_at k hs) (calls_at k hs) ++ cond (h.key == k) (h.call ∷ []) []
    by true rec = ap (λ l. x.call ∷ l) rec
    by false rec = rec

grown_push : (g : Group) (cs : List WaitingCall) (c : WaitingCall) → grown_all g (cs ++ c ∷ []) ≡ grown (grown_all g cs) c
grown_push g [] c = refl
grown_push g (x ∷ cs) c = grown_push (grown g x) cs c

no_calls : (k : ℕ) (hs : List Held) → has k (keys_of hs) ≡ false → calls_at k hs ≡ []
no_calls k [] none = refl
no_calls k (h ∷ hs) none = by (h.key == k) none (no_calls k hs)
  where
    by : (t : Bool) → t || has k (keys_of hs) ≡ false → (has k (keys_of hs) ≡ false → calls_at k hs ≡ []) → cond t (h.call ∷ calls_at k hs) (calls_at k hs) ≡ []
    by true none rec = cc
    by false none rec = rec none

keys_push : (hs : List Held) (h : Held) → keys_of (hs ++ h ∷ []) ≡ keys_of hs ++ h.key ∷ []
keys_push [] h = refl
keys_push (x ∷ hs) h = ap (λ l. x.key ∷ l) (keys_push hs h)

-- the groups by a function, at keys without one twice
module _ (k : ℕ) (c : WaitingCall) (g f : ℕ → Group) (at : f k ≡ grown (g k) c) (others : (j : ℕ) → (k == j) ≡ false → f j ≡ g j) where
  abbrev shown : (ℕ → Group) → List ℕ → List (ℕ × Group)
  shown q = map (λ j. (j, q j))

  back : (i j : ℕ) → (i == j) ≡ false → (j == i) ≡ false
  back i j is = ne_eqb j i (λ e. let bad : true ≡ false = sym (eq-eqb i j (sym e)) ∙ is in cc)

  same_shown : (ks : List ℕ) → has k ks ≡ false → shown g ks ≡ shown f ks
  same_shown [] none = refl
  same_shown (j ∷ ks) none = by (j == k) refl none (same_shown ks)
    where
      by : (t : Bool) → (j == k) ≡ t → t || has k ks ≡ false → (has k ks ≡ false → shown g ks ≡ shown f ks) → (j, g j) ∷ shown g ks ≡ (j, f j) ∷ shown f ks
      by true is none rec = cc
      by false is none rec = ap₂ (λ (x : Group) l. (j, x) ∷ l) (sym (others j (back j k is))) (rec none)

  grow_here : (ks : List ℕ) → NoTwice ks → has k ks ≡ true → grow k c (shown g ks) ≡ shown f ks
  grow_here [] twice here = cc
  grow_here (j ∷ ks) twice here = by (k == j) refl (grow_here ks twice.1)
    where
      by : (t : Bool) → (k == j) ≡ t → (has k ks ≡ true → grow k c (shown g ks) ≡ shown f ks)
          → cond t ((j, grown (g j) c) ∷ shown g ks) ((j, g j) ∷ grow k c (shown g ks)) ≡ (j, f j) ∷ shown f ks
      by true is rec =
          let same : k ≡ j = eqb-true k j is in
          let now : grown (g j) c ≡ f j = subst (λ (i : ℕ). grown (g i) c ≡ f i) same (sym at) in
          ap₂ (λ (x : Group) l. (j, x) ∷ l) now (same_shown ks (subst (λ (i : ℕ). has i ks ≡ false) (sym same) twice.0))
      by false is rec =
          let further : has k ks ≡ true = ap (λ (b : Bool). b || has k ks) (sym (back k j is)) ∙ here in
          ap₂ (λ (x : Group) l. (j, x) ∷ l) (sym (others j is)) (rec further)

  grow_new : (ks : List ℕ) → g k ≡ no_group → has k ks ≡ false → grow k c (shown g ks) ≡ shown f (ks ++ k ∷ [])
  grow_new [] empty none = ap (λ (x : Group). (k, x) ∷ []) (ap (λ (x : Group). grown x c) (sym empty) ∙ sym at)
  grow_new (j ∷ ks) empty none = by (k == j) refl none (grow_new ks empty)
    where
      by : (t : Bool) → (k == j) ≡ t → (j == k) || has k ks ≡ false → (has k ks ≡ false → grow k c (shown g ks) ≡ shown f (ks ++ k ∷ []))
          → cond t ((j, grown (g j) c) ∷ shown g ks) ((j, g j) ∷ grow k c (shown g ks)) ≡ (j, f j) ∷ shown f (ks ++ k ∷ [])
      by true is none rec =
          let bad : true ≡ false = ap (λ (b : Bool). b || has k ks) (sym (eq-eqb j k (sym (eqb-true k j is)))) ∙ none in
          cc
      by false is none rec =
          let further : has k ks ≡ false = ap (λ (b : Bool). b || has k ks) (sym (back k j is)) ∙ none in
          ap₂ (λ (x : Group) l. (j, x) ∷ l) (sym (others j is)) (rec further)

pub grow_is : (before : List Held) (h : Held) → grow h.key h.call (groups_of before) ≡ groups_of (before ++ h ∷ [])
grow_is before h = by (has h.key (keys_of before)) refl
  where
    k : ℕ
    k = h.key

    g : ℕ → Group
    g j = group_of (calls_at j before)

    f : ℕ → Group
    f j = group_of (calls_at j (before ++ h ∷ []))

    at : f k ≡ grown (g k) h.call
    at = ap group_of (calls_push k before h ∙ ap (λ (b : Bool). calls_at k before ++ cond b (h.call ∷ []) []) (eq-eqb k k refl)) ∙ grown_push no_group (calls_at k before) h.call

    others : (j : ℕ) → (k == j) ≡ false → f j ≡ g j
    others j is = ap group_of (calls_push j before h ∙ ap (λ (b : Bool). calls_at j before ++ cond b (h.call ∷ []) []) is ∙ append-nil (calls_at j before))

    keys : distinct (keys_of (before ++ h ∷ [])) ≡ cond (has k (keys_of before)) (distinct (keys_of before)) (distinct (keys_of before) ++ k ∷ [])
    keys = ap distinct (keys_push before h) ∙ distinct_push k (keys_of before)

    by : (t : Bool) → has k (keys_of before) ≡ t → grow k h.call (map (λ j. (j, g j)) (distinct (keys_of before))) ≡ map (λ j. (j, f j)) (distinct (keys_of (before ++ h ∷ [])))
    by true is = grow_here k h.call g f at others (distinct (keys_of before)) (no_twice (keys_of before)) (has_distinct k (keys_of before) ∙ is)
        ∙ ap (map (λ j. (j, f j))) (sym (keys ∙ ap (λ (b : Bool). cond b (distinct (keys_of before)) (distinct (keys_of before) ++ k ∷ [])) is))
    by false is = grow_new k h.call g f at others (distinct (keys_of before)) (ap group_of (no_calls k before is)) (has_distinct k (keys_of before) ∙ is)
        ∙ ap (map (λ j. (j, f j))) (sym (keys ∙ ap (λ (b : Bool). cond b (distinct (keys_of before)) (distinct (keys_of before) ++ k ∷ [])) is))

-- The rest.

-- a group is open exactly where its calls fold, and then has their effect
record Follows (e : Option Effect) (g : Group) : Type 0 where
  open_is : g.is_open ≡ is_some e
  effect_is : (f : Effect) → e ≡ Some f → g.effect ≡ f

abbrev pub after_call : Option Effect → WaitingCall → Option Effect
after_call e c = option_and_then (λ f. together f (effect_of c.op)) e

pub folded_push : (e : Effect) (cs : List WaitingCall) (c : WaitingCall) → folded_after e (cs ++ c ∷ []) ≡ after_call (folded_after e cs) c
folded_push e [] c = by (together e (effect_of c.op))
  where
    by : (o : Option Effect) → option_and_then (λ f. Some f) o ≡ o
    by None = refl
    by (Some f) = refl
folded_push e (x ∷ cs) c = by (together e (effect_of x.op)) (λ f. folded_push f cs c)
  where
    by : (o : Option Effect) → ((f : Effect) → folded_after f (cs ++ c ∷ []) ≡ after_call (folded_after f cs) c)
        → option_and_then (λ f. folded_after f (cs ++ c ∷ [])) o ≡ after_call (option_and_then (λ f. folded_after f cs) o) c
    by None rec = refl
    by (Some f) rec = rec f

open_after : (g : Group) (c : WaitingCall) (o : Option Effect) → (grown_by g c o).is_open ≡ is_some o
open_after g c None = refl
open_after g c (Some e) = refl

effect_after : (g : Group) (c : WaitingCall) (o : Option Effect) (f : Effect) → o ≡ Some f → (grown_by g c o).effect ≡ f
effect_after g c None f h = cc
effect_after g c (Some e) f h = ap (λ (o : Option Effect). unwrap_or o f) h

grow_follows : (e : Option Effect) (g : Group) (c : WaitingCall) → Follows e g → Follows (after_call e c) (grown g c)
grow_follows None g c h =
    let shut : grown g c ≡ g = ap (λ (b : Bool). cond b (grown_by g c (together g.effect (effect_of c.op))) g) h.open_is in
    record { open_is = ap (λ (x : Group). x.is_open) shut ∙ h.open_is; effect_is = λ f some. cc }
grow_follows (Some e) g c h =
    let is : g.effect ≡ e = h.effect_is e refl in
    let grew : grown g c ≡ grown_by g c (together e (effect_of c.op)) =
    ap (λ (b : Bool). cond b (grown_by g c (together g.effect (effect_of c.op))) g) h.open_is ∙ ap (λ (x : Effect). grown_by g c (together x (effect_of c.op))) is in
    record {
      open_is = ap (λ (x : Group). x.is_open) grew ∙ open_after g c (together e (effect_of c.op));
      effect_is = λ f some. ap (λ (x : Group). x.effect) grew ∙ effect_after g c (together e (effect_of c.op)) f some;
    }

all_follow : (e : Effect) (g : Group) (cs : List WaitingCall) → (o : Option Effect) → Follows o g → Follows (option_and_then (λ f. folded_after f cs) o) (grown_all g cs)
all_follow e g [] None h = h
all_follow e g [] (Some f) h = h
all_follow e g (c ∷ cs) None h = all_follow e (grown g c) cs None (grow_follows None g c h)
all_follow e g (c ∷ cs) (Some f) h = all_follow e (grown g c) cs (together f (effect_of c.op)) (grow_follows (Some f) g c h)

group_follows : (cs : List WaitingCall) → Follows (folded cs) (group_of cs)
group_follows cs = all_follow effect.Keep no_group cs (Some effect.Keep) (record { open_is = refl; effect_is = λ f h. ap (λ (o : Option Effect). unwrap_or o f) h })

group_shown : (k : ℕ) (g : ℕ → Group) (ks : List ℕ) → has k ks ≡ true → group_at k (map (λ j. (j, g j)) ks) ≡ g k
group_shown k g [] here = cc
group_shown k g (j ∷ ks) here = by (k == j) refl (group_shown k g ks)
  where
    by : (t : Bool) → (k == j) ≡ t → (has k ks ≡ true → group_at k (map (λ j. (j, g j)) ks) ≡ g k)
        → unwrap_or (cond t (Some (g j)) (lookup (nat_eq k) (map (λ j. (j, g j)) ks))) no_group ≡ g k
    by true is rec = ap g (sym (eqb-true k j is))
    by false is rec =
        let other : (j == k) ≡ false = ne_eqb j k (λ e. let bad : true ≡ false = sym (eq-eqb k j (sym e)) ∙ is in cc) in
        rec (ap (λ (b : Bool). b || has k ks) (sym other) ∙ here)

group_unshown : (k : ℕ) (g : ℕ → Group) (ks : List ℕ) → has k ks ≡ false → group_at k (map (λ j. (j, g j)) ks) ≡ no_group
group_unshown k g [] none = refl
group_unshown k g (j ∷ ks) none = by (k == j) refl (group_unshown k g ks)
  where
    by : (t : Bool) → (k == j) ≡ t → (has k ks ≡ false → group_at k (map (λ j. (j, g j)) ks) ≡ no_group)
        → unwrap_or (cond t (Some (g j)) (lookup (nat_eq k) (map (λ j. (j, g j)) ks))) no_group ≡ no_group
    by true is rec =
        let bad : true ≡ false = ap (λ (b : Bool). b || has k ks) (sym (eq-eqb j k (sym (eqb-true k j is)))) ∙ none in
        cc
    by false is rec =
        let other : (j == k) ≡ false = ne_eqb j k (λ e. let bad : true ≡ false = sym (eq-eqb k j (sym e)) ∙ is in cc) in
        rec (ap (λ (b : Bool). b || has k ks) (sym other) ∙ none)

group_is : (before : List Held) (k : ℕ) → group_at k (groups_of before) ≡ group_of (calls_at k before)
group_is before k = by (has k (keys_of before)) refl
  where
    by : (t : Bool) → has k (keys_of before) ≡ t → group_at k (groups_of before) ≡ group_of (calls_at k before)
    by true is = group_shown k (λ j. group_of (calls_at j before)) (distinct (keys_of before)) (has_distinct k (keys_of before) ∙ is)
    by false is = group_unshown k (λ j. group_of (calls_at j before)) (distinct (keys_of before)) (has_distinct k (keys_of before) ∙ is) ∙ ap group_of (sym (no_calls k before is))

stays_is : (before : List Held) (h : Held) → stays_in (groups_of before) h ≡ stays_after before h
stays_is before h =
    let cs = calls_at h.key before in
    ap not (ap (λ (g : Group). (grown g h.call).is_open) (group_is before h.key)
    ∙ ap (λ (g : Group). g.is_open) (sym (grown_push no_group cs h.call))
    ∙ (group_follows (cs ++ h.call ∷ [])).open_is)

rest_push : (before hs : List Held) (h : Held) → rest_after before (hs ++ h ∷ []) ≡ rest_after before hs ++ one_if (stays_after (before ++ hs) h) h
rest_push before [] h = append-nil (one_if (stays_after before h) h) ∙ ap (λ l. one_if (stays_after l h) h) (sym (append-nil before))
rest_push before (x ∷ hs) h =
    ap (λ l. one_if (stays_after before x) x ++ l) (rest_push (before ++ x ∷ []) hs h ∙ ap (λ l. rest_after (before ++ x ∷ []) hs ++ one_if (stays_after l h) h) (append_assoc before (x ∷ []) hs))
    ∙ sym (append_assoc (one_if (stays_after before x) x) (rest_after (before ++ x ∷ []) hs) (one_if (stays_after (before ++ x ∷ hs) h) h))

closed_is : (before hs : List Held) → closed_after (groups_of before) (rest_of before) hs ≡ (groups_of (before ++ hs), rest_of (before ++ hs))
closed_is before [] = ap (λ l. (groups_of l, rest_of l)) (sym (append-nil before))
closed_is before (h ∷ hs) =
    ap₂ (λ gs r. closed_after gs r hs) (grow_is before h) (ap (λ b. rest_of before ++ one_if b h) (stays_is before h) ∙ sym (rest_push [] before h))
    ∙ closed_is (before ++ h ∷ []) hs ∙ ap (λ l. (groups_of l, rest_of l)) (append_assoc before (h ∷ []) hs)

pub close_is : (held : List Held) → closed_after [] [] held ≡ (groups_of held, rest_of held)
close_is held = closed_is [] held

drop_over : (i : ℕ) (xs : List Held) → length xs ≤ i → drop i xs ≡ []
drop_over zero [] le = refl
drop_over (suc i) [] le = refl
drop_over zero (x ∷ xs) le = absurd (omega arith)
drop_over (suc i) (x ∷ xs) le = drop_over i xs (omega arith)

-- at the end of the loop nothing is left
pub close_done : (groups : List (ℕ × Group)) (rest : List Held) (i : ℕ) (held : List Held) → length held ≤ i
    → closed_after groups rest (drop i held) ≡ closed_after [] [] held → (groups ≡ groups_of held) × (rest ≡ rest_of held)
close_done groups rest i held le e =
    let pair : ◌≡◌ {A = List (ℕ × Group) × List Held} (groups, rest) (groups_of held, rest_of held) =
    sym (ap (closed_after groups rest) (drop_over i held le)) ∙ e ∙ close_is held in
    (ap (λ p. p.0) pair, ap (λ p. p.1) pair)

-- A group has the longest run of first calls that folds.

pub shut_all : (g : Group) (cs : List WaitingCall) → g.is_open ≡ false → grown_all g cs ≡ g
shut_all g [] shut = refl
shut_all g (c ∷ cs) shut =
    let same : grown g c ≡ g = ap (λ (b : Bool). cond b (grown_by g c (together g.effect (effect_of c.op))) g) shut in
    ap (λ (x : Group). grown_all x cs) same ∙ shut_all g cs shut

longest_from : (g : Group) (cs : List WaitingCall) → g.is_open ≡ true → folded g.calls ≡ Some g.effect → IsLongest (g.calls ++ cs) (grown_all g cs).calls (grown_all g cs).effect
longest_from g [] open_is folds = record { rest = []; parts = refl; folds = folds; longest = λ c more e. cc }
longest_from g (c ∷ cs) open_is folds = by (together g.effect (effect_of c.op)) refl (λ x. longest_from x cs)
  where
    opened : grown g c ≡ grown_by g c (together g.effect (effect_of c.op))
    opened = ap (λ (b : Bool). cond b (grown_by g c (together g.effect (effect_of c.op))) g) open_is

    more_folds : folded (g.calls ++ c ∷ []) ≡ together g.effect (effect_of c.op)
    more_folds = folded_push effect.Keep g.calls c ∙ ap (λ o. after_call o c) folds

    by : (o : Option Effect) → together g.effect (effect_of c.op) ≡ o
        → ((x : Group) → x.is_open ≡ true → folded x.calls ≡ Some x.effect → IsLongest (x.calls ++ cs) (grown_all x cs).calls (grown_all x cs).effect)
        → IsLongest (g.calls ++ c ∷ cs) (grown_all (grown g c) cs).calls (grown_all (grown g c) cs).effect
    by (Some e) is rec =
        let now : grown g c ≡ grown_by g c (Some e) = opened ∙ ap (grown_by g c) is in
        let got : IsLongest ((g.calls ++ c ∷ []) ++ cs) (grown_all (grown_by g c (Some e)) cs).calls (grown_all (grown_by g c (Some e)) cs).effect =
        rec (grown_by g c (Some e)) refl (more_folds ∙ is) in
        subst (λ (x : Group). IsLongest (g.calls ++ c ∷ cs) (grown_all x cs).calls (grown_all x cs).effect) (sym now)
        (subst (λ (l : List WaitingCall). IsLongest l (grown_all (grown_by g c (Some e)) cs).calls (grown_all (grown_by g c (Some e)) cs).effect) (append_assoc g.calls (c ∷ []) cs) got)
    by None is rec =
        let now : grown_all (grown g c) cs ≡ grown_by g c None =
        ap (λ (x : Group). grown_all x cs) (opened ∙ ap (grown_by g c) is) ∙ shut_all (grown_by g c None) cs refl in
        let stuck : IsLongest (g.calls ++ c ∷ cs) g.calls g.effect = record {
          rest = c ∷ cs;
          parts = refl;
          folds = folds;
          longest = λ d more e. ap (λ (l : List WaitingCall). folded (g.calls ++ take 1 l)) (sym e) ∙ more_folds ∙ is;
        } in
        subst (λ (x : Group). IsLongest (g.calls ++ c ∷ cs) x.calls x.effect) (sym now) stuck

pub longest_is : BatchesAreLongest
longest_is cs = longest_from no_group cs refl refl
