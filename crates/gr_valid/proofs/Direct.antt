-- The work that is left under a scope which waits to be passed stands in the scope itself.
use Rattle.std.proofs.Common.{◌≡◌, ◌≢◌, ℕ, zero, suc, ◌+◌, ◌<◌, ◌==◌, List, [], ◌∷◌, slice_get, true, false, ◌&&◌, ◌||◌, ◌⊎◌, inl, inr, Option, Some, None, is_some, refl, sym, ap, ◌∙◌, subst, arith}
use Rattle.std.specs.Option.{option_map_or}
use Rattle.std.proofs.lemmas.Bool.{eqb-true}
use Rattle.std.specs.FinMap as fin
use Rattle.gr_syntax.specs.declared.syntax.Program.{Program}
use Rattle.gr_lang.specs.declared.action.TaskId.{TaskId}
use Rattle.gr_lang.specs.States.{ended, Task, Scope, State, root, innermost_of, is_under, is_in, range_left, left}
use Rattle.gr_valid.specs.Valid.{IsValid, IsValidTask, IsOpen, IsOpened, AreOpened}
use Rattle.gr_valid.specs.Work.{WorkIsDirect, CanBePassed, has_task, has_index}
use Rattle.gr_valid.proofs.Scopes.{holds, number_split, held_first, holds_first, below_is_less, IsOneOf, one_of}
use Rattle.gr_valid.proofs.Counts.{and_both, or_one, or_first, or_second, same_truth, Worker, worker_has, has_worker, TaskIn, RangeIn, worker_left, index_left, left_is}

-- ---- the scopes above one

under_up : (d : ℕ) (scopes : List Scope) (s r : ℕ) (x : Scope) → r ≢ s → slice_get scopes r ≡ Some x → is_under (suc d) scopes s r ≡ true
    → (is_some x.owner ≡ true) × (is_under d scopes s x.parent ≡ true)
under_up d scopes s r x n h u = by (or_one (r == s) _ u)
  where
    by : ((r == s) ≡ true) ⊎ (option_map_or (λ x. is_some x.owner && is_under d scopes s x.parent) (slice_get scopes r) false ≡ true)
        → (is_some x.owner ≡ true) × (is_under d scopes s x.parent ≡ true)
    by (inl e) = absurd (n (eqb-true r s e))
    by (inr e) = and_both _ _ (ap (λ o. option_map_or (λ x. is_some x.owner && is_under d scopes s x.parent) o false) (sym h) ∙ e)

-- The root is under nothing but itself.
root_alone : (d : ℕ) (scopes : List Scope) (s : ℕ) → slice_get scopes 0 ≡ Some root → 0 ≢ s → is_under d scopes s 0 ≡ true → ⊥
root_alone zero scopes s h n u = n (eqb-true 0 s u)
root_alone (suc d) scopes s h n u = let k = under_up d scopes s 0 root n h u in let no_owner : false ≡ true = k.0 in cc

-- ---- nothing stands over a scope that waits to be passed

same_scope : (scopes : List Scope) (r : ℕ) (x y : Scope) → slice_get scopes r ≡ Some x → slice_get scopes r ≡ Some y → x ≡ y
same_scope scopes r x y h k = let e : Some x ≡ Some y = sym h ∙ k in cc

-- No task has opened the root.
pub root_unowned : (S : State) (id : TaskId) (x : Scope) → slice_get S.scopes 0 ≡ Some root → slice_get S.scopes 0 ≡ Some x → x.owner ≡ Some id → ⊥
root_unowned S id x h k o = let e : None ≡ Some id = ap (λ (z : Scope). z.owner) (same_scope S.scopes 0 root x h k) ∙ o in cc

same_task : (S : State) (i j : TaskId) (t u : Task) → i ≡ j → fin.get S.tasks i ≡ Some t → fin.get S.tasks j ≡ Some u → t ≡ u
same_task S i j t u e h k = let q : Some t ≡ Some u = sym h ∙ ap (fin.get S.tasks) e ∙ k in cc

newest : (s r : ℕ) (below : List ℕ) → ((q : ℕ) → holds below q ≡ true → q < s) → s < r → (s ≡ r) ⊎ (holds below r ≡ true) → ⊥
newest s r below h k (inl e) = absurd (omega arith)
newest s r below h k (inr e) = let l : r < s = h r e in absurd (omega arith)

-- The innermost scope of a task has no other over it.
none_over : (p : Program) (S : State) (s r : ℕ) (h : IsValid p S) (o : IsOpen S r) → CanBePassed S s
    → (x : Scope) → slice_get S.scopes s ≡ Some x → x.owner ≡ Some o.id → s < r → ⊥
none_over p S s r h o (inl z) x at own l = root_unowned S o.id x h.root (ap (slice_get S.scopes) (sym z) ∙ at) own
none_over p S s r h o (inr i) x at own l =
    let v : IsValidTask p S.scopes i.id i.task = h.tasks i.id i.task i.there in
    let all : AreOpened S.scopes i.id i.task.scope (s ∷ i.below) = subst (AreOpened S.scopes i.id i.task.scope) i.opened v.opened in
    let same : all.0.scope ≡ x = same_scope S.scopes s all.0.scope x all.0.there at in
    let ids : Some i.id ≡ Some o.id = sym all.0.owner ∙ ap (λ (z : Scope). z.owner) same ∙ own in
    let id : i.id ≡ o.id = cc in
    let task : i.task ≡ o.task = same_task S i.id o.id i.task o.task id i.there o.there in
    let list : o.task.opened ≡ s ∷ i.below = ap (λ (t : Task). t.opened) (sym task) ∙ i.opened in
    let among : holds (s ∷ i.below) r ≡ true = subst (λ ss. holds ss r ≡ true) list o.opened in
    newest s r i.below (λ q k. below_is_less s i.below q all.0.newer k) l (held_first s r i.below among)

-- ---- up to the scope

not_over : (o : List ℕ) (r : ℕ) → o ≡ [] → holds o r ≡ true → ⊥
not_over o r e h = let k : false ≡ true = sym (ap (λ ss. holds ss r) e) ∙ h in cc

-- From an open scope r that stands under s one goes up: below r the owner stands in s itself, or in an open scope under s.
climb_from : (p : Program) (S : State) (s r d : ℕ) (h : IsValid p S) (c : CanBePassed S s) (o : IsOpen S r) (below : List ℕ) → IsOpened S.scopes o.id o.task.scope r below
    → ((q : ℕ) → holds below q ≡ true → holds o.task.opened q ≡ true) → is_under d S.scopes s (innermost_of o.task.scope below) ≡ true
    → ((q : ℕ) → q ≢ s → IsOpen S q → is_under d S.scopes s q ≡ true → Worker S s) → Worker S s
climb_from p S s r d h c o [] at inside u up = by (number_split o.task.scope s)
  where
    works : o.task.mode ≢ ended
    works e = not_over o.task.opened r ((h.tasks o.id o.task o.there).over e) o.opened

    further : o.task.scope ≢ s → (o.task.scope ≡ 0) ⊎ IsOpen S o.task.scope → Worker S s
    further n (inl z) = absurd (root_alone d S.scopes s h.root (λ e. n (z ∙ e)) (ap (is_under d S.scopes s) (sym z) ∙ u))
    further n (inr open_one) = up o.task.scope n open_one u

    by : (o.task.scope ≡ s) ⊎ (o.task.scope ≢ s) → Worker S s
    by (inl e) = record { id = o.id; task = o.task; there = o.there; works = works; scope = e }
    by (inr n) = further n (h.held o.id o.task o.there works)
climb_from p S s r d h c o (q ∷ rest) at inside u up = by (number_split q s)
  where
    among : holds o.task.opened q ≡ true
    among = inside q (holds_first q rest)

    over : q ≡ s → ⊥
    over e =
        let one : IsOneOf S.scopes o.id o.task.scope o.task.opened q = one_of S.scopes o.id o.task.scope o.task.opened q (h.tasks o.id o.task o.there).opened among in
        let l : q < r = below_is_less r (q ∷ rest) q at.newer (holds_first q rest) in
        none_over p S s r h o c one.opened.scope (ap (slice_get S.scopes) (sym e) ∙ one.opened.there) one.opened.owner (subst (λ x. x < r) e l)

    by : (q ≡ s) ⊎ (q ≢ s) → Worker S s
    by (inl e) = absurd (over e)
    by (inr n) = up q n (record { id = o.id; task = o.task; there = o.there; opened = among }) u

climb : (p : Program) (S : State) (s : ℕ) → IsValid p S → CanBePassed S s → (d r : ℕ) → r ≢ s → IsOpen S r → is_under d S.scopes s r ≡ true → Worker S s
climb p S s h c zero r n o u = absurd (n (eqb-true r s u))
climb p S s h c (suc d) r n o u =
    let one : IsOneOf S.scopes o.id o.task.scope o.task.opened r = one_of S.scopes o.id o.task.scope o.task.opened r (h.tasks o.id o.task o.there).opened o.opened in
    let k : (is_some one.opened.scope.owner ≡ true) × (is_under d S.scopes s one.opened.scope.parent ≡ true) = under_up d S.scopes s r one.opened.scope n one.opened.there u in
    climb_from p S s r d h c o one.below one.opened one.inside (ap (is_under d S.scopes s) (sym one.opened.parent) ∙ k.1) (λ q n o u. climb p S s h c d q n o u)

-- ---- the law

task_direct : (p : Program) (S : State) (s : ℕ) → IsValid p S → CanBePassed S s → TaskIn S s → Worker S s
task_direct p S s h c t = by (number_split t.task.scope s)
  where
    further : t.task.scope ≢ s → (t.task.scope ≡ 0) ⊎ IsOpen S t.task.scope → Worker S s
    further n (inl z) = absurd (root_alone _ S.scopes s h.root (λ e. n (z ∙ e)) (ap (is_in S s) (sym z) ∙ t.under))
    further n (inr o) = climb p S s h c _ t.task.scope n o t.under

    by : (t.task.scope ≡ s) ⊎ (t.task.scope ≢ s) → Worker S s
    by (inl e) = record { id = t.id; task = t.task; there = t.there; works = t.works; scope = e }
    by (inr n) = further n (h.held t.id t.task t.there t.works)

index_at : (S : State) (s : ℕ) (x : Scope) → slice_get S.scopes s ≡ Some x → range_left x.range ≡ true → has_index S s ≡ true
index_at S s x h r = ap (λ o. option_map_or (λ x. range_left x.range) o false) h ∙ r

at_index : (o : Option Scope) → option_map_or (λ x. range_left x.range) o false ≡ true → (x : Scope) × (o ≡ Some x) × (range_left x.range ≡ true)
at_index None h = cc
at_index (Some x) h = (x, refl, h)

range_direct : (p : Program) (S : State) (s : ℕ) → IsValid p S → CanBePassed S s → RangeIn S s 0 S.scopes → (has_task S s || has_index S s) ≡ true
range_direct p S s h c k = by (number_split k.at s)
  where
    zero_add : (n : ℕ) → n ≡ 0 + n
    zero_add n = omega arith

    by : (k.at ≡ s) ⊎ (k.at ≢ s) → (has_task S s || has_index S s) ≡ true
    by (inl e) = or_second (has_task S s) _ (index_at S s k.scope (ap (slice_get S.scopes) (sym e) ∙ k.there) k.some)
    by (inr n) = or_first _ _ (worker_has S s (climb p S s h c _ k.at n (h.ranges k.at k.scope k.there k.some) (ap (is_in S s) (zero_add k.at) ∙ k.under)))

left_direct : (p : Program) (S : State) (s : ℕ) → IsValid p S → CanBePassed S s → TaskIn S s ⊎ RangeIn S s 0 S.scopes → (has_task S s || has_index S s) ≡ true
left_direct p S s h c (inl t) = or_first _ _ (worker_has S s (task_direct p S s h c t))
left_direct p S s h c (inr k) = range_direct p S s h c k

direct_left : (S : State) (s : ℕ) → (has_task S s ≡ true) ⊎ (has_index S s ≡ true) → left S s ≡ true
direct_left S s (inl e) = worker_left S s (has_worker S s e)
direct_left S s (inr e) = let k = at_index (slice_get S.scopes s) e in index_left S s k.0 k.1 k.2

pub work_direct : WorkIsDirect
work_direct p S s h c = same_truth _ _ (λ e. left_direct p S s h c (left_is S s e)) (λ e. direct_left S s (or_one _ _ e))
