-- What lasts in a step: each scope but the root has an owner and an older parent, a trapped task stays trapped, and but at the end of all work the root stays as it is.
use Rattle.std.proofs.Common.{◌≡◌, ◌≢◌, ℕ, ◌<◌, List, [], ◌∷◌, ◌++◌, length, slice_get, slice_set, Bool, true, false, not, ◌==◌, ◌&&◌, ◌⊎◌, inl, inr, Option, Some, None, is_some, refl, sym, ap, ◌∙◌, subst}
use Rattle.std.specs.Prelude.{if◌then◌else◌, nat_le, nat_lt}
use Rattle.std.specs.Str.{bytes_eq}
use Rattle.std.specs.FinMap.{FinMap, get, insert}
use Rattle.std.specs.FinSet as set
use Rattle.std.specs.Ordering.{eq_by_cmp}
use Rattle.std.proofs.lemmas.Option.{slice_get_within}
use Rattle.gr_syntax.specs.declared.syntax.Program.{Program}
use Rattle.gr_lang.specs.declared.action.Action.{Action}
use Rattle.gr_lang.specs.declared.action.Action.TheVariants as a
use Rattle.gr_lang.specs.declared.action.Entry.{Entry}
use Rattle.gr_lang.specs.declared.action.Entry.TheVariants as e
use Rattle.gr_lang.specs.declared.action.How.{How}
use Rattle.gr_lang.specs.declared.action.Op.{Op}
use Rattle.gr_lang.specs.declared.action.Reply.{Reply}
use Rattle.gr_lang.specs.declared.action.TaskId.{TaskId}
use Rattle.gr_lang.specs.declared.action.TrapKind.{TrapKind}
use Rattle.gr_lang.specs.declared.action.TrapKind.TheVariants as trap
use Rattle.gr_lang.specs.Effects.{nothing}
use Rattle.gr_lang.specs.States.{Mode, going, at_loop, ended, trapped, Task, Range, Scope, State, id_cmp, child, innermost, is_going, is_at_loop, left}
use Rattle.gr_lang.specs.Steps.{set_task, goes_on, new_scope, open_scope, has_core, is_new as new_id, called, call_step, spawn_step, finish_step, loop_step, begin_in, begin_at, begin_step, pass_from, arrive_step, pass_step, end_step, trap_step, over_step, if_going, of_task, step}
use Rattle.gr_lang.specs.Fields.{same_how}
use Rattle.gr_valid.specs.Valid.{IsValid, IsOpen}
use Rattle.gr_valid.proofs.Calls.{innermost_held, new_after}
use Rattle.gr_valid.proofs.Counts.{and_both}
use Rattle.gr_valid.proofs.Inverts.{by_found, by_going, by_loop, tells_when, is_new}
use Rattle.gr_valid.proofs.Maps.{id_split, get_other, found_still}
use Rattle.gr_valid.proofs.Scopes.{IsOneOf, one_of, number_split, found_append, get_set, get_unset}

-- ---- scopes

-- The root, or a scope with an owner and an older parent.
abbrev pub IsRooted : ℕ → Scope → Type 0
IsRooted r x = (r ≡ 0) ⊎ ((is_some x.owner ≡ true) × (x.parent < r))

abbrev pub Rooted : List Scope → Type 0
Rooted xs = (r : ℕ) (x : Scope) → slice_get xs r ≡ Some x → IsRooted r x

rooted_append : (xs : List Scope) (t : Task) (id : TaskId) (range : Option Range) → innermost t < length xs → Rooted xs → Rooted (xs ++ new_scope t id range ∷ [])
rooted_append xs t id range l h r x at = by (found_append xs (new_scope t id range) r x at)
  where
    by : ((r ≡ length xs) × (new_scope t id range ≡ x)) ⊎ (slice_get xs r ≡ Some x) → IsRooted r x
    by (inl k) = subst (λ y. IsRooted r y) k.1 (inr (refl, subst (λ n. innermost t < n) (sym k.0) l))
    by (inr k) = h r x k

rooted_set : (xs : List Scope) (k : ℕ) (x y : Scope) → slice_get xs k ≡ Some x → y.owner ≡ x.owner → y.parent ≡ x.parent → Rooted xs → Rooted (slice_set xs k y)
rooted_set xs k x y at o q h r z e = by (number_split r k)
  where
    moved : IsRooted k x → IsRooted k y
    moved (inl n) = inl n
    moved (inr n) = inr (ap is_some o ∙ n.0, subst (λ m. m < k) (sym q) n.1)

    by : (r ≡ k) ⊎ (r ≢ k) → IsRooted r z
    by (inl s) =
        let both : Some y ≡ Some z = sym (get_set xs k x y at) ∙ ap (slice_get (slice_set xs k y)) (sym s) ∙ e in
        let same : y ≡ z = cc in
        subst (λ m. IsRooted m z) (sym s) (subst (IsRooted k) same (moved (h k x at)))
    by (inr n) = h r z (sym (get_unset xs k r y n) ∙ e)

-- A scope that is the root or open is there.
there : (p : Program) (S : State) (s : ℕ) → IsValid p S → (s ≡ 0) ⊎ IsOpen S s → s < length S.scopes
there p S s h (inl z) = subst (λ n. n < length S.scopes) (sym z) (slice_get_within S.scopes 0 _ h.root)
there p S s h (inr o) =
    let one : IsOneOf S.scopes o.id o.task.scope o.task.opened s = one_of S.scopes o.id o.task.scope o.task.opened s (h.tasks o.id o.task o.there).opened o.opened in
    slice_get_within S.scopes s one.opened.scope one.opened.there

-- ---- trapped tasks

abbrev pub Stays : FinMap id_cmp Task → FinMap id_cmp Task → Type 0
Stays m n = (q : TaskId) (v : Task) → get m q ≡ Some v → v.mode ≡ trapped → get n q ≡ Some v

stays_set : (m : FinMap id_cmp Task) (id : TaskId) (t u : Task) → get m id ≡ Some t → t.mode ≢ trapped → Stays m (insert m id u)
stays_set m id t u at n q v e k = by (id_split q id)
  where
    by : (q ≡ id) ⊎ (eq_by_cmp id_cmp q id ≡ false) → get (insert m id u) q ≡ Some v
    by (inl s) =
        let both : Some t ≡ Some v = sym at ∙ ap (get m) (sym s) ∙ e in
        let same : t ≡ v = cc in
        absurd (n (ap (λ (x : Task). x.mode) same ∙ k))
    by (inr s) = get_other m id q u s ∙ e

stays_new : (m : FinMap id_cmp Task) (id : TaskId) (u : Task) → get m id ≡ None → Stays m (insert m id u)
stays_new m id u new q v e k = found_still m id q u v new e

stays_twice : (m n o : FinMap id_cmp Task) → Stays m n → Stays n o → Stays m o
stays_twice m n o f g q v e k = g q v (f q v e k) k

-- ---- what lasts

pub record Lasts (S T : State) : Type 0 where
  pub rooted : Rooted S.scopes → Rooted T.scopes
  pub stays : Stays S.tasks T.tasks
  pub passed : T.passed ≡ S.passed

-- All work ends.
pub record AllEnds (S T : State) : Type 0 where
  pub unpassed : S.passed ≡ false
  pub none : left S 0 ≡ false
  pub after : record S { passed = true } ≡ T

going_on : (m : Mode) → m ≡ going → m ≢ trapped
going_on m e k = cc

looping : (m : Mode) → m ≡ at_loop → m ≢ trapped
looping m e k = cc

sets : (S : State) (id : TaskId) (t u : Task) → get S.tasks id ≡ Some t → t.mode ≢ trapped → Lasts S (set_task S id u)
sets S id t u at n = record { rooted = λ h. h; stays = stays_set S.tasks id t u at n; passed = refl }

opens : (p : Program) (S : State) (id : TaskId) (t u : Task) (range : Option Range) → IsValid p S → get S.tasks id ≡ Some t → t.mode ≡ going → Lasts S (open_scope S id t u range)
opens p S id t u range h at m = record {
  rooted = rooted_append S.scopes t id range (there p S (innermost t) h (innermost_held p S id t h at (λ k. cc)));
  stays = stays_set S.tasks id t (record u { opened = length S.scopes ∷ t.opened }) at (going_on t.mode m);
  passed = refl;
}

call_lasts : (p : Program) (L : ℕ) (S T : State) (id : TaskId) (t : Task) (op : Op) (w : Reply) → get S.tasks id ≡ Some t → t.mode ≡ going
    → (x : Action) → call_step p L S id t x op w ≡ Some T → Lasts S T
call_lasts p L S T id t op w at m (a.Call due) x =
    let k = tells_when _ (called p L S id t op w) T x in
    let l : Lasts S (set_task S id (goes_on p L t w)) = sets S id t (goes_on p L t w) at (going_on t.mode m) in
    subst (Lasts S) k.1 (record { rooted = l.rooted; stays = l.stays; passed = l.passed })
call_lasts p L S T id t op w at m _ x = cc

spawn_lasts : (p : Program) (N L : ℕ) (S T : State) (id : TaskId) (t : Task) (way : How) (target : ℕ) (args : List ℕ) (kid : TaskId) → get S.tasks id ≡ Some t → t.mode ≡ going
    → (x : Action) → spawn_step p N L S id t x way target args kid ≡ Some T → Lasts S T
spawn_lasts p N L S T id t way2 target2 args2 kid at m (a.Spawn way target args) x =
    let u : Task = goes_on p L t nothing in
    let new : Task = child p L (innermost t) target args in
    let k = tells_when _ (set_task (set_task S id u) kid new) T x in
    let none : get S.tasks kid ≡ None = is_new (get S.tasks kid) (and_both (same_how way way2 && (target == target2) && bytes_eq args args2 && has_core N way) (new_id S kid) k.0).1 in
    let l : Lasts S (set_task S id u) = sets S id t u at (going_on t.mode m) in
    let both = stays_twice S.tasks (insert S.tasks id u) (insert (insert S.tasks id u) kid new) l.stays (stays_new (insert S.tasks id u) kid new (new_after S id kid t u at none)) in
    subst (Lasts S) k.1 (record { rooted = l.rooted; stays = both; passed = refl })
spawn_lasts p N L S T id t way target args kid at m _ x = cc

finish_lasts : (p : Program) (L : ℕ) (S T : State) (id : TaskId) (t : Task) → IsValid p S → get S.tasks id ≡ Some t → t.mode ≡ going
    → (x : Action) → finish_step p L S id t x ≡ Some T → Lasts S T
finish_lasts p L S T id t h at m a.Finish x =
    let same : open_scope S id t (goes_on p L t nothing) None ≡ T = cc in
    subst (Lasts S) same (opens p S id t (goes_on p L t nothing) None h at m)
finish_lasts p L S T id t h at m _ x = cc

loop_lasts : (p : Program) (S T : State) (id : TaskId) (t : Task) (lo hi grain target : ℕ) (args : List ℕ) → IsValid p S → get S.tasks id ≡ Some t → t.mode ≡ going
    → (x : Action) → loop_step S id t x lo hi grain target args ≡ Some T → Lasts S T
loop_lasts p S T id t lo2 hi2 grain2 target2 args2 h at m (a.Loop lo hi grain target args) x =
    let range : Option Range = Some (record { lo = lo; hi = hi; target = target; args = args; begun = set.empty }) in
    subst (Lasts S) (tells_when _ (open_scope S id t (record t { mode = at_loop }) range) T x).1 (opens p S id t (record t { mode = at_loop }) range h at m)
loop_lasts p S T id t lo hi grain target args h at m _ x = cc

begin_in_lasts : (p : Program) (L : ℕ) (S T : State) (owner : TaskId) (s index : ℕ) (kid : TaskId) (scope : Scope) → slice_get S.scopes s ≡ Some scope
    → (range : Option Range) → begin_in p L S owner s index kid scope range ≡ Some T → Lasts S T
begin_in_lasts p L S T owner s index kid scope at None x = cc
begin_in_lasts p L S T owner s index kid scope at (Some r) x =
    let y : Scope = record scope { range = Some (record r { begun = set.insert r.begun index }) } in
    let new : Task = child p L s r.target (index ∷ r.args) in
    let k = tells_when _ (record (set_task S kid new) { scopes = slice_set S.scopes s y }) T x in
    let none : get S.tasks kid ≡ None = is_new (get S.tasks kid) (and_both (nat_le r.lo index && nat_lt index r.hi && not (set.contains r.begun index)) (new_id S kid) k.0).1 in
    subst (Lasts S) k.1 (record { rooted = rooted_set S.scopes s scope y at refl refl; stays = stays_new S.tasks kid new none; passed = refl })

begin_at_lasts : (p : Program) (L : ℕ) (S T : State) (owner : TaskId) (index : ℕ) (kid : TaskId) (ss : List ℕ) → begin_at p L S owner index kid ss ≡ Some T → Lasts S T
begin_at_lasts p L S T owner index kid [] x = cc
begin_at_lasts p L S T owner index kid (s ∷ ss) x =
    let f = by_found (slice_get S.scopes s) (λ scope. begin_in p L S owner s index kid scope scope.range) T x in
    begin_in_lasts p L S T owner s index kid f.0 f.1 f.0.range f.2

pass_from_lasts : (p : Program) (L : ℕ) (S T : State) (id : TaskId) (t : Task) → get S.tasks id ≡ Some t → t.mode ≢ trapped → (ss : List ℕ) → pass_from p L S id t ss ≡ Some T → Lasts S T
pass_from_lasts p L S T id t at n [] x = cc
pass_from_lasts p L S T id t at n (s ∷ ss) x =
    let u : Task = record (goes_on p L t nothing) { opened = ss } in
    subst (Lasts S) (tells_when (not (left S s)) (set_task S id u) T x).1 (sets S id t u at n)

arrive_lasts : (p : Program) (L : ℕ) (S T : State) (id : TaskId) (t : Task) → get S.tasks id ≡ Some t → t.mode ≡ going → (x : Action) → arrive_step p L S id t x ≡ Some T → Lasts S T
arrive_lasts p L S T id t at m a.Arrive x = pass_from_lasts p L S T id t at (going_on t.mode m) t.opened x
arrive_lasts p L S T id t at m _ x = cc

pass_lasts : (p : Program) (L : ℕ) (S T : State) (id : TaskId) (t : Task) → get S.tasks id ≡ Some t
    → (m : Mode) → t.mode ≡ m → (if is_at_loop m then pass_from p L S id t t.opened else (if is_going m then arrive_step p L S id t t.action else None)) ≡ Some T → Lasts S T
pass_lasts p L S T id t at at_loop m x = pass_from_lasts p L S T id t at (looping t.mode m) t.opened x
pass_lasts p L S T id t at going m x = arrive_lasts p L S T id t at m t.action x
pass_lasts p L S T id t at _ m x = cc

end_lasts : (S T : State) (id : TaskId) (t : Task) → get S.tasks id ≡ Some t → t.mode ≡ going → (x : Action) → end_step S id t x ≡ Some T → Lasts S T
end_lasts S T id t at m a.End x = let same : set_task S id (record t { mode = ended }) ≡ T = cc in subst (Lasts S) same (sets S id t (record t { mode = ended }) at (going_on t.mode m))
end_lasts S T id t at m _ x = cc

-- After a trap the task is trapped.
pub record Traps (S T : State) (id : TaskId) (t : Task) : Type 0 where
  pub after : set_task S id (record t { mode = trapped }) ≡ T

pub traps : (N : ℕ) (S T : State) (id : TaskId) (t : Task) (x : Action) (kind : TrapKind) → trap_step N S id t x kind ≡ Some T → Traps S T id t
traps N S T id t (a.Trap kind) kind2 x = record { after = (tells_when _ _ T x).1 }
traps N S T id t (a.Spawn way target args) trap.Core x = record { after = (tells_when _ _ T x).1 }
traps N S T id t _ kind x = cc

by_task : (S T : State) (id : TaskId) (f : Task → Option State) → ((t : Task) → get S.tasks id ≡ Some t → t.mode ≡ going → f t ≡ Some T → Lasts S T)
    → of_task S id (if_going f) ≡ Some T → Lasts S T
by_task S T id f h x =
    let k = by_found (get S.tasks id) (if_going f) T x in
    let m = by_going k.0.mode (f k.0) T k.2 in
    h k.0 k.1 m.0 m.1

over_ends : (S T : State) → over_step S ≡ Some T → AllEnds S T
over_ends S T x =
    let k = tells_when (not S.passed && not (left S 0)) (record S { passed = true }) T x in
    let b = and_both (not S.passed) (not (left S 0)) k.0 in
    record { unpassed = opposite S.passed b.0; none = opposite (left S 0) b.1; after = k.1 }
  where
    opposite : (b : Bool) → not b ≡ true → b ≡ false
    opposite true h = cc
    opposite false h = refl

pub step_lasts : (p : Program) (N L : ℕ) (S T : State) (x : Entry) → IsValid p S → step p N L S x ≡ Some T → Lasts S T ⊎ AllEnds S T
step_lasts p N L S T (e.Call id op w) h x = inl (by_task S T id (λ t. call_step p L S id t t.action op w) (λ t at m k. call_lasts p L S T id t op w at m t.action k) x)
step_lasts p N L S T (e.Spawn id way target args kid) h x =
    inl (by_task S T id (λ t. spawn_step p N L S id t t.action way target args kid) (λ t at m k. spawn_lasts p N L S T id t way target args kid at m t.action k) x)
step_lasts p N L S T (e.Finish id) h x = inl (by_task S T id (λ t. finish_step p L S id t t.action) (λ t at m k. finish_lasts p L S T id t h at m t.action k) x)
step_lasts p N L S T (e.Loop id lo hi grain target args) h x =
    inl (by_task S T id (λ t. loop_step S id t t.action lo hi grain target args) (λ t at m k. loop_lasts p S T id t lo hi grain target args h at m t.action k) x)
step_lasts p N L S T (e.Begin owner index kid) h x =
    let k = by_found (get S.tasks owner) (λ t. begin_step p L S owner t index kid) T x in inl (begin_at_lasts p L S T owner index kid k.0.opened (by_loop k.0.mode _ T k.2).1)
step_lasts p N L S T (e.Pass id) h x = let k = by_found (get S.tasks id) (λ t. pass_step p L S id t) T x in inl (pass_lasts p L S T id k.0 k.1 k.0.mode refl k.2)
step_lasts p N L S T (e.End id) h x = inl (by_task S T id (λ t. end_step S id t t.action) (λ t at m k. end_lasts S T id t at m t.action k) x)
step_lasts p N L S T (e.Trap id kind) h x =
    inl (by_task S T id (λ t. trap_step N S id t t.action kind) (λ t at m k. subst (Lasts S) (traps N S T id t t.action kind k).after (sets S id t (record t { mode = trapped }) at (going_on t.mode m))) x)
step_lasts p N L S T e.Over h x = inr (over_ends S T x)
