-- The passing of a scope, the end of a task, a trap and the end of all work keep a state valid.
use Rattle.std.proofs.Common.{◌≡◌, ◌≢◌, ℕ, suc, List, [], ◌∷◌, length, true, not, ◌⊎◌, inl, inr, Some, None, refl, sym, ap, ◌∙◌, subst, arith}
use Rattle.std.specs.Prelude.{if◌then◌else◌}
use Rattle.std.specs.FinMap.{get}
use Rattle.gr_syntax.specs.declared.syntax.Program.{Program}
use Rattle.gr_lang.specs.declared.action.Action.{Action}
use Rattle.gr_lang.specs.declared.action.Action.TheVariants as a
use Rattle.gr_lang.specs.declared.action.TrapKind.{TrapKind}
use Rattle.gr_lang.specs.declared.action.TrapKind.TheVariants as trap
use Rattle.gr_lang.specs.declared.action.TaskId.{TaskId}
use Rattle.gr_lang.specs.Effects.{nothing}
use Rattle.gr_lang.specs.Next.{go_on}
use Rattle.gr_lang.specs.States.{Mode, going, at_loop, ended, trapped, Task, Scope, State, is_going, is_at_loop, left}
use Rattle.gr_lang.specs.Steps.{set_task, goes_on, pass_from, arrive_step, pass_step, end_step, trap_step, over_step}
use Rattle.gr_valid.specs.Valid.{arrives, IsLoop, IsValid, IsValidTask, AreOpened}
use Rattle.gr_valid.proofs.Scopes.{holds, held_first}
use Rattle.gr_valid.proofs.Counts.{Worker, worker_left, index_left}
use Rattle.gr_valid.proofs.Changes.{LoopsAt, Closes, same_valid, set_valid}
use Rattle.gr_valid.proofs.Goes.{went, level_at, goes_valid, ends_valid, traps_valid}
use Rattle.gr_valid.proofs.Inverts.{tells_when, going_works, loop_works}

-- ---- the passing of a scope

-- What isn't finished in a scope counts as left.
not_left : (S : State) (s : ℕ) → not (left S s) ≡ true → Worker S s ⊎ LoopsAt S s → ⊥
not_left S s h (inl w) = let e : not true ≡ true = sym (ap not (worker_left S s w)) ∙ h in cc
not_left S s h (inr k) = let e : not true ≡ true = sym (ap not (index_left S s k.scope k.there k.some)) ∙ h in cc

closes : (S : State) (s : ℕ) (ss : List ℕ) → not (left S s) ≡ true → Closes S (s ∷ ss) ss
closes S s ss h r n e = by (held_first s r ss e)
  where
    by : (s ≡ r) ⊎ (holds ss r ≡ true) → holds ss r ≡ true
    by (inl k) = absurd (not_left S r (subst (λ x. not (left S x) ≡ true) k h) n)
    by (inr k) = k

-- The task has one end fewer to do than before, or it has waited at its loop.
pass_from_valid : (p : Program) (L : ℕ) (S T : State) (id : TaskId) (t : Task) → IsValid p S → get S.tasks id ≡ Some t → t.mode ≢ ended
    → suc (arrives (go_on t.running nothing).todo) ≡ length t.opened → (ss : List ℕ) → t.opened ≡ ss → pass_from p L S id t ss ≡ Some T → IsValid p T
pass_from_valid p L S T id t h at n l [] o e = cc
pass_from_valid p L S T id t h at n l (s ∷ ss) o e =
    let u : Task = record (goes_on p L t nothing) { opened = ss } in
    let k = tells_when (not (left S s)) (set_task S id u) T e in
    let all : AreOpened S.scopes id t.scope (s ∷ ss) = subst (AreOpened S.scopes id t.scope) o (h.tasks id t at).opened in
    let m : suc (arrives (go_on t.running nothing).todo) ≡ suc (length ss) = l ∙ ap length o in
    let c : Closes S t.opened ss = subst (λ xs. Closes S xs ss) (sym o) (closes S s ss k.0) in
    subst (IsValid p) k.1 (set_valid p S id t u h at refl (λ _. n) c (goes_valid p L S.scopes id t nothing ss (omega (arith, m)) all.1))

-- At its loop a task has as many ends to do before and after.
loop_level : (p : Program) (xs : List Scope) (id : TaskId) (t : Task) → IsValidTask p xs id t → t.mode ≡ at_loop → (x : Action) → t.action ≡ x → IsLoop x
    → suc (arrives (go_on t.running nothing).todo) ≡ length t.opened
loop_level p xs id t h m (a.Loop lo hi grain target args) x l =
    let k : arrives (go_on t.running nothing).todo ≡ arrives t.running.todo = went p xs id t (a.Loop lo hi grain target args) nothing h x (λ n. n) in
    omega (arith, k, level_at p xs id t at_loop h m)
loop_level p xs id t h m _ x l = absurd l

arrive_valid : (p : Program) (L : ℕ) (S T : State) (id : TaskId) (t : Task) → IsValid p S → get S.tasks id ≡ Some t → t.mode ≡ going
    → (x : Action) → t.action ≡ x → arrive_step p L S id t x ≡ Some T → IsValid p T
arrive_valid p L S T id t h at m a.Arrive x e =
    let k : suc (arrives (go_on t.running nothing).todo) ≡ arrives t.running.todo = went p S.scopes id t a.Arrive nothing (h.tasks id t at) x (λ n. n) in
    pass_from_valid p L S T id t h at (going_works t.mode m) (omega (arith, k, level_at p S.scopes id t going (h.tasks id t at) m)) t.opened refl e
arrive_valid p L S T id t h at m _ x e = cc

pass_by : (p : Program) (L : ℕ) (S T : State) (id : TaskId) (t : Task) → IsValid p S → get S.tasks id ≡ Some t
    → (m : Mode) → t.mode ≡ m → (if is_at_loop m then pass_from p L S id t t.opened else (if is_going m then arrive_step p L S id t t.action else None)) ≡ Some T → IsValid p T
pass_by p L S T id t h at at_loop m e =
    let v : IsValidTask p S.scopes id t = h.tasks id t at in
    pass_from_valid p L S T id t h at (loop_works t.mode m) (loop_level p S.scopes id t v m t.action refl (v.loops m)) t.opened refl e
pass_by p L S T id t h at going m e = arrive_valid p L S T id t h at m t.action refl e
pass_by p L S T id t h at _ m e = cc

pub pass_valid : (p : Program) (L : ℕ) (S T : State) (id : TaskId) (t : Task) → IsValid p S → get S.tasks id ≡ Some t → pass_step p L S id t ≡ Some T → IsValid p T
pass_valid p L S T id t h at e = pass_by p L S T id t h at t.mode refl e

-- ---- ends

-- A task in another mode, with all its scopes.
ends_by : (p : Program) (S T : State) (id : TaskId) (t : Task) (mode : Mode) → IsValid p S → get S.tasks id ≡ Some t → t.mode ≡ going
    → IsValidTask p S.scopes id (record t { mode = mode }) → set_task S id (record t { mode = mode }) ≡ T → IsValid p T
ends_by p S T id t mode h at m v e = subst (IsValid p) e (set_valid p S id t (record t { mode = mode }) h at refl (λ _. going_works t.mode m) (λ r n k. k) v)

pub end_valid : (p : Program) (S T : State) (id : TaskId) (t : Task) → IsValid p S → get S.tasks id ≡ Some t → t.mode ≡ going
    → (x : Action) → t.action ≡ x → end_step S id t x ≡ Some T → IsValid p T
end_valid p S T id t h at m a.End x e =
    let same : set_task S id (record t { mode = ended }) ≡ T = cc in
    ends_by p S T id t ended h at m (ends_valid p S.scopes id t (h.tasks id t at) m x) same
end_valid p S T id t h at m _ x e = cc

trap_by : (p : Program) (S T : State) (id : TaskId) (t : Task) → IsValid p S → get S.tasks id ≡ Some t → t.mode ≡ going → set_task S id (record t { mode = trapped }) ≡ T → IsValid p T
trap_by p S T id t h at m e = ends_by p S T id t trapped h at m (traps_valid p S.scopes id t (h.tasks id t at) m) e

pub trap_valid : (p : Program) (N : ℕ) (S T : State) (id : TaskId) (t : Task) → IsValid p S → get S.tasks id ≡ Some t → t.mode ≡ going
    → (x : Action) (kind : TrapKind) → trap_step N S id t x kind ≡ Some T → IsValid p T
trap_valid p N S T id t h at m (a.Trap kind) kind2 e = trap_by p S T id t h at m (tells_when _ _ T e).1
trap_valid p N S T id t h at m (a.Spawn way target args) trap.Core e = trap_by p S T id t h at m (tells_when _ _ T e).1
trap_valid p N S T id t h at m _ kind e = cc

pub over_valid : (p : Program) (S T : State) → IsValid p S → over_step S ≡ Some T → IsValid p T
over_valid p S T h e = subst (IsValid p) (tells_when _ _ T e).1 (same_valid p S (record S { passed = true }) refl refl h)
