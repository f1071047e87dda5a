-- Loops where one task is another one, and what an entry that was allowed has found.
use Rattle.std.proofs.Common.{◌≡◌, ℕ, zero, suc, ◌<◌, if◌then◌else◌, Bool, true, false, List, [], ◌∷◌, ◌++◌, length, slice_get, inl, inr, sym, ◌∙◌, ap, refl, arith, Option, Some, None}
use Rattle.std.specs.Option.{option_and_then}
use Rattle.std.specs.FinMap as fin
use Rattle.gr_lang.specs.declared.action.TaskId.{TaskId}
use Rattle.gr_lang.specs.States.{Mode, going, at_loop, ended, trapped, Task, Scope, State, is_going, is_at_loop}
use Rattle.gr_lang.specs.Steps.{when, of_task, if_going}
use Rattle.gr_machine.specs.Slots.{same_id}
use Rattle.gr_stands.proofs.Places.{cases_id, same_id_self, get_same, get_other}
use Rattle.gr_shares.specs.Loops.{Loop, Loops, loop_of, loop_in, waits_at, loops_of}
use Rattle.gr_shares_loops.specs.Changes.{put_loop}

-- ---- what was found

pub some_same : {X : Type 0} (a b : X) → Some a ≡ Some b → a ≡ b
some_same a b e = cc

pub none_some : {X : Type 0} (a : X) → None ≡ Some a → ⊥
none_some a e = cc

pub record Found {A B : Type 0} (f : A → Option B) (o : Option A) (y : B) : Type 0 where
  pub one : A
  pub there : o ≡ Some one
  pub made : f one ≡ Some y

pub found : {A B : Type 0} (f : A → Option B) (o : Option A) (y : B) → option_and_then f o ≡ Some y → Found f o y
found f None y e = absurd (none_some y e)
found f (Some x) y e = record { one = x; there = refl; made = e }

pub if_holds : {X : Type 0} (b : Bool) (o : Option X) (x : X) → (if b then o else None) ≡ Some x → (b ≡ true) × (o ≡ Some x)
if_holds true o x e = (refl, e)
if_holds false o x e = absurd (none_some x e)

pub when_holds : (b : Bool) (s t : State) → when b s ≡ Some t → (b ≡ true) × (s ≡ t)
when_holds true s t e = (refl, some_same s t e)
when_holds false s t e = absurd (none_some t e)

-- A task of the state that is going.
pub record Goes (S : State) (id : TaskId) (f : Task → Option State) (T : State) : Type 0 where
  pub task : Task
  pub there : fin.get S.tasks id ≡ Some task
  pub goes : is_going task.mode ≡ true
  pub made : f task ≡ Some T

pub goes_in : (S : State) (id : TaskId) (f : Task → Option State) (T : State) → of_task S id (if_going f) ≡ Some T → Goes S id f T
goes_in S id f T e =
    let r = found (if_going f) (fin.get S.tasks id) T e in
    let q = if_holds (is_going r.one.mode) (f r.one) T r.made in
    record { task = r.one; there = r.there; goes = q.0; made = q.1 }

pub no_loop_yet : (scopes : List Scope) (task : Task) → is_going task.mode ≡ true → waits_at scopes task ≡ None
no_loop_yet scopes task e = ap (λ (b : Bool). if b then loop_in scopes task.opened else None) (not_there task.mode e)
  where
    not_there : (m : Mode) → is_going m ≡ true → is_at_loop m ≡ false
    not_there going e = refl
    not_there at_loop e = absurd (cc)
    not_there ended e = absurd (cc)
    not_there trapped e = absurd (cc)

-- ---- loops

pub put_loop_at : (L : Loops) (id : TaskId) (o : Option Loop) → put_loop L id o id ≡ o
unfolding put_loop
put_loop_at L id o = ap (λ (b : Bool). if b then o else L id) (same_id_self id)

pub put_loop_other : (L : Loops) (id : TaskId) (o : Option Loop) (q : TaskId) → same_id q id ≡ false → put_loop L id o q ≡ L q
unfolding put_loop
put_loop_other L id o q e = ap (λ (b : Bool). if b then o else L q) e

pub put_loop_same : (L : Loops) (id : TaskId) (o : Option Loop) → L id ≡ o → (q : TaskId) → put_loop L id o q ≡ L q
put_loop_same L id o e q = elim (cases_id q id) [
  | inl p ↦ ap (put_loop L id o) p ∙ put_loop_at L id o ∙ sym e ∙ ap L (sym p)
  | inr p ↦ put_loop_other L id o q p
]

-- One task is another one. All others find their loops where they were.
pub loops_put : (S T : State) (id : TaskId) (x : Task) → T.tasks ≡ fin.insert S.tasks id x
    → ((q : TaskId) (task : Task) → same_id q id ≡ false → fin.get S.tasks q ≡ Some task → waits_at T.scopes task ≡ waits_at S.scopes task)
    → (q : TaskId) → loops_of T q ≡ put_loop (loops_of S) id (waits_at T.scopes x) q
loops_put S T id x tasks others q = elim (cases_id q id) [
  | inl p ↦ ap (loops_of T) p ∙ ap (λ m. option_and_then (waits_at T.scopes) (fin.get m id)) tasks ∙ ap (option_and_then (waits_at T.scopes)) (get_same S.tasks id x)
      ∙ sym (ap (put_loop (loops_of S) id (waits_at T.scopes x)) p ∙ put_loop_at (loops_of S) id (waits_at T.scopes x))
  | inr p ↦ ap (λ m. option_and_then (waits_at T.scopes) (fin.get m q)) tasks ∙ ap (option_and_then (waits_at T.scopes)) (get_other S.tasks id q x p)
      ∙ by (fin.get S.tasks q) refl p ∙ sym (put_loop_other (loops_of S) id (waits_at T.scopes x) q p)
]
  where
    by : (o : Option Task) → fin.get S.tasks q ≡ o → same_id q id ≡ false → option_and_then (waits_at T.scopes) o ≡ option_and_then (waits_at S.scopes) o
    by None e p = refl
    by (Some task) e p = others q task p e

-- A task that waits at no loop is another one that waits at none.
pub loops_stay : (S T : State) (id : TaskId) (x : Task) → T.tasks ≡ fin.insert S.tasks id x → loops_of S id ≡ None → waits_at T.scopes x ≡ None
    → ((xs : List ℕ) → loop_in T.scopes xs ≡ loop_in S.scopes xs) → (q : TaskId) → loops_of T q ≡ loops_of S q
loops_stay S T id x tasks before after scopes q =
    loops_put S T id x tasks (λ i task e h. ap (λ (o : Option Loop). if is_at_loop task.mode then o else None) (scopes task.opened)) q
    ∙ ap (λ (o : Option Loop). put_loop (loops_of S) id o q) after ∙ put_loop_same (loops_of S) id None before q

-- ---- scopes that are opened

-- A scope with no range, the last.
pub loop_past : (scopes : List Scope) (x : Scope) → x.range ≡ None → (xs : List ℕ) → loop_in (scopes ++ x ∷ []) xs ≡ loop_in scopes xs
loop_past scopes x none [] = refl
loop_past scopes x none (number ∷ outer) = go scopes number
  where
    go : (ss : List Scope) (n : ℕ) → option_and_then (λ (s : Scope). loop_of number s.range) (slice_get (ss ++ x ∷ []) n) ≡ option_and_then (λ (s : Scope). loop_of number s.range) (slice_get ss n)
    go [] zero = ap (loop_of number) none
    go [] (suc n) = refl
    go (s ∷ ss) zero = refl
    go (s ∷ ss) (suc n) = go ss n

-- Any scope, where another is looked for.
pub get_before : (ss : List Scope) (x : Scope) (n : ℕ) → n < length ss → slice_get (ss ++ x ∷ []) n ≡ slice_get ss n
get_before [] x n l = absurd (omega arith)
get_before (s ∷ ss) x zero l = refl
get_before (s ∷ ss) x (suc n) l = get_before ss x n (omega arith)

pub get_last : (ss : List Scope) (x : Scope) → slice_get (ss ++ x ∷ []) (length ss) ≡ Some x
get_last [] x = refl
get_last (s ∷ ss) x = get_last ss x
