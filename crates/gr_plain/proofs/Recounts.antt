-- What each step changes in the number of unended tasks of a scope, and in the number of scopes.
use Rattle.std.proofs.Common.{◌≡◌, ℕ, ◌+◌, Bool, true, false, ◌&&◌, Option, Some, None, refl, sym, ap, ◌∙◌, arith, cond, subst, length, is_none}
use Rattle.std.specs.Prelude.{◌==◌, IfSome, if◌then◌else◌}
use Rattle.std.specs.Option.{option_and_then}
use Rattle.std.specs.Ordering.{eq_by_cmp}
use Rattle.std.specs.declared.cmp.Ordering.{Ordering}
use Rattle.std.specs.declared.cmp.Ordering.TheVariants.{Less, Equal, Greater}
use Rattle.std.specs.FinMap as fin
use Rattle.gr_lang.proofs.TaskIds.{ids_total}
use Rattle.gr_lang.specs.declared.action.TaskId.{TaskId}
use Rattle.gr_lang.specs.States.{Mode, going, at_loop, ended, trapped, State, Task, has_ended, is_going, is_at_loop, id_cmp}
use Rattle.gr_lang.specs.Steps.{of_task, when, is_new}
use Rattle.gr_valid.specs.Work.{works_in}
use Rattle.gr_plain.specs.CountWords.{unended_of}
use Rattle.gr_tables.specs.declared.counts.Change.{Change}
use Rattle.gr_tables.specs.declared.counts.Change.TheVariants as c
use Rattle.gr_plain.proofs.Tallies.{count_in, count-insert}

-- What a change adds to the scope's number, takes from it, and adds to the scopes.
abbrev pub begun_by : Change → ℕ → ℕ
begun_by (c.Begins r) s = cond (r == s) 1 0
begun_by _ s = 0

abbrev pub ended_by : Change → ℕ → ℕ
ended_by (c.Ends r) s = cond (r == s) 1 0
ended_by _ s = 0

abbrev pub opened_by : Change → ℕ
opened_by c.Opens = 1
opened_by _ = 0

pub record Recount (S : State) (change : Change) (T : State) : Type 0 where
  pub scopes : length T.scopes ≡ length S.scopes + opened_by change
  pub counts : (s : ℕ) → unended_of T.tasks s + ended_by change s ≡ unended_of S.tasks s + begun_by change s

-- ---- tests of a step

some_of : (S : State) (f : Task → Option State) (P : Option Task → State → Type 0) (o : Option Task) → ((t : Task) → o ≡ Some t → IfSome (f t) (P (Some t))) → IfSome (option_and_then f o) (P o)
some_of S f P None h = tt
some_of S f P (Some t) h = h t refl

pub on_task : (S : State) (id : TaskId) (f : Task → Option State) (P : Option Task → State → Type 0)
    → ((t : Task) → fin.get S.tasks id ≡ Some t → IfSome (f t) (P (Some t))) → IfSome (of_task S id f) (P (fin.get S.tasks id))
on_task S id f P h = some_of S f P (fin.get S.tasks id) h

chosen : (b : Bool) (o : Option State) (P : State → Type 0) → (b ≡ true → IfSome o P) → IfSome (if b then o else None) P
chosen true o P h = h refl
chosen false o P h = tt

pub on_going : (m : Mode) (o : Option State) (P : State → Type 0) → (is_going m ≡ true → IfSome o P) → IfSome (if is_going m then o else None) P
on_going m o P h = chosen (is_going m) o P h

pub on_when : (b : Bool) (T : State) (P : State → Type 0) → (b ≡ true → P T) → IfSome (when b T) P
on_when b T P h = chosen b (Some T) P h

pub goes : (m : Mode) → is_going m ≡ true → has_ended m ≡ false
goes going h = refl
goes at_loop h = cc
goes ended h = cc
goes trapped h = cc

pub waits : (m : Mode) → is_at_loop m ≡ true → has_ended m ≡ false
waits going h = cc
waits at_loop h = refl
waits ended h = cc
waits trapped h = cc

pub and_second : (x y : Bool) → (x && y) ≡ true → y ≡ true
and_second true y h = h
and_second false y h = cc

-- ---- tasks that are put in

-- A task that hasn't ended counts in its scope.
works : (t : Task) (s : ℕ) → has_ended t.mode ≡ false → works_in s t ≡ (t.scope == s)
works t s h = rw h refl

-- A task in the place of one in the same scope, where neither has ended, changes no number.
pub kept : (m : fin.FinMap id_cmp Task) (id : TaskId) (t u : Task) (s : ℕ) → fin.get m id ≡ Some t → has_ended t.mode ≡ false → u.scope ≡ t.scope → has_ended u.mode ≡ false
    → unended_of (fin.insert m id u) s ≡ unended_of m s
kept m id t u s there on same still =
    let law : unended_of (fin.insert m id u) s + count_in (works_in s) (Some t) ≡ unended_of m s + cond (works_in s u) 1 0 =
    subst (λ o. unended_of (fin.insert m id u) s + count_in (works_in s) o ≡ unended_of m s + cond (works_in s u) 1 0) there (count-insert ids_total (works_in s) m id u) in
    let alike : works_in s u ≡ works_in s t = works u s still ∙ ap (λ r. r == s) same ∙ sym (works t s on) in
    omega (arith, law, ap {B = ℕ} (λ b. cond b 1 0) alike)

-- A new task adds one in its scope.
pub added : (m : fin.FinMap id_cmp Task) (id : TaskId) (u : Task) (s : ℕ) → fin.get m id ≡ None → has_ended u.mode ≡ false
    → unended_of (fin.insert m id u) s ≡ unended_of m s + cond (u.scope == s) 1 0
added m id u s new still =
    let law : unended_of (fin.insert m id u) s + count_in (works_in s) None ≡ unended_of m s + cond (works_in s u) 1 0 =
    subst (λ o. unended_of (fin.insert m id u) s + count_in (works_in s) o ≡ unended_of m s + cond (works_in s u) 1 0) new (count-insert ids_total (works_in s) m id u) in
    omega (arith, law, ap {B = ℕ} (λ b. cond b 1 0) (works u s still))

-- A task that ends takes one from its scope.
pub taken : (m : fin.FinMap id_cmp Task) (id : TaskId) (t : Task) (s : ℕ) → fin.get m id ≡ Some t → has_ended t.mode ≡ false
    → unended_of (fin.insert m id (record t { mode = ended })) s + cond (t.scope == s) 1 0 ≡ unended_of m s
taken m id t s there on =
    let u : Task = record t { mode = ended } in
    let law : unended_of (fin.insert m id u) s + count_in (works_in s) (Some t) ≡ unended_of m s + 0 =
    subst (λ o. unended_of (fin.insert m id u) s + count_in (works_in s) o ≡ unended_of m s + 0) there (count-insert ids_total (works_in s) m id u) in
    omega (arith, law, ap {B = ℕ} (λ b. cond b 1 0) (works t s on))

pub none_of : (o : Option Task) → is_none o ≡ true → o ≡ None
none_of None h = refl
none_of (Some t) h = cc

-- An id that is new stays new as another task is put in.
pub still_new : (S : State) (id kid : TaskId) (t u : Task) → fin.get S.tasks id ≡ Some t → is_new S kid ≡ true → fin.get (fin.insert S.tasks id u) kid ≡ None
still_new S id kid t u there new = fin.get-insert ids_total S.tasks id u kid ∙ by (id_cmp kid id) refl
  where
    by : (o : Ordering) → id_cmp kid id ≡ o → cond (eq_by_cmp id_cmp kid id) (Some u) (fin.get S.tasks kid) ≡ None
    by Less h = rw h (none_of _ new)
    by Greater h = rw h (none_of _ new)
    by Equal h =
        let a : fin.get S.tasks id ≡ fin.get S.tasks kid = fin.get_tied ids_total S.tasks kid id h in
        let b : Some t ≡ None = sym there ∙ a ∙ none_of _ new in cc
