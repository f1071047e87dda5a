-- The numbers of unended tasks in the machine: at the start, after a step, and as the test that no work is left.
use Rattle.std.proofs.Common.{◌≡◌, ℕ, zero, suc, ◌<◌, ◌^◌, inl, inr, Bool, true, false, ◌&&◌, ◌||◌, List, [], ◌∷◌, Option, Some, None, refl, sym, ap, ◌∙◌, arith, rules, cond, subst}
use Rattle.std.specs.Prelude.{◌==◌, if◌then◌else◌, nat_lt, slice_index, codes}
use Rattle.std.specs.Option.{option_map, option_map_or, option_and_then}
use Rattle.std.specs.FinMap as fin
use Rattle.std.proofs.lemmas.Bool.Decides.{nat_tests}
use Rattle.gr_lang.proofs.TaskIds.{by_ids}
use Rattle.gr_syntax.specs.declared.syntax.Program.{Program}
use Rattle.gr_lang.specs.declared.action.Entry.{Entry}
use Rattle.gr_lang.specs.declared.action.Entry.TheVariants as e
use Rattle.gr_lang.specs.declared.action.TaskId.{TaskId}
use Rattle.gr_lang.specs.Openings.{target_of}
use Rattle.gr_lang.specs.States.{State, Task, main_id, opening_state, child, left, is_at_loop, is_going}
use Rattle.gr_lang.specs.Steps.{step}
use Rattle.gr_valid.specs.Work.{OpensValid, StepsValid, WorkIsDirect, CanBePassed, IsInnermost, has_task, has_index, works_in}
use Rattle.gr_tables.specs.Changes.{CanChange, changed}
use Rattle.gr_plain.specs.CountWords.{IsCounted, change_of, is_work_in, unended_of}
use Rattle.gr_plain.specs.Held.{Held, stepped, with_state}
use Rattle.gr_tables.specs.Dues.{is_arrive}
use Rattle.gr_plain.specs.DueWords.{due_pass, is_blocked}
use Rattle.gr_tables.specs.Stacks.{top_of}
use Rattle.gr_tables.specs.declared.counts.Change.{Change}
use Rattle.gr_plain.proofs.Tallies.{any-count}
use Rattle.gr_plain.proofs.Recounts.{added}
use Rattle.gr_plain.proofs.Numbers.{numbers}

-- ---- the start

no_tasks : (s : ℕ) → unended_of fin.empty s ≡ 0
no_tasks s = search (rules, by_ids)

in_root : (n : ℕ) (b : Bool) → (0 == suc n) ≡ b → ◌≡◌ {A = ℕ} 0 (cond b 1 0)
in_root n true h = absurd (let same : ◌≡◌ {A = ℕ} 0 (suc n) = grind (arith, nat_tests) in omega (arith, same))
in_root n false h = refl

one_in_root : (s : ℕ) → slice_index (1 ∷ []) s ≡ cond (0 == s) 1 0
one_in_root zero = refl
one_in_root (suc n) = in_root n (0 == suc n) refl

start_counted : OpensValid → (p : Program) (L : ℕ) → IsCounted p (opening_state p L) (1 ∷ [])
start_counted opens p L = record {
  valid = opens p L;
  scopes = refl;
  unended = λ s. omega (arith, one_in_root s, no_tasks s, added fin.empty main_id (child p L 0 (target_of p (codes "main")) []) s (search (rules, by_ids)) refl);
}

pub start_held : OpensValid → (h : Held) (p : Program) (cores steps : ℕ) (counts : List ℕ) → h ≡ record { program = p; cores = cores; steps = steps; state = opening_state p steps } → counts ≡ 1 ∷ []
    → IsCounted h.program h.state counts
start_held opens h p cores steps counts is one =
    subst (λ (x : Held). IsCounted x.program x.state counts) (sym is) (subst (λ xs. IsCounted p (opening_state p steps) xs) (sym one) (start_counted opens p steps))

-- ---- a step

same_held : (h k : Held) (o : Option State) → option_map (with_state h) o ≡ Some k → o ≡ Some k.state × (k.program ≡ h.program)
same_held h k None e = cc
same_held h k (Some T) e = let is : with_state h T ≡ k = cc in (ap Some (ap (λ (x : Held). x.state) is), sym (ap (λ (x : Held). x.program) is))

step_counted : StepsValid → (h k : Held) (x : Entry) (counts : List ℕ) → IsCounted h.program h.state counts → stepped h x ≡ Some k → fin.len k.state.tasks < 2 ^ 64
    → CanChange (change_of h.state x) counts × IsCounted k.program k.state (changed (change_of h.state x) counts)
step_counted stays h k x counts are is few =
    let same = same_held h k (step h.program h.cores h.steps h.state x) is in
    let both = numbers stays h.program h.cores h.steps h.state k.state x counts are same.0 few in
    (both.0, subst (λ p. IsCounted p k.state (changed (change_of h.state x) counts)) (sym same.1) both.1)

-- The change can be made, and gives the numbers of the new state.
pub can_make : StepsValid → (h k : Held) (x : Entry) (counts : List ℕ) (change : Change) (tasks : ℕ) → IsCounted h.program h.state counts → stepped h x ≡ Some k → change ≡ change_of h.state x
    → tasks ≡ fin.len k.state.tasks → tasks < 2 ^ 64 → CanChange change counts
can_make stays h k x counts change tasks are is by many few =
    subst (λ c. CanChange c counts) (sym by) (step_counted stays h k x counts are is (omega (arith, many, few))).0

pub made_counted : StepsValid → (h k : Held) (x : Entry) (counts new : List ℕ) (change : Change) (tasks : ℕ) → IsCounted h.program h.state counts → stepped h x ≡ Some k → change ≡ change_of h.state x
    → tasks ≡ fin.len k.state.tasks → tasks < 2 ^ 64 → new ≡ changed change counts → IsCounted k.program k.state new
made_counted stays h k x counts new change tasks are is by many few made =
    subst (λ xs. IsCounted k.program k.state xs) (sym (made ∙ ap (λ c. changed c counts) by)) (step_counted stays h k x counts are is (omega (arith, many, few))).1

-- ---- the test

waits_at : (t : Task) (s : ℕ) (b : Bool) → (if b then top_of t.opened else None) ≡ Some s → (below : List ℕ) × (t.opened ≡ s ∷ below)
waits_at t s false e = cc
waits_at t s true e = by t.opened e
  where
    by : (opened : List ℕ) → top_of opened ≡ Some s → (below : List ℕ) × (opened ≡ s ∷ below)
    by [] e = cc
    by (k ∷ ks) e = let same : k ≡ s = cc in (ks, ap (λ n. n ∷ ks) same)

passed_by : (S : State) (id : TaskId) (s : ℕ) (o : Option Task) → fin.get S.tasks id ≡ o
    → option_and_then (λ t. if is_at_loop t.mode || (is_going t.mode && is_arrive t.action) then top_of t.opened else None) o ≡ Some s → IsInnermost S s
passed_by S id s None there e = cc
passed_by S id s (Some t) there e =
    let at = waits_at t s (is_at_loop t.mode || (is_going t.mode && is_arrive t.action)) e in
    record { id = id; task = t; there = there; below = at.0; opened = at.1 }

can_be_passed : (S : State) (id : TaskId) (s : ℕ) → due_pass S id ≡ Some s → CanBePassed S s
can_be_passed S id s e = inr (passed_by S id s (fin.get S.tasks id) refl e)

work_is : WorkIsDirect → (p : Program) (S : State) (counts : List ℕ) (s : ℕ) → IsCounted p S counts → CanBePassed S s → is_work_in counts S s ≡ left S s
work_is direct p S counts s are can =
    let tasks : has_task S s ≡ nat_lt 0 (slice_index counts s) = any-count (works_in s) (fin.values S.tasks) ∙ ap (nat_lt 0) (sym (are.unended s)) in
    sym (direct p S s are.valid can ∙ ap (λ b. b || has_index S s) tasks)

-- The test answers what blocks the entry.
pub blocks_pass : WorkIsDirect → (p : Program) (S : State) (counts : List ℕ) (x : Entry) (id : TaskId) (s : ℕ) (b : Bool) → IsCounted p S counts → x ≡ e.Pass id → due_pass S id ≡ Some s → b ≡ is_work_in counts S s
    → b ≡ is_blocked S x
blocks_pass direct p S counts x id s b are is due test =
    test ∙ work_is direct p S counts s are (can_be_passed S id s due) ∙ sym (ap (is_blocked S) is ∙ ap (λ o. option_map_or (λ q. left S q) o false) due)

pub blocks_over : WorkIsDirect → (p : Program) (S : State) (counts : List ℕ) (x : Entry) (b : Bool) → IsCounted p S counts → x ≡ e.Over → b ≡ is_work_in counts S 0 → b ≡ is_blocked S x
blocks_over direct p S counts x b are is test = test ∙ work_is direct p S counts 0 are (inl refl) ∙ sym (ap (is_blocked S) is)
