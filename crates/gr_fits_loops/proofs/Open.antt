-- The scopes that tasks have opened: each is there, and its own task's; and the one that is opened next is of no task yet.
use Rattle.std.proofs.Common.{◌≡◌, ◌≢◌, ◌⊎◌, ℕ, ◌-◌, ◌<◌, Bool, true, false, ◌||◌, nat_lt, ◌∷◌, length, inl, inr, Option, Some, refl, sym, ◌∙◌, ap, subst, arith}
use Rattle.std.specs.FinMap.{get}
use Rattle.std.specs.FinSet as set
use Rattle.std.specs.Option.{option_map_or}
use Rattle.std.specs.Ordering.{nat_cmp}
use Rattle.std.proofs.lemmas.Bool.Decides.{nat_tests}
use Rattle.std.proofs.lemmas.Option.{slice_get_within}
use Rattle.gr_syntax.specs.declared.syntax.Program.{Program}
use Rattle.gr_lang.specs.declared.action.TaskId.{TaskId}
use Rattle.gr_lang.specs.States.{at_loop, ended, Task, Range, Scope, State, root, range_left}
use Rattle.gr_lang.specs.Steps.{open_scope, new_scope}
use Rattle.gr_valid.specs.Valid.{IsLoop, IsValid, IsOpen, AreOpened}
use Rattle.gr_valid.specs.Work.{has_task, has_index}
use Rattle.gr_valid.proofs.Scopes.{one_of, get_last}
use Rattle.gr_valid.proofs.Counts.{Worker, has_worker}
use Rattle.gr_valid.proofs.Direct.{work_direct}
use Rattle.gr_valid.proofs.Maps.{IsPut, found_put, get_same}
use Rattle.gr_valid.proofs.Changes.{open_valid}
use Rattle.gr_valid.proofs.Goes.{waits_valid}
use Rattle.gr_valid.proofs.Inverts.{going_works}
use Rattle.gr_fits.proofs.Reached.{states_valid}
use Rattle.gr_fits_loops.specs.Laws as laws

pub innermost_apart : laws.InnermostScopesAreApart
innermost_apart given state one other first second scope outer more reached at there opened opened2 =
    let v : IsValid given.program state = states_valid given state reached in
    let f : AreOpened state.scopes one first.scope (scope ∷ outer) = subst (AreOpened state.scopes one first.scope) opened (v.tasks one first at).opened in
    let s : AreOpened state.scopes other second.scope (scope ∷ more) = subst (AreOpened state.scopes other second.scope) opened2 (v.tasks other second there).opened in
    let both : Some f.0.scope ≡ Some s.0.scope = sym f.0.there ∙ s.0.there in
    let same : f.0.scope ≡ s.0.scope = cc in
    let owners : Some one ≡ Some other = sym f.0.owner ∙ ap (λ (x : Scope). x.owner) same ∙ s.0.owner in
    cc

-- A scope that is open is there.
open_low : (p : Program) (S : State) (s : ℕ) → IsValid p S → IsOpen S s → s < length S.scopes
open_low p S s h o =
    let k = one_of S.scopes o.id o.task.scope o.task.opened s (h.tasks o.id o.task o.there).opened o.opened in
    slice_get_within S.scopes s k.opened.scope k.opened.there

-- So is the scope of each task that hasn't ended.
held_low : (p : Program) (S : State) (id : TaskId) (t : Task) → IsValid p S → get S.tasks id ≡ Some t → t.mode ≢ ended → t.scope < length S.scopes
held_low p S id t h at n = by (h.held id t at n)
  where
    by : (t.scope ≡ 0) ⊎ IsOpen S t.scope → t.scope < length S.scopes
    by (inl e) = subst (λ (s : ℕ). s < length S.scopes) (sym e) (slice_get_within S.scopes 0 root h.root)
    by (inr o) = open_low p S t.scope h o

pub nothing_left : laws.LoopsOverNothingLeaveNone
nothing_left given state id plain lo hi grain target args reached there mode due none =
    work_direct p after n valid (inr (record { id = id; task = opened; there = get_same state.tasks id opened; below = plain.opened; opened = refl }))
    ∙ neither (has_task after n) (has_index after n) (no_task (has_task after n) refl) no_index
  where
    p : Program
    p = given.program

    n : ℕ
    n = length state.scopes

    range : Range
    range = record { lo = lo; hi = hi; target = target; args = args; begun = set.empty }

    waiting : Task
    waiting = record plain { mode = at_loop }

    opened : Task
    opened = record waiting { opened = n ∷ plain.opened }

    after : State
    after = open_scope state id plain waiting (Some range)

    before : IsValid p state
    before = states_valid given state reached

    valid : IsValid p after
    valid = open_valid p state id plain waiting (Some range) before there refl (going_works plain.mode mode)
        (waits_valid p state.scopes id plain (Some range) (before.tasks id plain there) mode (subst IsLoop (sym due) tt))

    over : (l h : ℕ) → nat_lt l h ≡ false → nat_lt 0 (h - l) ≡ false
    over l h e = grind (arith, nat_tests)

    no_index : has_index after n ≡ false
    no_index =
        ap (λ (o : Option Scope). option_map_or (λ x. range_left x.range) o false) (get_last state.scopes (new_scope plain id (Some range)))
        ∙ ap (λ (k : ℕ). nat_lt k (hi - lo)) (set.len-empty nat_cmp) ∙ over lo hi none

    less : (k : ℕ) → k < n → k ≡ n → ⊥
    less k l e = omega arith

    none_works : Worker after n → ⊥
    none_works w = by (found_put state.tasks id w.id opened w.task w.there)
      where
        by : IsPut state.tasks id opened w.id w.task → ⊥
        by (inl e) = less plain.scope (held_low p state id plain before there (going_works plain.mode mode)) (ap (λ (t : Task). t.scope) e.1 ∙ w.scope)
        by (inr e) = less w.task.scope (held_low p state w.id w.task before e.1 w.works) w.scope

    no_task : (b : Bool) → has_task after n ≡ b → has_task after n ≡ false
    no_task true e = absurd (none_works (has_worker after n e))
    no_task false e = e

    neither : (b c : Bool) → b ≡ false → c ≡ false → (b || c) ≡ false
    neither false c e f = f
    neither true c e f = cc
