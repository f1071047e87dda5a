-- Tasks that are valid: a new one, and one that goes on, waits at its loop, ends or is trapped.
use Rattle.std.proofs.Common.{◌≡◌, ℕ, ◌+◌, List, [], ◌∷◌, ◌++◌, length, inl, inr, Option, refl, sym, ap, ◌∙◌, subst, arith}
use Rattle.gr_syntax.specs.declared.syntax.Program.{Program}
use Rattle.gr_lang.specs.declared.action.Action.{Action}
use Rattle.gr_lang.specs.declared.action.Action.TheVariants as a
use Rattle.gr_lang.specs.declared.action.Reply.{Reply}
use Rattle.gr_lang.specs.declared.action.TaskId.{TaskId}
use Rattle.gr_lang.specs.Next.{look, acts, next, go_on, start}
use Rattle.gr_lang.specs.States.{Mode, going, at_loop, ended, trapped, Task, Range, Scope, child}
use Rattle.gr_lang.specs.Steps.{goes_on, new_scope}
use Rattle.gr_valid.specs.Valid.{arrives, waits, IsTrap, IsLoop, StandsAt, AreOpened, IsValidTask}
use Rattle.gr_valid.proofs.Looks.{IsNext, next_is, start_arrives, Went, go_on_went}
use Rattle.gr_valid.proofs.Scopes.{get_last, keep_append, opened_kept, are_older}

-- An action that is no trap stands first.
stands_first : (p : Program) (xs : List Scope) (id : TaskId) (t : Task) (x : Action) → IsValidTask p xs id t → t.action ≡ x → ¬ (IsTrap x) → look p t.running ≡ acts x
stands_first p xs id t x h e n = by h.stands
  where
    by : StandsAt p t.running t.action → look p t.running ≡ acts x
    by (inl k) = k ∙ ap acts e
    by (inr k) = absurd (n (subst IsTrap e k))

pub went : (p : Program) (xs : List Scope) (id : TaskId) (t : Task) (x : Action) (w : Reply) → IsValidTask p xs id t → t.action ≡ x → ¬ (IsTrap x)
    → Went x (arrives t.running.todo) (arrives (go_on t.running w).todo)
went p xs id t x w h e n = go_on_went p t.running w x (stands_first p xs id t x h e n)

pub level_at : (p : Program) (xs : List Scope) (id : TaskId) (t : Task) (m : Mode) → IsValidTask p xs id t → t.mode ≡ m → arrives t.running.todo + waits m ≡ length t.opened
level_at p xs id t m h e = ap (λ m. arrives t.running.todo + waits m) (sym e) ∙ h.level

-- A task that goes on, with these opened scopes.
pub goes_valid : (p : Program) (L : ℕ) (xs : List Scope) (id : TaskId) (t : Task) (w : Reply) (ss : List ℕ) → arrives (go_on t.running w).todo ≡ length ss
    → AreOpened xs id t.scope ss → IsValidTask p xs id (record (goes_on p L t w) { opened = ss })
goes_valid p L xs id t w ss l o =
    let n : IsNext p (go_on t.running w) (next p L (go_on t.running w)) = next_is p L (go_on t.running w) in
    record { stands = n.stands; loops = λ e. cc; opened = o; level = omega (arith, n.same, l); over = λ e. cc }

pub child_valid : (p : Program) (L : ℕ) (xs : List Scope) (id : TaskId) (scope target : ℕ) (ws : List ℕ) → IsValidTask p xs id (child p L scope target ws)
child_valid p L xs id scope target ws =
    let n : IsNext p (start p target ws) (next p L (start p target ws)) = next_is p L (start p target ws) in
    record { stands = n.stands; loops = λ e. cc; opened = tt; level = omega (arith, n.same, start_arrives p target ws); over = λ e. cc }

-- A scope that is opened next, over those that the task has opened.
pub opened_next : (xs : List Scope) (id : TaskId) (t : Task) (range : Option Range) → AreOpened xs id t.scope t.opened
    → AreOpened (xs ++ new_scope t id range ∷ []) id t.scope (length xs ∷ t.opened)
opened_next xs id t range h = (
  record { scope = new_scope t id range; there = get_last xs (new_scope t id range); owner = refl; parent = refl; newer = are_older xs id t.scope t.opened h },
  opened_kept xs (xs ++ new_scope t id range ∷ []) id t.scope t.opened (keep_append xs (new_scope t id range ∷ [])) h,
)

pub waits_valid : (p : Program) (xs : List Scope) (id : TaskId) (t : Task) (range : Option Range) → IsValidTask p xs id t → t.mode ≡ going → IsLoop t.action
    → IsValidTask p (xs ++ new_scope t id range ∷ []) id (record t { mode = at_loop; opened = length xs ∷ t.opened })
waits_valid p xs id t range h m l = record {
  stands = h.stands;
  loops = λ e. l;
  opened = opened_next xs id t range h.opened;
  level = omega (arith, level_at p xs id t going h m);
  over = λ e. cc;
}

none_of : (ss : List ℕ) → length ss ≡ 0 → ss ≡ []
none_of [] h = refl
none_of (s ∷ ss) h = absurd (omega arith)

-- At the end of its body a task has no scope open.
pub ends_valid : (p : Program) (xs : List Scope) (id : TaskId) (t : Task) → IsValidTask p xs id t → t.mode ≡ going → t.action ≡ a.End → IsValidTask p xs id (record t { mode = ended })
ends_valid p xs id t h m x =
    let none : arrives t.running.todo ≡ 0 = went p xs id t a.End (record { first = 0; second = 0 }) h x (λ k. k) in
    let l : arrives t.running.todo + 0 ≡ length t.opened = level_at p xs id t going h m in
    record { stands = h.stands; loops = λ e. cc; opened = h.opened; level = l; over = λ e. none_of t.opened (omega (arith, none, l)) }

pub traps_valid : (p : Program) (xs : List Scope) (id : TaskId) (t : Task) → IsValidTask p xs id t → t.mode ≡ going → IsValidTask p xs id (record t { mode = trapped })
traps_valid p xs id t h m = record { stands = h.stands; loops = λ e. cc; opened = h.opened; level = level_at p xs id t going h m; over = λ e. cc }
