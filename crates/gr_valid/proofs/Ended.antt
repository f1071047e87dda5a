-- Where no work is left under the root each task has ended, and where each has ended and the root is passed there is no step.
use Rattle.std.proofs.Common.{◌≡◌, ◌≢◌, ℕ, zero, suc, ◌<◌, ◌≤◌, List, [], ◌∷◌, length, slice_get, if◌then◌else◌, Bool, true, false, not, ◌==◌, ◌&&◌, ◌⊎◌, inl, inr, Option, Some, None, is_some, refl, sym, ap, ◌∙◌, arith}
use Rattle.std.specs.Option.{option_map_or}
use Rattle.std.specs.FinMap.{get}
use Rattle.std.proofs.lemmas.Option.{slice_get_within}
use Rattle.gr_syntax.specs.declared.syntax.Program.{Program}
use Rattle.gr_lang.specs.declared.action.Entry.{Entry}
use Rattle.gr_lang.specs.declared.action.Entry.TheVariants as e
use Rattle.gr_lang.specs.declared.action.TaskId.{TaskId}
use Rattle.gr_lang.specs.States.{Mode, going, at_loop, ended, trapped, Task, Scope, State, has_ended, is_going, is_at_loop, is_in, is_under, left}
use Rattle.gr_lang.specs.Steps.{step, of_task, if_going, begin_step, pass_step, call_step, spawn_step, finish_step, loop_step, end_step, trap_step, pass_from, arrive_step}
use Rattle.gr_valid.specs.Valid.{IsValid, IsOpen}
use Rattle.gr_valid.proofs.Counts.{and_both, or_first, or_second, ended_not, under_self}
use Rattle.gr_valid.proofs.Inverts.{by_found, by_going, by_loop, tells_when}
use Rattle.gr_valid.proofs.Lasts.{IsRooted, Rooted}
use Rattle.gr_valid.proofs.Maps.{any_task}
use Rattle.gr_valid.proofs.Scopes.{IsOneOf, one_of}

-- ---- each scope stands under the root

both : (b c : Bool) → b ≡ true → c ≡ true → (b && c) ≡ true
both b c e f = rw e f

get_there : {X : Type 0} (xs : List X) (k : ℕ) → k < length xs → (x : X) × (slice_get xs k ≡ Some x)
get_there [] k l = absurd (omega (arith, l))
get_there (x ∷ xs) zero l = (x, refl)
get_there (x ∷ xs) (suc k) l = get_there xs k (omega (arith, l))

under_root : (xs : List Scope) → Rooted xs → (d r : ℕ) (x : Scope) → slice_get xs r ≡ Some x → r ≤ d → is_under d xs 0 r ≡ true
under_root xs h zero r x at l = let z : r ≡ 0 = omega (arith, l) in ap (λ n. n == 0) z
under_root xs h (suc d) r x at l = by (h r x at) (under_root xs h d)
  where
    by : IsRooted r x → ((q : ℕ) (y : Scope) → slice_get xs q ≡ Some y → q ≤ d → is_under d xs 0 q ≡ true) → is_under (suc d) xs 0 r ≡ true
    by (inl z) up = or_first (r == 0) _ (ap (λ n. n == 0) z)
    by (inr k) up =
        let within : r < length xs = slice_get_within xs r x at in
        let parent = get_there xs x.parent (omega (arith, k.1, within)) in
        let above : is_under d xs 0 x.parent ≡ true = up x.parent parent.0 parent.1 (omega (arith, k.1, l)) in
        or_second (r == 0) _ (ap (λ o. option_map_or (λ y. is_some y.owner && is_under d xs 0 y.parent) o false) at ∙ both (is_some x.owner) (is_under d xs 0 x.parent) k.0 above)

-- ---- what has ended

works : (p : Program) (S : State) (id : TaskId) (t : Task) → IsValid p S → Rooted S.scopes → get S.tasks id ≡ Some t → t.mode ≢ ended → left S 0 ≡ true
unfolding left
works p S id t h r at n =
    or_first _ _ (any_task S.tasks (λ t. not (has_ended t.mode) && is_in S 0 t.scope) id t at (both (not (has_ended t.mode)) (is_in S 0 t.scope) (ended_not t.mode n) (under (h.held id t at n))))
  where
    under : (t.scope ≡ 0) ⊎ IsOpen S t.scope → is_in S 0 t.scope ≡ true
    under (inl z) = ap (is_in S 0) z ∙ under_self _ S.scopes 0
    under (inr o) =
        let one : IsOneOf S.scopes o.id o.task.scope o.task.opened t.scope = one_of S.scopes o.id o.task.scope o.task.opened t.scope (h.tasks o.id o.task o.there).opened o.opened in
        under_root S.scopes r (length S.scopes) t.scope one.opened.scope one.opened.there (omega (arith, slice_get_within S.scopes t.scope one.opened.scope one.opened.there))

abbrev pub HaveEnded : State → Type 0
HaveEnded S = (id : TaskId) (t : Task) → get S.tasks id ≡ Some t → t.mode ≡ ended

pub have_ended : (p : Program) (S : State) → IsValid p S → Rooted S.scopes → left S 0 ≡ false → HaveEnded S
have_ended p S h r l id t at = by t.mode refl
  where
    still : t.mode ≢ ended → ⊥
    still n = let b : true ≡ false = sym (works p S id t h r at n) ∙ l in cc

    by : (m : Mode) → t.mode ≡ m → t.mode ≡ ended
    by ended e = e
    by going e = absurd (still (λ k. cc))
    by at_loop e = absurd (still (λ k. cc))
    by trapped e = absurd (still (λ k. cc))

-- ---- no step

not_going : (S T : State) (id : TaskId) (f : Task → Option State) → HaveEnded S → of_task S id (if_going f) ≡ Some T → ⊥
not_going S T id f h x =
    let k = by_found (get S.tasks id) (if_going f) T x in
    let m = by_going k.0.mode (f k.0) T k.2 in
    let e : going ≡ ended = sym m.0 ∙ h id k.0 k.1 in cc

not_passing : (p : Program) (L : ℕ) (S T : State) (id : TaskId) (t : Task) (m : Mode) → m ≡ ended
    → (if is_at_loop m then pass_from p L S id t t.opened else (if is_going m then arrive_step p L S id t t.action else None)) ≡ Some T → ⊥
not_passing p L S T id t ended e x = cc
not_passing p L S T id t _ e x = cc

pub no_step : (p : Program) (N L : ℕ) (S T : State) (x : Entry) → S.passed ≡ true → HaveEnded S → step p N L S x ≡ Some T → ⊥
no_step p N L S T (e.Call id op w) b h x = not_going S T id (λ t. call_step p L S id t t.action op w) h x
no_step p N L S T (e.Spawn id way target args kid) b h x = not_going S T id (λ t. spawn_step p N L S id t t.action way target args kid) h x
no_step p N L S T (e.Finish id) b h x = not_going S T id (λ t. finish_step p L S id t t.action) h x
no_step p N L S T (e.Loop id lo hi grain target args) b h x = not_going S T id (λ t. loop_step S id t t.action lo hi grain target args) h x
no_step p N L S T (e.Begin owner index kid) b h x =
    let k = by_found (get S.tasks owner) (λ t. begin_step p L S owner t index kid) T x in
    let m = by_loop k.0.mode _ T k.2 in
    let e : at_loop ≡ ended = sym m.0 ∙ h owner k.0 k.1 in cc
no_step p N L S T (e.Pass id) b h x =
    let k = by_found (get S.tasks id) (λ t. pass_step p L S id t) T x in not_passing p L S T id k.0 k.0.mode (h id k.0 k.1) k.2
no_step p N L S T (e.End id) b h x = not_going S T id (λ t. end_step S id t t.action) h x
no_step p N L S T (e.Trap id kind) b h x = not_going S T id (λ t. trap_step N S id t t.action kind) h x
no_step p N L S T e.Over b h x =
    let k = and_both (not S.passed) (not (left S 0)) (tells_when _ _ T x).0 in
    let e : false ≡ true = ap not (sym b) ∙ k.0 in cc
