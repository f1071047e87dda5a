-- When no work is left under a scope, and what has ended then.
use Rattle.std.proofs.Common.{◌≡◌, ◌≢◌, ◌⊎◌, ℕ, zero, suc, ◌+◌, ◌-◌, ◌<◌, ◌≤◌, ◌==◌, Bool, true, false, not, ◌&&◌, ◌||◌, cond, nat_le, nat_lt, List, [], ◌∷◌, slice_get, inl, inr, Option, Some, None, refl, sym, ap, ◌∙◌, subst, arith}
use Rattle.std.specs.FinSet as set
use Rattle.std.specs.FinSet.{len-remove, contains-remove, contains-empty}
use Rattle.std.specs.Ordering.{nat_cmp}
use Rattle.std.specs.Cmp.{unsigned_tied}
use Rattle.std.specs.Option.{option_map_or}
use Rattle.std.proofs.lemmas.Cmp.{nat_cmp_total}
use Rattle.std.proofs.lemmas.Bool.Decides.{nat_tests}
use Rattle.gr_syntax.specs.declared.syntax.Program.{Program}
use Rattle.gr_lang.specs.declared.action.Entry.{Entry}
use Rattle.gr_lang.specs.States.{Range, Scope, State, root, range_left, opening_state, left}
use Rattle.gr_lang.specs.Steps.{step}
use Rattle.gr_lang.specs.Histories.{after}
use Rattle.gr_stands.specs.Worlds.{Given}
use Rattle.gr_valid.specs.Valid.{IsValid}
use Rattle.gr_valid.specs.Work.{has_task, has_index, CanBePassed}
use Rattle.gr_valid.proofs.Counts.{Worker, has_worker}
use Rattle.gr_valid.proofs.Direct.{work_direct}
use Rattle.gr_valid.proofs.Ended.{HaveEnded, have_ended, no_step}
use Rattle.gr_valid.proofs.Inverts.{by_found}
use Rattle.gr_valid.proofs.Lasts.{Rooted, Lasts, AllEnds, step_lasts}
use Rattle.gr_valid.proofs.States.{opens_valid, steps_valid}
use Rattle.gr_fits.specs.Reached.{IsReached}
use Rattle.gr_fits.proofs.Reached.{states_valid}
use Rattle.gr_fits_scopes.specs.Scopes.{IsFinish, AreFinishes, AllEndedIn}
use Rattle.gr_fits_scopes.proofs.Placed.{outer_finishes, all_of}
use Rattle.gr_fits_scopes.specs.Laws as laws

-- ---- ranges

without_one : (s : set.FinSet nat_cmp) (k q : ℕ) → set.contains (set.remove s k) q ≡ (not (q == k) && set.contains s q)
without_one s k q = contains-remove nat_cmp_total s k q ∙ ap (λ (b : Bool). not b && set.contains s q) (unsigned_tied q k)

-- A set has at least as many numbers as a range that it contains.
many : (n lo : ℕ) (s : set.FinSet nat_cmp) → ((k : ℕ) → lo ≤ k → k < lo + n → set.contains s k ≡ true) → n ≤ set.len s
many zero lo s all = omega arith
many (suc n) lo s all =
    let t = set.remove s (lo + n) in
    let rest : n ≤ set.len t = many n lo t (λ k p q. without_one s (lo + n) k ∙ kept (k == lo + n) (set.contains s k) (different k q) (all k p (omega (arith, q)))) in
    let there : set.contains s (lo + n) ≡ true = all (lo + n) (omega arith) (omega arith) in
    let less : set.len t ≡ set.len s - 1 = len-remove nat_cmp_total s (lo + n) ∙ ap (λ (b : Bool). cond b (set.len s - 1) (set.len s)) there in
    one_more (set.len s) rest less (holds_one there)
  where
    different : (k : ℕ) → k < lo + n → (k == lo + n) ≡ false
    different k q = grind (arith, nat_tests, q)

    kept : (a b : Bool) → a ≡ false → b ≡ true → (not a && b) ≡ true
    kept a b e f = rw (e, f) refl

    holds_one : set.contains s (lo + n) ≡ true → set.len s ≢ 0
    holds_one e z =
        let no : true ≡ false = sym e ∙ ap (λ (x : set.FinSet nat_cmp). set.contains x (lo + n)) (set.empty_of_len s z) ∙ contains-empty nat_cmp (lo + n) in
        cc

    one_more : (l : ℕ) → n ≤ set.len (set.remove s (lo + n)) → set.len (set.remove s (lo + n)) ≡ l - 1 → l ≢ 0 → suc n ≤ l
    one_more l p e ne = omega (arith, p, e)

-- Where each index of a range has begun, none is left.
none_left : (r : Range) → ((index : ℕ) → nat_le r.lo index ≡ true → nat_lt index r.hi ≡ true → set.contains r.begun index ≡ true) → range_left (Some r) ≡ false
none_left r all = full (set.len r.begun) (r.hi - r.lo) (many (r.hi - r.lo) r.lo r.begun (λ k l u. all k (low r.lo k l) (high k r.hi r.lo l u)))
  where
    low : (a k : ℕ) → a ≤ k → nat_le a k ≡ true
    low a k l = grind (arith, nat_tests, l)

    below : (k b : ℕ) → k < b → nat_lt k b ≡ true
    below k b l = grind (arith, nat_tests, l)

    high : (k b a : ℕ) → a ≤ k → k < a + (b - a) → nat_lt k b ≡ true
    high k b a l u = below k b (omega (arith, l, u))

    full : (l n : ℕ) → n ≤ l → nat_lt l n ≡ false
    full l n h = grind (arith, nat_tests, h)

-- ---- what is left under a scope that may be passed

no_task : (state : State) (number : ℕ) → AllEndedIn state number → (b : Bool) → has_task state number ≡ b → b ≡ false
no_task state number ended false e = refl
no_task state number ended true e = let w : Worker state number = has_worker state number e in absurd (w.works (ended w.id w.task w.there w.scope))

-- No index is left of a scope that is no loop, or of whose range none is.
no_index : (state : State) (number : ℕ) → ((scope : Scope) → slice_get state.scopes number ≡ Some scope → range_left scope.range ≡ false) → has_index state number ≡ false
no_index state number none = by (slice_get state.scopes number) refl
  where
    by : (o : Option Scope) → slice_get state.scopes number ≡ o → option_map_or (λ x. range_left x.range) o false ≡ false
    by None e = refl
    by (Some scope) e = none scope e

neither : (b c : Bool) → b ≡ false → c ≡ false → (b || c) ≡ false
neither b c e f = rw (e, f) refl

done : (p : Program) (state : State) (number : ℕ) → IsValid p state → CanBePassed state number → AllEndedIn state number
    → ((scope : Scope) → slice_get state.scopes number ≡ Some scope → range_left scope.range ≡ false) → left state number ≡ false
done p state number valid can ended none =
    work_direct p state number valid can ∙ neither (has_task state number) (has_index state number) (no_task state number ended (has_task state number) refl) (no_index state number none)

pub scopes_done : laws.ScopesAreDone
scopes_done given state id task number outer reached there opened ended begun =
    done given.program state number (states_valid given state reached) (inr (record { id = id; task = task; there = there; below = outer; opened = opened })) ended
    (λ scope at. by scope at scope.range refl)
  where
    by : (scope : Scope) → slice_get state.scopes number ≡ Some scope → (r : Option Range) → scope.range ≡ r → range_left r ≡ false
    by scope at None e = refl
    by scope at (Some range) e = none_left range (begun scope range at e)

-- A finish is no loop.
no_range : (state : State) (number : ℕ) → IsFinish state.scopes number → (scope : Scope) → slice_get state.scopes number ≡ Some scope → range_left scope.range ≡ false
no_range state number finish scope at =
    let both : Some finish.scope ≡ Some scope = sym finish.there ∙ at in
    let same : finish.scope ≡ scope = cc in
    ap (λ (x : Scope). range_left x.range) (sym same) ∙ ap range_left finish.none

pub finishes_done : laws.FinishesAreDone
finishes_done given state id task number outer reached there mode opened ended =
    let all : AreFinishes state.scopes (number ∷ outer) = subst (AreFinishes state.scopes) opened (all_of state.scopes task.mode task.opened mode (outer_finishes given state id task reached there)) in
    done given.program state number (states_valid given state reached) (inr (record { id = id; task = task; there = there; below = outer; opened = opened })) ended
    (no_range state number all.0)

pub roots_done : laws.RootsAreDone
roots_done given state reached ended =
    let valid : IsValid given.program state = states_valid given state reached in
    done given.program state 0 valid (inl refl) ended (no_range state 0 (record { scope = root; there = valid.root; none = refl }))

-- ---- what has ended

-- The state is valid, each scope stands under the root, and where the root is passed each task has ended and no work is left.
record Settles (p : Program) (S : State) : Type 0 where
  valid : IsValid p S
  rooted : Rooted S.scopes
  ended : S.passed ≡ true → HaveEnded S

root_rooted : Rooted (root ∷ [])
root_rooted zero x h = inl refl
root_rooted (suc r) x h = cc

step_settled : (p : Program) (N L : ℕ) (S T : State) (x : Entry) → Settles p S → step p N L S x ≡ Some T → Settles p T
step_settled p N L S T x s h = by (step_lasts p N L S T x s.valid h)
  where
    by : Lasts S T ⊎ AllEnds S T → Settles p T
    by (inl l) = record {
      valid = steps_valid p N L S T x s.valid h;
      rooted = l.rooted s.rooted;
      ended = λ b. absurd (no_step p N L S T x (sym l.passed ∙ b) (s.ended (sym l.passed ∙ b)) h);
    }
    by (inr a) = record {
      valid = steps_valid p N L S T x s.valid h;
      rooted = subst (λ (U : State). Rooted U.scopes) a.after s.rooted;
      ended = λ b. subst HaveEnded a.after (have_ended p S s.valid s.rooted a.none);
    }

settled : (p : Program) (N L : ℕ) (S T : State) (h : List Entry) → Settles p S → after p N L S h ≡ Some T → Settles p T
settled p N L S T [] k s = let same : S ≡ T = cc in subst (Settles p) same k
settled p N L S T (x ∷ xs) k s =
    let f = by_found (step p N L S x) (λ U. after p N L U xs) T s in
    settled p N L f.0 T xs (step_settled p N L S f.0 x k f.1) f.2

reached_settled : (given : Given) (state : State) → IsReached given state → Settles given.program state
reached_settled given state reached =
    settled given.program given.setup.cores given.setup.steps (opening_state given.program given.setup.steps) state reached.history
    (record { valid = opens_valid given.program given.setup.steps; rooted = root_rooted; ended = λ e. cc }) reached.leads

pub all_ended : laws.AllTasksHaveEnded
all_ended given state reached none =
    let s : Settles given.program state = reached_settled given state reached in
    have_ended given.program state s.valid s.rooted none

pub passed_done : laws.PassedStatesAreDone
passed_done given state reached passed =
    let all : HaveEnded state = (reached_settled given state reached).ended passed in
    (all, roots_done given state reached (λ id task there inside. all id task there))
