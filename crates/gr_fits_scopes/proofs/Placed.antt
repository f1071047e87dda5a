-- Where the scopes of tasks stand: each step keeps that they are in order, and that but for a loop they are finishes.
use Rattle.std.proofs.Common.{◌≡◌, ◌≢◌, ◌⊎◌, ℕ, zero, suc, ◌==◌, ◌<◌, ◌≤◌, true, ◌&&◌, List, [], ◌∷◌, ◌++◌, length, drop, inl, inr, Option, Some, None, refl, sym, ◌∙◌, ap, subst, bytes_eq, arith}
use Rattle.std.specs.Prelude.{if◌then◌else◌, codes, not, nat_le, nat_lt, slice_get, slice_set}
use Rattle.std.specs.FinMap.{FinMap, get, insert, empty}
use Rattle.std.specs.FinSet as set
use Rattle.std.proofs.lemmas.Option.{slice_get_within}
use Rattle.gr_syntax.specs.declared.syntax.Program.{Program}
use Rattle.gr_lang.specs.declared.action.Action.{Action}
use Rattle.gr_lang.specs.declared.action.Action.TheVariants as a
use Rattle.gr_lang.specs.declared.action.Entry.{Entry}
use Rattle.gr_lang.specs.declared.action.Entry.TheVariants as e
use Rattle.gr_lang.specs.declared.action.How.{How}
use Rattle.gr_lang.specs.declared.action.Op.{Op}
use Rattle.gr_lang.specs.declared.action.Reply.{Reply}
use Rattle.gr_lang.specs.declared.action.TaskId.{TaskId}
use Rattle.gr_lang.specs.declared.action.TrapKind.{TrapKind}
use Rattle.gr_lang.specs.declared.action.TrapKind.TheVariants as trap
use Rattle.gr_lang.specs.Fields.{same_how, same_reply, same_trap}
use Rattle.gr_lang.specs.Parts.{same_op}
use Rattle.gr_lang.specs.Histories.{after}
use Rattle.gr_lang.specs.Objects.{call}
use Rattle.gr_lang.specs.Effects.{nothing}
use Rattle.gr_lang.specs.Openings.{target_of}
use Rattle.gr_lang.specs.States.{Mode, is_going, is_at_loop, going, at_loop, ended, trapped, Task, Range, Scope, State, id_cmp, root, innermost, innermost_of, child, main_id, opening_state, left}
use Rattle.gr_lang.specs.Steps.{step, of_task, if_going, set_task, goes_on, open_scope, new_scope, called, call_step, spawn_step, finish_step, loop_step, begin_in, begin_at, begin_step, pass_from, arrive_step, pass_step, end_step, trap_step, has_core, is_new}
use Rattle.gr_lang.proofs.TaskIds.{get_none}
use Rattle.gr_stands.specs.Worlds.{Given}
use Rattle.gr_scopes.specs.Trees.{Holder, holder_of, Rises}
use Rattle.gr_valid.proofs.Maps.{IsPut, found_put}
use Rattle.gr_valid.proofs.Scopes.{number_split, get_append, get_last, get_unset}
use Rattle.gr_valid.proofs.Inverts.{by_found, by_going, by_loop, tells_when}
use Rattle.gr_fits.specs.Reached.{IsReached}
use Rattle.gr_fits_scopes.specs.Scopes.{IsFinish, AreFinishes, without_loop}
use Rattle.gr_fits_scopes.specs.Laws as laws

-- ---- numbers in order

rises_more : (scope top higher : ℕ) (xs : List ℕ) → top ≤ higher → Rises scope top xs → Rises scope higher xs
rises_more scope top higher [] l h = let k : scope < top = h in omega (arith, l, k)
rises_more scope top higher (x ∷ xs) l h = (omega (arith, l, h.0), h.1)

low : (scope top : ℕ) (xs : List ℕ) → Rises scope top xs → scope < top
low scope top [] h = h
low scope top (x ∷ xs) h = omega (arith, low scope x xs h.1, h.0)

inner_low : (scope top : ℕ) (xs : List ℕ) → Rises scope top xs → innermost_of scope xs < top
inner_low scope top [] h = h
inner_low scope top (x ∷ xs) h = h.0

-- ---- scopes that are opened, and loops of which an index begins

-- There are as many scopes or more, and each finish is one still.
record Grows (xs ys : List Scope) : Type 0 where
  longer : length xs ≤ length ys
  keeps : (k : ℕ) → IsFinish xs k → IsFinish ys k

stay : (xs : List Scope) → Grows xs xs
stay xs = record { longer = omega arith; keeps = λ k h. h }

one_longer : (xs : List Scope) (y : Scope) → length (xs ++ y ∷ []) ≡ suc (length xs)
one_longer [] y = refl
one_longer (x ∷ xs) y = ap suc (one_longer xs y)

as_long : (xs : List Scope) (k : ℕ) (y : Scope) → length (slice_set xs k y) ≡ length xs
as_long [] k y = refl
as_long (x ∷ xs) zero y = refl
as_long (x ∷ xs) (suc k) y = ap suc (as_long xs k y)

one_more : (xs : List Scope) (y : Scope) → Grows xs (xs ++ y ∷ [])
one_more xs y = record {
  longer = omega (arith, one_longer xs y);
  keeps = λ k h. record { scope = h.scope; there = get_append xs (y ∷ []) k h.scope h.there; none = h.none };
}

-- A loop is no finish.
one_set : (xs : List Scope) (j : ℕ) (x y : Scope) (r : Range) → slice_get xs j ≡ Some x → x.range ≡ Some r → Grows xs (slice_set xs j y)
one_set xs j x y r there is = record { longer = omega (arith, as_long xs j y); keeps = λ k h. by k h (number_split k j) }
  where
    by : (k : ℕ) → IsFinish xs k → (k ≡ j) ⊎ (k ≢ j) → IsFinish (slice_set xs j y) k
    by k h (inl same) =
        let both : Some h.scope ≡ Some x = sym h.there ∙ ap (slice_get xs) same ∙ there in
        let scopes : h.scope ≡ x = cc in
        let no : None ≡ Some r = sym h.none ∙ ap (λ (z : Scope). z.range) scopes ∙ is in
        cc
    by k h (inr other) = record { scope = h.scope; there = get_unset xs j k y other ∙ h.there; none = h.none }

finishes_grow : (xs ys : List Scope) (ss : List ℕ) → Grows xs ys → AreFinishes xs ss → AreFinishes ys ss
finishes_grow xs ys [] g h = tt
finishes_grow xs ys (s ∷ ss) g h = (g.keeps s h.0, finishes_grow xs ys ss g h.1)

-- ---- tasks

record IsPlaced (xs : List Scope) (t : Task) : Type 0 where
  rises : Rises t.scope (length xs) t.opened
  finishes : AreFinishes xs (without_loop t.mode t.opened)

placed_grows : (xs ys : List Scope) (t : Task) → Grows xs ys → IsPlaced xs t → IsPlaced ys t
placed_grows xs ys t g h = record {
  rises = rises_more t.scope (length xs) (length ys) t.opened g.longer h.rises;
  finishes = finishes_grow xs ys (without_loop t.mode t.opened) g h.finishes;
}

-- All scopes of a task that is going are finishes; and all but the innermost, where it passes that.
pub all_of : (xs : List Scope) (m : Mode) (ss : List ℕ) → m ≡ going → AreFinishes xs (without_loop m ss) → AreFinishes xs ss
all_of xs going ss e h = h
all_of xs _ ss e h = cc

abbrev Tasks : Type 0
Tasks = FinMap id_cmp Task

abbrev All : List Scope → Tasks → Type 0
All xs tasks = (id : TaskId) (t : Task) → get tasks id ≡ Some t → IsPlaced xs t

abbrev Placed : State → Type 0
Placed S = All S.scopes S.tasks

put_in : (xs ys : List Scope) (tasks : Tasks) (id : TaskId) (u : Task) → Grows xs ys → All xs tasks → IsPlaced ys u → All ys (insert tasks id u)
put_in xs ys tasks id u g h k q v x = by (found_put tasks id q u v x)
  where
    by : IsPut tasks id u q v → IsPlaced ys v
    by (inl y) = subst (IsPlaced ys) y.1 k
    by (inr y) = placed_grows xs ys v g (h q v y.1)

sets : (S : State) (id : TaskId) (u : Task) → Placed S → IsPlaced S.scopes u → Placed (set_task S id u)
sets S id u h k = put_in S.scopes S.scopes S.tasks id u (stay S.scopes) h k

-- The task, going on with the same scopes in another mode than at its loop.
halted : (S : State) (t : Task) → IsPlaced S.scopes t → t.mode ≡ going → AreFinishes S.scopes t.opened
halted S t k m = all_of S.scopes t.mode t.opened m k.finishes

module _ (p : Program) (N L : ℕ) where
  goes : (S : State) (t : Task) (w : Reply) → IsPlaced S.scopes t → t.mode ≡ going → IsPlaced S.scopes (goes_on p L t w)
  goes S t w k m = record { rises = k.rises; finishes = halted S t k m }

  born : (S : State) (scope target : ℕ) (args : List ℕ) → scope < length S.scopes → IsPlaced S.scopes (child p L scope target args)
  born S scope target args l = record { rises = l; finishes = tt }

  -- A scope is opened.
  opens : (S : State) (id : TaskId) (t u : Task) (range : Option Range) → u.scope ≡ t.scope → Placed S → IsPlaced S.scopes t
      → AreFinishes (S.scopes ++ new_scope t id range ∷ []) (without_loop u.mode (length S.scopes ∷ t.opened)) → Placed (open_scope S id t u range)
  opens S id t u range own h k f = put_in S.scopes ys S.tasks id (record u { opened = length S.scopes ∷ t.opened }) (one_more S.scopes (new_scope t id range)) h (record { rises = (above, rising); finishes = f })
    where
      ys : List Scope
      ys = S.scopes ++ new_scope t id range ∷ []

      above : length S.scopes < length ys
      above = omega (arith, one_longer S.scopes (new_scope t id range))

      rising : Rises u.scope (length S.scopes) t.opened
      rising = subst (λ (s : ℕ). Rises s (length S.scopes) t.opened) (sym own) k.rises

  -- ---- each entry

  call_keeps : (S T : State) (id : TaskId) (t : Task) (op : Op) (w : Reply) → Placed S → IsPlaced S.scopes t → t.mode ≡ going → (x : Action) → call_step p L S id t x op w ≡ Some T → Placed T
  call_keeps S T id t op w h k m (a.Call due) s =
      subst Placed (tells_when (same_op due op && same_reply w (call op S.objects).1) (called p L S id t op w) T s).1 (sets S id (goes_on p L t w) h (goes S t w k m))
  call_keeps S T id t op w h k m _ s = cc

  spawn_keeps : (S T : State) (id : TaskId) (t : Task) (way : How) (target : ℕ) (args : List ℕ) (kid : TaskId) → Placed S → IsPlaced S.scopes t → t.mode ≡ going
      → (x : Action) → spawn_step p N L S id t x way target args kid ≡ Some T → Placed T
  spawn_keeps S T id t way2 target2 args2 kid h k m (a.Spawn way target args) s =
      let one : State = set_task S id (goes_on p L t nothing) in
      let new : Task = child p L (innermost t) target args in
      subst Placed (tells_when (same_how way way2 && (target == target2) && bytes_eq args args2 && has_core N way && is_new S kid) (set_task one kid new) T s).1
      (sets one kid new (sets S id (goes_on p L t nothing) h (goes S t nothing k m)) (born S (innermost t) target args (inner_low t.scope (length S.scopes) t.opened k.rises)))
  spawn_keeps S T id t way target args kid h k m _ s = cc

  finish_keeps : (S T : State) (id : TaskId) (t : Task) → Placed S → IsPlaced S.scopes t → t.mode ≡ going → (x : Action) → finish_step p L S id t x ≡ Some T → Placed T
  finish_keeps S T id t h k m a.Finish s =
      let new : Scope = new_scope t id None in
      let same : open_scope S id t (goes_on p L t nothing) None ≡ T = cc in
      subst Placed same (opens S id t (goes_on p L t nothing) None refl h k
      (record { scope = new; there = get_last S.scopes new; none = refl }, finishes_grow S.scopes (S.scopes ++ new ∷ []) t.opened (one_more S.scopes new) (halted S t k m)))
  finish_keeps S T id t h k m _ s = cc

  loop_keeps : (S T : State) (id : TaskId) (t : Task) (lo hi grain target : ℕ) (args : List ℕ) → Placed S → IsPlaced S.scopes t → t.mode ≡ going
      → (x : Action) → loop_step S id t x lo hi grain target args ≡ Some T → Placed T
  loop_keeps S T id t lo2 hi2 grain2 target2 args2 h k m (a.Loop lo hi grain target args) s =
      let range : Option Range = Some (record { lo = lo; hi = hi; target = target; args = args; begun = set.empty }) in
      let new : Scope = new_scope t id range in
      subst Placed (tells_when (lo == lo2 && hi == hi2 && grain == grain2 && target == target2 && bytes_eq args args2) (open_scope S id t (record t { mode = at_loop }) range) T s).1
      (opens S id t (record t { mode = at_loop }) range refl h k (finishes_grow S.scopes (S.scopes ++ new ∷ []) t.opened (one_more S.scopes new) (halted S t k m)))
  loop_keeps S T id t lo hi grain target args h k m _ s = cc

  begin_in_keeps : (S T : State) (owner : TaskId) (place index : ℕ) (kid : TaskId) (scope : Scope) (range : Option Range) → slice_get S.scopes place ≡ Some scope → scope.range ≡ range → Placed S
      → begin_in p L S owner place index kid scope range ≡ Some T → Placed T
  begin_in_keeps S T owner place index kid scope None there is h s = cc
  begin_in_keeps S T owner place index kid scope (Some r) there is h s =
      let new : Task = child p L place r.target (index ∷ r.args) in
      let begun : Scope = record scope { range = Some (record r { begun = set.insert r.begun index }) } in
      let ys : List Scope = slice_set S.scopes place begun in
      let inside : place < length ys = omega (arith, as_long S.scopes place begun, slice_get_within S.scopes place scope there) in
      subst Placed (tells_when (nat_le r.lo index && nat_lt index r.hi && not (set.contains r.begun index) && is_new S kid) (record (set_task S kid new) { scopes = ys }) T s).1
      (put_in S.scopes ys S.tasks kid new (one_set S.scopes place scope begun r there is) h (record { rises = inside; finishes = tt }))

  begin_at_keeps : (S T : State) (owner : TaskId) (index : ℕ) (kid : TaskId) (ss : List ℕ) → Placed S → begin_at p L S owner index kid ss ≡ Some T → Placed T
  begin_at_keeps S T owner index kid [] h s = cc
  begin_at_keeps S T owner index kid (place ∷ ss) h s =
      let f = by_found (slice_get S.scopes place) (λ scope. begin_in p L S owner place index kid scope scope.range) T s in
      begin_in_keeps S T owner place index kid f.0 f.0.range f.1 refl h f.2

  -- The task passes the innermost of its scopes.
  pass_from_keeps : (S T : State) (id : TaskId) (t : Task) (ss : List ℕ) → Placed S → Rises t.scope (length S.scopes) ss → AreFinishes S.scopes (drop 1 ss) → pass_from p L S id t ss ≡ Some T → Placed T
  pass_from_keeps S T id t [] h r f s = cc
  pass_from_keeps S T id t (place ∷ ss) h r f s =
      let u : Task = record (goes_on p L t nothing) { opened = ss } in
      subst Placed (tells_when (not (left S place)) (set_task S id u) T s).1
      (sets S id u h (record { rises = rises_more t.scope place (length S.scopes) ss (omega (arith, r.0)) r.1; finishes = f }))

  -- All finishes but the first are finishes.
  dropped : (xs : List Scope) (ss : List ℕ) → AreFinishes xs ss → AreFinishes xs (drop 1 ss)
  dropped xs [] h = tt
  dropped xs (s ∷ ss) h = h.1

  arrive_keeps : (S T : State) (id : TaskId) (t : Task) (x : Action) → Placed S → IsPlaced S.scopes t → t.mode ≡ going → arrive_step p L S id t x ≡ Some T → Placed T
  arrive_keeps S T id t a.Arrive h k m s = pass_from_keeps S T id t t.opened h k.rises (dropped S.scopes t.opened (halted S t k m)) s
  arrive_keeps S T id t _ h k m s = cc

  looped : (xs : List Scope) (m : Mode) (ss : List ℕ) → m ≡ at_loop → AreFinishes xs (without_loop m ss) → AreFinishes xs (drop 1 ss)
  looped xs at_loop ss e h = h
  looped xs _ ss e h = cc

  pass_keeps : (S T : State) (id : TaskId) (t : Task) → Placed S → IsPlaced S.scopes t → pass_step p L S id t ≡ Some T → Placed T
  pass_keeps S T id t h k s = by t.mode refl s
    where
      by : (m : Mode) → t.mode ≡ m → (if is_at_loop m then pass_from p L S id t t.opened else (if is_going m then arrive_step p L S id t t.action else None)) ≡ Some T → Placed T
      by at_loop m s = pass_from_keeps S T id t t.opened h k.rises (looped S.scopes t.mode t.opened m k.finishes) s
      by going m s = arrive_keeps S T id t t.action h k m s
      by _ m s = cc

  end_keeps : (S T : State) (id : TaskId) (t : Task) → Placed S → IsPlaced S.scopes t → t.mode ≡ going → (x : Action) → end_step S id t x ≡ Some T → Placed T
  end_keeps S T id t h k m a.End s =
      let same : set_task S id (record t { mode = ended }) ≡ T = cc in
      subst Placed same (sets S id (record t { mode = ended }) h (record { rises = k.rises; finishes = halted S t k m }))
  end_keeps S T id t h k m _ s = cc

  trap_keeps : (S T : State) (id : TaskId) (t : Task) (kind : TrapKind) → Placed S → IsPlaced S.scopes t → t.mode ≡ going → (x : Action) → trap_step N S id t x kind ≡ Some T → Placed T
  trap_keeps S T id t kind h k m (a.Trap due) s =
      subst Placed (tells_when (same_trap due kind) (set_task S id (record t { mode = trapped })) T s).1 (sets S id (record t { mode = trapped }) h (record { rises = k.rises; finishes = halted S t k m }))
  trap_keeps S T id t trap.Core h k m (a.Spawn way target args) s =
      subst Placed (tells_when (not (has_core N way)) (set_task S id (record t { mode = trapped })) T s).1 (sets S id (record t { mode = trapped }) h (record { rises = k.rises; finishes = halted S t k m }))
  trap_keeps S T id t kind h k m _ s = cc

  -- ---- steps and histories

  by_task : (S T : State) (id : TaskId) (f : Task → Option State) → ((t : Task) → get S.tasks id ≡ Some t → t.mode ≡ going → f t ≡ Some T → Placed T) → of_task S id (if_going f) ≡ Some T → Placed T
  by_task S T id f h s =
      let k = by_found (get S.tasks id) (if_going f) T s in
      let m = by_going k.0.mode (f k.0) T k.2 in
      h k.0 k.1 m.0 m.1

  step_keeps : (S T : State) (x : Entry) → Placed S → step p N L S x ≡ Some T → Placed T
  step_keeps S T (e.Call id op w) h s = by_task S T id (λ t. call_step p L S id t t.action op w) (λ t at m k. call_keeps S T id t op w h (h id t at) m t.action k) s
  step_keeps S T (e.Spawn id way target args kid) h s =
      by_task S T id (λ t. spawn_step p N L S id t t.action way target args kid) (λ t at m k. spawn_keeps S T id t way target args kid h (h id t at) m t.action k) s
  step_keeps S T (e.Finish id) h s = by_task S T id (λ t. finish_step p L S id t t.action) (λ t at m k. finish_keeps S T id t h (h id t at) m t.action k) s
  step_keeps S T (e.Loop id lo hi grain target args) h s =
      by_task S T id (λ t. loop_step S id t t.action lo hi grain target args) (λ t at m k. loop_keeps S T id t lo hi grain target args h (h id t at) m t.action k) s
  step_keeps S T (e.Begin owner index kid) h s =
      let k = by_found (get S.tasks owner) (λ t. begin_step p L S owner t index kid) T s in begin_at_keeps S T owner index kid k.0.opened h (by_loop k.0.mode _ T k.2).1
  step_keeps S T (e.Pass id) h s = let k = by_found (get S.tasks id) (λ t. pass_step p L S id t) T s in pass_keeps S T id k.0 h (h id k.0 k.1) k.2
  step_keeps S T (e.End id) h s = by_task S T id (λ t. end_step S id t t.action) (λ t at m k. end_keeps S T id t h (h id t at) m t.action k) s
  step_keeps S T (e.Trap id kind) h s = by_task S T id (λ t. trap_step N S id t t.action kind) (λ t at m k. trap_keeps S T id t kind h (h id t at) m t.action k) s
  step_keeps S T e.Over h s = subst Placed (tells_when (not S.passed && not (left S 0)) (record S { passed = true }) T s).1 h

  stays : (S T : State) (h : List Entry) → Placed S → after p N L S h ≡ Some T → Placed T
  stays S T [] k s = let same : S ≡ T = cc in subst Placed same k
  stays S T (x ∷ xs) k s =
      let f = by_found (step p N L S x) (λ U. after p N L U xs) T s in
      stays f.0 T xs (step_keeps S f.0 x k f.1) f.2

  starts : Placed (opening_state p L)
  starts = put_in (root ∷ []) (root ∷ []) empty main_id (child p L 0 (target_of p (codes "main")) []) (stay (root ∷ [])) (λ id t x. none id t x) (record { rises = omega arith; finishes = tt })
    where
      none : (id : TaskId) (t : Task) → get (empty {X = Task} {R = id_cmp}) id ≡ Some t → IsPlaced (root ∷ []) t
      none id t x = let k : None ≡ Some t = sym (get_none id) ∙ x in cc

placed : (given : Given) (state : State) → IsReached given state → Placed state
placed given state reached =
    stays given.program given.setup.cores given.setup.steps (opening_state given.program given.setup.steps) state reached.history (starts given.program given.setup.cores given.setup.steps) reached.leads

-- ---- the laws

pub opened_rise : laws.OpenedScopesRise
opened_rise given state id task reached there = (placed given state reached id task there).rises

pub holders_rise : laws.HoldersRise
holders_rise given state reached id scope opened held = by (get state.tasks id) refl held
  where
    by : (o : Option Task) → get state.tasks id ≡ o → holder_of o ≡ Some (record { scope = scope; opened = opened }) → Rises scope (length state.scopes) opened
    by None at h = cc
    by (Some t) at h =
        let its : Holder = record { scope = t.scope; opened = t.opened } in
        let same : its ≡ record { scope = scope; opened = opened } = cc in
        subst (λ (x : Holder). Rises x.scope (length state.scopes) x.opened) same (placed given state reached id t at).rises

pub innermost_there : laws.InnermostScopesAreThere
innermost_there given state reached id task number outer there opened =
    let rises : Rises task.scope (length state.scopes) (number ∷ outer) = subst (Rises task.scope (length state.scopes)) opened (placed given state reached id task there).rises in
    rises.0

pub tasks_stand : laws.TasksStandInScopes
tasks_stand given state reached id task there = low task.scope (length state.scopes) task.opened (placed given state reached id task there).rises

pub outer_finishes : laws.OuterScopesAreFinishes
outer_finishes given state id task reached there = (placed given state reached id task there).finishes
