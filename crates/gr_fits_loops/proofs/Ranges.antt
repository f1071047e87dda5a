-- The ranges of loops: each step keeps that they fit.
use Rattle.std.proofs.Common.{◌≡◌, ◌⊎◌, ℕ, zero, suc, ◌==◌, Bool, true, false, ◌&&◌, ◌||◌, List, [], ◌∷◌, ◌++◌, length, inl, inr, Option, Some, None, refl, sym, ◌∙◌, ap, subst, bytes_eq}
use Rattle.std.specs.Prelude.{if◌then◌else◌, not, nat_le, nat_lt, slice_get, slice_set}
use Rattle.std.specs.FinMap.{get}
use Rattle.std.specs.FinSet as set
use Rattle.std.specs.Ordering.{nat_cmp, eq_by_cmp}
use Rattle.std.specs.Cmp.{nat_cmp_total}
use Rattle.std.proofs.lemmas.Map.Views.{tells_apart}
use Rattle.std.proofs.lemmas.Map.Lookups.{exact_unsigned}
use Rattle.std.proofs.lemmas.Bool.{and_parts}
use Rattle.gr_syntax.specs.declared.syntax.Program.{Program}
use Rattle.gr_lang.specs.declared.action.Action.{Action}
use Rattle.gr_lang.specs.declared.action.Action.TheVariants as a
use Rattle.gr_lang.specs.declared.action.Entry.{Entry}
use Rattle.gr_lang.specs.declared.action.Entry.TheVariants as e
use Rattle.gr_lang.specs.declared.action.How.{How}
use Rattle.gr_lang.specs.declared.action.Op.{Op}
use Rattle.gr_lang.specs.declared.action.Reply.{Reply}
use Rattle.gr_lang.specs.declared.action.TaskId.{TaskId}
use Rattle.gr_lang.specs.declared.action.TrapKind.{TrapKind}
use Rattle.gr_lang.specs.declared.action.TrapKind.TheVariants as trap
use Rattle.gr_lang.specs.Fields.{same_how, same_reply, same_trap}
use Rattle.gr_lang.specs.Parts.{same_op}
use Rattle.gr_lang.specs.Histories.{after}
use Rattle.gr_lang.specs.Objects.{call}
use Rattle.gr_lang.specs.Effects.{nothing}
use Rattle.gr_lang.specs.States.{Mode, is_going, is_at_loop, going, at_loop, ended, trapped, Task, Range, Scope, State, root, innermost, child, opening_state, left}
use Rattle.gr_lang.specs.Steps.{step, of_task, if_going, set_task, goes_on, open_scope, new_scope, called, call_step, spawn_step, finish_step, loop_step, begin_in, begin_at, begin_step, pass_from, arrive_step, pass_step, end_step, trap_step, has_core, is_new}
use Rattle.gr_machine.specs.Machines.{Machine}
use Rattle.gr_stands.specs.Worlds.{Given, machine_in}
use Rattle.gr_stands.specs.Actions.{ActionFits, ActionsFit}
use Rattle.gr_valid.proofs.Scopes.{found_append}
use Rattle.gr_valid.proofs.Inverts.{by_found, by_going, by_loop, tells_when}
use Rattle.gr_fits.specs.Reached.{IsReached, RunsAccepted}
use Rattle.gr_fits.proofs.Reached.{openings_reached, steps_reach, states_fit}
use Rattle.gr_fits_loops.specs.Ranges.{RangeFits}
use Rattle.gr_fits_loops.specs.Laws as laws

-- What is found after one was set: that one, or what stood there before.
found_set : (xs : List Scope) (k : ℕ) (y : Scope) (j : ℕ) (x : Scope) → slice_get (slice_set xs k y) j ≡ Some x → (y ≡ x) ⊎ (slice_get xs j ≡ Some x)
found_set [] k y j x h = cc
found_set (z ∷ xs) zero y zero x h = let same : y ≡ x = cc in inl same
found_set (z ∷ xs) zero y (suc j) x h = inr h
found_set (z ∷ xs) (suc k) y zero x h = inr h
found_set (z ∷ xs) (suc k) y (suc j) x h = found_set xs k y j x h

module _ (given : Given) where
  abbrev m : Machine
  m = machine_in given

  abbrev p : Program
  p = given.program

  abbrev N : ℕ
  N = given.setup.cores

  abbrev L : ℕ
  L = given.setup.steps

  -- The scope's range fits, if it has one; and so do those of all.
  abbrev ScopeFits : Scope → Type 0
  ScopeFits x = (r : Range) → x.range ≡ Some r → RangeFits m r

  abbrev Fit : List Scope → Type 0
  Fit xs = (k : ℕ) (x : Scope) (r : Range) → slice_get xs k ≡ Some x → x.range ≡ Some r → RangeFits m r

  one_more : (xs : List Scope) (y : Scope) → Fit xs → ScopeFits y → Fit (xs ++ y ∷ [])
  one_more xs y f g k x r h q = by (found_append xs y k x h)
    where
      by : ((k ≡ length xs) × (y ≡ x)) ⊎ (slice_get xs k ≡ Some x) → RangeFits m r
      by (inl e) = g r (ap (λ (z : Scope). z.range) e.1 ∙ q)
      by (inr e) = f k x r e q

  one_set : (xs : List Scope) (j : ℕ) (y : Scope) → Fit xs → ScopeFits y → Fit (slice_set xs j y)
  one_set xs j y f g k x r h q = by (found_set xs j y k x h)
    where
      by : (y ≡ x) ⊎ (slice_get xs k ≡ Some x) → RangeFits m r
      by (inl e) = g r (ap (λ (z : Scope). z.range) e ∙ q)
      by (inr e) = f k x r e q

  -- The same scopes.
  still : (U T : State) → U ≡ T → Fit U.scopes → Fit T.scopes
  still U T e f = subst (λ (V : State). Fit V.scopes) e f

  -- ---- each entry

  call_keeps : (S T : State) (id : TaskId) (t : Task) (op : Op) (w : Reply) (x : Action) → Fit S.scopes → call_step p L S id t x op w ≡ Some T → Fit T.scopes
  call_keeps S T id t op w (a.Call due) f s = still (called p L S id t op w) T (tells_when (same_op due op && same_reply w (call op S.objects).1) (called p L S id t op w) T s).1 f
  call_keeps S T id t op w _ f s = cc

  spawn_keeps : (S T : State) (id : TaskId) (t : Task) (way : How) (target : ℕ) (args : List ℕ) (kid : TaskId) (x : Action) → Fit S.scopes
      → spawn_step p N L S id t x way target args kid ≡ Some T → Fit T.scopes
  spawn_keeps S T id t way2 target2 args2 kid (a.Spawn way target args) f s =
      let after : State = set_task (set_task S id (goes_on p L t nothing)) kid (child p L (innermost t) target args) in
      still after T (tells_when (same_how way way2 && (target == target2) && bytes_eq args args2 && has_core N way && is_new S kid) after T s).1 f
  spawn_keeps S T id t way target args kid _ f s = cc

  finish_keeps : (S T : State) (id : TaskId) (t : Task) (x : Action) → Fit S.scopes → finish_step p L S id t x ≡ Some T → Fit T.scopes
  finish_keeps S T id t a.Finish f s =
      let same : open_scope S id t (goes_on p L t nothing) None ≡ T = cc in
      still (open_scope S id t (goes_on p L t nothing) None) T same (one_more S.scopes (new_scope t id None) f (λ r q. cc))
  finish_keeps S T id t _ f s = cc

  loop_keeps : (S T : State) (id : TaskId) (t : Task) (lo hi grain target : ℕ) (args : List ℕ) (x : Action) → ActionFits m x → Fit S.scopes
      → loop_step S id t x lo hi grain target args ≡ Some T → Fit T.scopes
  loop_keeps S T id t lo2 hi2 grain2 target2 args2 (a.Loop lo hi grain target args) g f s =
      let range : Range = record { lo = lo; hi = hi; target = target; args = args; begun = set.empty } in
      let after : State = open_scope S id t (record t { mode = at_loop }) (Some range) in
      still after T (tells_when (lo == lo2 && hi == hi2 && grain == grain2 && target == target2 && bytes_eq args args2) after T s).1
      (one_more S.scopes (new_scope t id (Some range)) f (λ r q. let same : range ≡ r = cc in subst (RangeFits m) same (record { known = g.0; inside = λ i h. none i h })))
    where
      none : (i : ℕ) → set.contains (set.empty {R = nat_cmp}) i ≡ true → (nat_le lo i && nat_lt i hi) ≡ true
      none i h = let no : false ≡ true = sym (set.contains-empty nat_cmp i) ∙ h in cc
  loop_keeps S T id t lo hi grain target args _ g f s = cc

  begin_in_keeps : (S T : State) (owner : TaskId) (place index : ℕ) (kid : TaskId) (scope : Scope) (range : Option Range) → slice_get S.scopes place ≡ Some scope → scope.range ≡ range → Fit S.scopes
      → begin_in p L S owner place index kid scope range ≡ Some T → Fit T.scopes
  begin_in_keeps S T owner place index kid scope None there is f s = cc
  begin_in_keeps S T owner place index kid scope (Some r) there is f s =
      let t = tells_when (nat_le r.lo index && nat_lt index r.hi && not (set.contains r.begun index) && is_new S kid) _ T s in
      let within : (nat_le r.lo index && nat_lt index r.hi) ≡ true = (and_parts _ _ (and_parts _ _ t.0).0).0 in
      let before : RangeFits m r = f place scope r there is in
      let new : Range = record r { begun = set.insert r.begun index } in
      still _ T t.1 (one_set S.scopes place (record scope { range = Some new }) f (λ q k. let same : new ≡ q = cc in subst (RangeFits m) same (record { known = before.known; inside = λ i h. wider i within before.inside h })))
    where
      either : (i : ℕ) (b : Bool) → eq_by_cmp nat_cmp i index ≡ b → (nat_le r.lo index && nat_lt index r.hi) ≡ true → (set.contains r.begun i ≡ true → (nat_le r.lo i && nat_lt i r.hi) ≡ true)
          → (b || set.contains r.begun i) ≡ true → (nat_le r.lo i && nat_lt i r.hi) ≡ true
      either i true e w g h = subst (λ (j : ℕ). (nat_le r.lo j && nat_lt j r.hi) ≡ true) (sym (tells_apart exact_unsigned i index e)) w
      either i false e w g h = g h

      wider : (i : ℕ) → (nat_le r.lo index && nat_lt index r.hi) ≡ true → ((j : ℕ) → set.contains r.begun j ≡ true → (nat_le r.lo j && nat_lt j r.hi) ≡ true)
          → set.contains (set.insert r.begun index) i ≡ true → (nat_le r.lo i && nat_lt i r.hi) ≡ true
      wider i w g h = either i (eq_by_cmp nat_cmp i index) refl w (g i) (sym (set.contains-insert nat_cmp_total r.begun index i) ∙ h)

  begin_at_keeps : (S T : State) (owner : TaskId) (index : ℕ) (kid : TaskId) (ss : List ℕ) → Fit S.scopes → begin_at p L S owner index kid ss ≡ Some T → Fit T.scopes
  begin_at_keeps S T owner index kid [] f s = cc
  begin_at_keeps S T owner index kid (place ∷ ss) f s =
      let k = by_found (slice_get S.scopes place) (λ scope. begin_in p L S owner place index kid scope scope.range) T s in
      begin_in_keeps S T owner place index kid k.0 k.0.range k.1 refl f k.2

  pass_from_keeps : (S T : State) (id : TaskId) (t : Task) (ss : List ℕ) → Fit S.scopes → pass_from p L S id t ss ≡ Some T → Fit T.scopes
  pass_from_keeps S T id t [] f s = cc
  pass_from_keeps S T id t (place ∷ ss) f s = still _ T (tells_when (not (left S place)) _ T s).1 f

  arrive_keeps : (S T : State) (id : TaskId) (t : Task) (x : Action) → Fit S.scopes → arrive_step p L S id t x ≡ Some T → Fit T.scopes
  arrive_keeps S T id t a.Arrive f s = pass_from_keeps S T id t t.opened f s
  arrive_keeps S T id t _ f s = cc

  pass_keeps : (S T : State) (id : TaskId) (t : Task) → Fit S.scopes → pass_step p L S id t ≡ Some T → Fit T.scopes
  pass_keeps S T id t f s = by t.mode s
    where
      by : (w : Mode) → (if is_at_loop w then pass_from p L S id t t.opened else (if is_going w then arrive_step p L S id t t.action else None)) ≡ Some T → Fit T.scopes
      by at_loop s = pass_from_keeps S T id t t.opened f s
      by going s = arrive_keeps S T id t t.action f s
      by _ s = cc

  end_keeps : (S T : State) (id : TaskId) (t : Task) (x : Action) → Fit S.scopes → end_step S id t x ≡ Some T → Fit T.scopes
  end_keeps S T id t a.End f s = let same : set_task S id (record t { mode = ended }) ≡ T = cc in still (set_task S id (record t { mode = ended })) T same f
  end_keeps S T id t _ f s = cc

  trap_keeps : (S T : State) (id : TaskId) (t : Task) (kind : TrapKind) (x : Action) → Fit S.scopes → trap_step N S id t x kind ≡ Some T → Fit T.scopes
  trap_keeps S T id t kind (a.Trap due) f s = still (set_task S id (record t { mode = trapped })) T (tells_when (same_trap due kind) _ T s).1 f
  trap_keeps S T id t trap.Core (a.Spawn way target args) f s = still (set_task S id (record t { mode = trapped })) T (tells_when (not (has_core N way)) _ T s).1 f
  trap_keeps S T id t kind _ f s = cc

  -- ---- steps and histories

  by_task : (S T : State) (id : TaskId) (f : Task → Option State) → ((t : Task) → get S.tasks id ≡ Some t → f t ≡ Some T → Fit T.scopes) → of_task S id (if_going f) ≡ Some T → Fit T.scopes
  by_task S T id f h s =
      let k = by_found (get S.tasks id) (if_going f) T s in
      h k.0 k.1 (by_going k.0.mode (f k.0) T k.2).1

  step_keeps : (S T : State) (x : Entry) → ActionsFit given S → Fit S.scopes → step p N L S x ≡ Some T → Fit T.scopes
  step_keeps S T (e.Call id op w) g f s = by_task S T id (λ t. call_step p L S id t t.action op w) (λ t at k. call_keeps S T id t op w t.action f k) s
  step_keeps S T (e.Spawn id way target args kid) g f s = by_task S T id (λ t. spawn_step p N L S id t t.action way target args kid) (λ t at k. spawn_keeps S T id t way target args kid t.action f k) s
  step_keeps S T (e.Finish id) g f s = by_task S T id (λ t. finish_step p L S id t t.action) (λ t at k. finish_keeps S T id t t.action f k) s
  step_keeps S T (e.Loop id lo hi grain target args) g f s =
      by_task S T id (λ t. loop_step S id t t.action lo hi grain target args) (λ t at k. loop_keeps S T id t lo hi grain target args t.action (g id t at) f k) s
  step_keeps S T (e.Begin owner index kid) g f s =
      let k = by_found (get S.tasks owner) (λ t. begin_step p L S owner t index kid) T s in begin_at_keeps S T owner index kid k.0.opened f (by_loop k.0.mode _ T k.2).1
  step_keeps S T (e.Pass id) g f s = let k = by_found (get S.tasks id) (λ t. pass_step p L S id t) T s in pass_keeps S T id k.0 f k.2
  step_keeps S T (e.End id) g f s = by_task S T id (λ t. end_step S id t t.action) (λ t at k. end_keeps S T id t t.action f k) s
  step_keeps S T (e.Trap id kind) g f s = by_task S T id (λ t. trap_step N S id t t.action kind) (λ t at k. trap_keeps S T id t kind t.action f k) s
  step_keeps S T e.Over g f s = still (record S { passed = true }) T (tells_when (not S.passed && not (left S 0)) (record S { passed = true }) T s).1 f

  opens : Fit (root ∷ [])
  opens zero x r h q = let no : None ≡ Some r = ap (λ (z : Scope). z.range) (is_root h) ∙ q in cc
    where
      is_root : Some root ≡ Some x → root ≡ x
      is_root h = cc
  opens (suc k) x r h q = cc

  stays : (S T : State) (h : List Entry) → RunsAccepted given → IsReached given S → Fit S.scopes → after p N L S h ≡ Some T → Fit T.scopes
  stays S T [] runs reached f s = let same : S ≡ T = cc in still S T same f
  stays S T (x ∷ xs) runs reached f s =
      let k = by_found (step p N L S x) (λ U. after p N L U xs) T s in
      stays k.0 T xs runs (steps_reach given S k.0 x reached k.1) (step_keeps S k.0 x (states_fit given S runs reached) f k.1) k.2

pub ranges_fit : laws.ReachedRangesFit
ranges_fit given state runs reached = stays given (opening_state given.program given.setup.steps) state reached.history runs (openings_reached given) (opens given) reached.leads
