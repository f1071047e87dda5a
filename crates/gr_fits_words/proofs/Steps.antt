-- Each step keeps that all words of the state are words.
use Rattle.std.proofs.Common.{◌≡◌, ◌⊎◌, ℕ, zero, suc, ◌==◌, Bool, true, false, ◌&&◌, ◌<◌, List, [], ◌∷◌, ◌++◌, length, inl, inr, Option, Some, None, refl, sym, ◌∙◌, ap, subst, arith, bytes_eq}
use Rattle.std.specs.Prelude.{if◌then◌else◌, not, nat_le, nat_lt, slice_get, slice_set}
use Rattle.std.specs.FinMap.{FinMap, get, insert}
use Rattle.std.specs.FinSet as set
use Rattle.std.proofs.lemmas.Bool.Decides.{nat_tests}
use Rattle.gr_syntax.specs.declared.syntax.Program.{Program}
use Rattle.gr_lang.specs.declared.action.Action.{Action}
use Rattle.gr_lang.specs.declared.action.Action.TheVariants as a
use Rattle.gr_lang.specs.declared.action.Entry.{Entry}
use Rattle.gr_lang.specs.declared.action.Entry.TheVariants as e
use Rattle.gr_lang.specs.declared.action.How.{How}
use Rattle.gr_lang.specs.declared.action.Op.{Op}
use Rattle.gr_lang.specs.declared.action.Reply.{Reply}
use Rattle.gr_lang.specs.declared.action.TaskId.{TaskId}
use Rattle.gr_lang.specs.declared.action.TrapKind.{TrapKind}
use Rattle.gr_lang.specs.declared.action.TrapKind.TheVariants as trap
use Rattle.gr_lang.specs.Fields.{same_how, same_reply, same_trap}
use Rattle.gr_lang.specs.Parts.{same_op}
use Rattle.gr_lang.specs.Histories.{after}
use Rattle.gr_lang.specs.Objects.{call}
use Rattle.gr_lang.specs.Effects.{nothing}
use Rattle.gr_lang.specs.Next.{go_on, start}
use Rattle.gr_lang.specs.States.{Mode, is_going, is_at_loop, going, at_loop, ended, trapped, Task, Range, Scope, State, id_cmp, innermost, child, left}
use Rattle.gr_lang.specs.Steps.{step, of_task, if_going, set_task, goes_on, open_scope, new_scope, called, call_step, spawn_step, finish_step, loop_step, begin_in, begin_at, begin_step, pass_from, arrive_step, pass_step, end_step, trap_step, has_core, is_new}
use Rattle.gr_lang.proofs.Operations.{op_is}
use Rattle.gr_valid.proofs.Maps.{IsPut, found_put}
use Rattle.gr_valid.proofs.Scopes.{found_append}
use Rattle.gr_valid.proofs.Inverts.{by_found, by_going, by_loop, tells_when}
use Rattle.gr_net.specs.Sums.{Each}
use Rattle.gr_fits_words.specs.Literals.{LiteralsFit}
use Rattle.gr_fits_words.specs.Words.{IsWord, ActionHasWords, CallHasWords, ReplyHasWords, StandHasWords, RangeHasWords, WordsFit}
use Rattle.gr_fits_words.proofs.Numbers.{both}
use Rattle.gr_fits_words.proofs.Calls.{calls_keep, none_replied}
use Rattle.gr_fits_words.proofs.Looks.{next_words, goes_on_words}
use Rattle.gr_fits_words.proofs.Starts.{start_words}

-- What is found after one was set: that one, or what stood there before.
found_set : (xs : List Scope) (k : ℕ) (y : Scope) (j : ℕ) (x : Scope) → slice_get (slice_set xs k y) j ≡ Some x → (y ≡ x) ⊎ (slice_get xs j ≡ Some x)
found_set [] k y j x h = cc
found_set (z ∷ xs) zero y zero x h = let same : y ≡ x = cc in inl same
found_set (z ∷ xs) zero y (suc j) x h = inr h
found_set (z ∷ xs) (suc k) y zero x h = inr h
found_set (z ∷ xs) (suc k) y (suc j) x h = found_set xs k y j x h

-- Replies that are the same have the same words.
same_replied : (w v : Reply) → same_reply w v ≡ true → ReplyHasWords v → ReplyHasWords w
same_replied w v e h = let k = both (w.first == v.first) (w.second == v.second) e in (its w.first v.first k.0 h.0, its w.second v.second k.1 h.1)
  where
    its : (x y : ℕ) → (x == y) ≡ true → IsWord y → IsWord x
    its x y e h = subst IsWord (sym (equal x y e)) h
      where
        equal : (x y : ℕ) → (x == y) ≡ true → x ≡ y
        equal x y e = grind (arith, nat_tests, e)

-- The second of four tests that hold.
second : (b c d f : Bool) → (b && c && d && f) ≡ true → c ≡ true
second true true d f h = refl
second true false d f h = cc
second false c d f h = cc

-- A number below a word is one.
below_word : (n w : ℕ) → nat_lt n w ≡ true → IsWord w → IsWord n
below_word n w e h = less (lower n w e)
  where
    lower : (n w : ℕ) → nat_lt n w ≡ true → n < w
    lower n w e = grind (arith, nat_tests, e)

    less : n < w → IsWord n
    less l = omega (arith, l, h)

abbrev pub Tasks : Type 0
Tasks = FinMap id_cmp Task

abbrev pub StandsWell : Task → Type 0
StandsWell t = StandHasWords t.action t.running

abbrev pub AllStand : Tasks → Type 0
AllStand tasks = (id : TaskId) (t : Task) → get tasks id ≡ Some t → StandsWell t

abbrev ScopeFits : Scope → Type 0
ScopeFits x = (r : Range) → x.range ≡ Some r → RangeHasWords r

abbrev pub Ranges : List Scope → Type 0
Ranges xs = (k : ℕ) (x : Scope) (r : Range) → slice_get xs k ≡ Some x → x.range ≡ Some r → RangeHasWords r

pub put_in : (tasks : Tasks) (id : TaskId) (u : Task) → AllStand tasks → StandsWell u → AllStand (insert tasks id u)
put_in tasks id u h k q v x = by (found_put tasks id q u v x)
  where
    by : IsPut tasks id u q v → StandsWell v
    by (inl y) = subst StandsWell y.1 k
    by (inr y) = h q v y.1

one_more : (xs : List Scope) (y : Scope) → Ranges xs → ScopeFits y → Ranges (xs ++ y ∷ [])
one_more xs y f g k x r h q = by (found_append xs y k x h)
  where
    by : ((k ≡ length xs) × (y ≡ x)) ⊎ (slice_get xs k ≡ Some x) → RangeHasWords r
    by (inl e) = g r (ap (λ (z : Scope). z.range) e.1 ∙ q)
    by (inr e) = f k x r e q

one_set : (xs : List Scope) (j : ℕ) (y : Scope) → Ranges xs → ScopeFits y → Ranges (slice_set xs j y)
one_set xs j y f g k x r h q = by (found_set xs j y k x h)
  where
    by : (y ≡ x) ⊎ (slice_get xs k ≡ Some x) → RangeHasWords r
    by (inl e) = g r (ap (λ (z : Scope). z.range) e ∙ q)
    by (inr e) = f k x r e q

sets : (S : State) (id : TaskId) (u : Task) → WordsFit S → StandsWell u → WordsFit (set_task S id u)
sets S id u h k = record { objects = h.objects; tasks = put_in S.tasks id u h.tasks k; ranges = h.ranges }

module _ (p : Program) (N L : ℕ) (literals : LiteralsFit p) where
  goes : (t : Task) (w : Reply) → StandsWell t → ReplyHasWords w → StandsWell (goes_on p L t w)
  goes t w h k = next_words p L (go_on t.running w) (goes_on_words t.running w h.running k)

  pub born : (scope target : ℕ) (args : List ℕ) → Each IsWord args → StandsWell (child p L scope target args)
  born scope target args h = next_words p L (start p target args) (start_words p target args literals h)

  opens : (S : State) (id : TaskId) (t u : Task) (range : Option Range) → WordsFit S → StandsWell u → ((r : Range) → range ≡ Some r → RangeHasWords r) → WordsFit (open_scope S id t u range)
  opens S id t u range h k g = record {
    objects = h.objects;
    tasks = put_in S.tasks id (record u { opened = length S.scopes ∷ t.opened }) h.tasks (record { action = k.action; running = k.running });
    ranges = one_more S.scopes (new_scope t id range) h.ranges g;
  }

  -- ---- each entry

  call_keeps : (S T : State) (id : TaskId) (t : Task) (op : Op) (w : Reply) (x : Action) → WordsFit S → StandsWell t → t.action ≡ x → call_step p L S id t x op w ≡ Some T → WordsFit T
  call_keeps S T id t op w (a.Call due) h k at s =
      let m = tells_when (same_op due op && same_reply w (call op S.objects).1) (called p L S id t op w) T s in
      let tests = both (same_op due op) (same_reply w (call op S.objects).1) m.0 in
      let its : CallHasWords due = subst ActionHasWords at k.action in
      let same : due ≡ op = op_is due op tests.0 in
      let after = calls_keep op S.objects (subst CallHasWords same its) h.objects in
      subst WordsFit m.1 (record {
        objects = after.0;
        tasks = put_in S.tasks id (goes_on p L t w) h.tasks (goes t w k (same_replied w (call op S.objects).1 tests.1 after.1));
        ranges = h.ranges;
      })
  call_keeps S T id t op w _ h k at s = cc

  spawn_keeps : (S T : State) (id : TaskId) (t : Task) (way : How) (target : ℕ) (args : List ℕ) (kid : TaskId) (x : Action) → WordsFit S → StandsWell t → t.action ≡ x
      → spawn_step p N L S id t x way target args kid ≡ Some T → WordsFit T
  spawn_keeps S T id t way2 target2 args2 kid (a.Spawn way target args) h k at s =
      let one : State = set_task S id (goes_on p L t nothing) in
      let new : Task = child p L (innermost t) target args in
      let its : Each IsWord args = subst ActionHasWords at k.action in
      subst WordsFit (tells_when (same_how way way2 && (target == target2) && bytes_eq args args2 && has_core N way && is_new S kid) (set_task one kid new) T s).1
      (sets one kid new (sets S id (goes_on p L t nothing) h (goes t nothing k none_replied)) (born (innermost t) target args its))
  spawn_keeps S T id t way target args kid _ h k at s = cc

  finish_keeps : (S T : State) (id : TaskId) (t : Task) (x : Action) → WordsFit S → StandsWell t → finish_step p L S id t x ≡ Some T → WordsFit T
  finish_keeps S T id t a.Finish h k s =
      let same : open_scope S id t (goes_on p L t nothing) None ≡ T = cc in
      subst WordsFit same (opens S id t (goes_on p L t nothing) None h (goes t nothing k none_replied) (λ r q. cc))
  finish_keeps S T id t _ h k s = cc

  loop_keeps : (S T : State) (id : TaskId) (t : Task) (lo hi grain target : ℕ) (args : List ℕ) (x : Action) → WordsFit S → StandsWell t → t.action ≡ x
      → loop_step S id t x lo hi grain target args ≡ Some T → WordsFit T
  loop_keeps S T id t lo2 hi2 grain2 target2 args2 (a.Loop lo hi grain target args) h k at s =
      let range : Range = record { lo = lo; hi = hi; target = target; args = args; begun = set.empty } in
      let its : IsWord hi × Each IsWord args = subst ActionHasWords at k.action in
      let fits : RangeHasWords range = record { hi = its.0; args = its.1 } in
      subst WordsFit (tells_when (lo == lo2 && hi == hi2 && grain == grain2 && target == target2 && bytes_eq args args2) (open_scope S id t (record t { mode = at_loop }) (Some range)) T s).1
      (opens S id t (record t { mode = at_loop }) (Some range) h (record { action = k.action; running = k.running }) (λ r q. let same : range ≡ r = cc in subst RangeHasWords same fits))
  loop_keeps S T id t lo hi grain target args _ h k at s = cc

  begin_in_keeps : (S T : State) (owner : TaskId) (place index : ℕ) (kid : TaskId) (scope : Scope) (range : Option Range) → WordsFit S → slice_get S.scopes place ≡ Some scope → scope.range ≡ range
      → begin_in p L S owner place index kid scope range ≡ Some T → WordsFit T
  begin_in_keeps S T owner place index kid scope None h there is s = cc
  begin_in_keeps S T owner place index kid scope (Some r) h there is s =
      let new : Task = child p L place r.target (index ∷ r.args) in
      let begun : Range = record r { begun = set.insert r.begun index } in
      let ys : List Scope = slice_set S.scopes place (record scope { range = Some begun }) in
      let its : RangeHasWords r = h.ranges place scope r there is in
      let m = tells_when (nat_le r.lo index && nat_lt index r.hi && not (set.contains r.begun index) && is_new S kid) (record (set_task S kid new) { scopes = ys }) T s in
      let low : nat_lt index r.hi ≡ true = second (nat_le r.lo index) (nat_lt index r.hi) (not (set.contains r.begun index)) (is_new S kid) m.0 in
      let still : RangeHasWords begun = record { hi = its.hi; args = its.args } in
      subst WordsFit m.1 (record {
        objects = h.objects;
        tasks = put_in S.tasks kid new h.tasks (born place r.target (index ∷ r.args) (below_word index r.hi low its.hi, its.args));
        ranges = one_set S.scopes place (record scope { range = Some begun }) h.ranges (λ q f. let same : begun ≡ q = cc in subst RangeHasWords same still);
      })

  begin_at_keeps : (S T : State) (owner : TaskId) (index : ℕ) (kid : TaskId) (ss : List ℕ) → WordsFit S → begin_at p L S owner index kid ss ≡ Some T → WordsFit T
  begin_at_keeps S T owner index kid [] h s = cc
  begin_at_keeps S T owner index kid (place ∷ ss) h s =
      let f = by_found (slice_get S.scopes place) (λ scope. begin_in p L S owner place index kid scope scope.range) T s in
      begin_in_keeps S T owner place index kid f.0 f.0.range h f.1 refl f.2

  pass_from_keeps : (S T : State) (id : TaskId) (t : Task) (ss : List ℕ) → WordsFit S → StandsWell t → pass_from p L S id t ss ≡ Some T → WordsFit T
  pass_from_keeps S T id t [] h k s = cc
  pass_from_keeps S T id t (place ∷ ss) h k s =
      let on : StandsWell (goes_on p L t nothing) = goes t nothing k none_replied in
      let u : Task = record (goes_on p L t nothing) { opened = ss } in
      subst WordsFit (tells_when (not (left S place)) (set_task S id u) T s).1 (sets S id u h (record { action = on.action; running = on.running }))

  arrive_keeps : (S T : State) (id : TaskId) (t : Task) (x : Action) → WordsFit S → StandsWell t → arrive_step p L S id t x ≡ Some T → WordsFit T
  arrive_keeps S T id t a.Arrive h k s = pass_from_keeps S T id t t.opened h k s
  arrive_keeps S T id t _ h k s = cc

  pass_keeps : (S T : State) (id : TaskId) (t : Task) → WordsFit S → StandsWell t → pass_step p L S id t ≡ Some T → WordsFit T
  pass_keeps S T id t h k s = by t.mode s
    where
      by : (m : Mode) → (if is_at_loop m then pass_from p L S id t t.opened else (if is_going m then arrive_step p L S id t t.action else None)) ≡ Some T → WordsFit T
      by at_loop s = pass_from_keeps S T id t t.opened h k s
      by going s = arrive_keeps S T id t t.action h k s
      by _ s = cc

  halts : (S T : State) (id : TaskId) (t : Task) (m : Mode) → WordsFit S → StandsWell t → set_task S id (record t { mode = m }) ≡ T → WordsFit T
  halts S T id t m h k same = subst WordsFit same (sets S id (record t { mode = m }) h (record { action = k.action; running = k.running }))

  end_keeps : (S T : State) (id : TaskId) (t : Task) (x : Action) → WordsFit S → StandsWell t → end_step S id t x ≡ Some T → WordsFit T
  end_keeps S T id t a.End h k s = let same : set_task S id (record t { mode = ended }) ≡ T = cc in halts S T id t ended h k same
  end_keeps S T id t _ h k s = cc

  trap_keeps : (S T : State) (id : TaskId) (t : Task) (kind : TrapKind) (x : Action) → WordsFit S → StandsWell t → trap_step N S id t x kind ≡ Some T → WordsFit T
  trap_keeps S T id t kind (a.Trap due) h k s = halts S T id t trapped h k (tells_when (same_trap due kind) (set_task S id (record t { mode = trapped })) T s).1
  trap_keeps S T id t trap.Core (a.Spawn way target args) h k s = halts S T id t trapped h k (tells_when (not (has_core N way)) (set_task S id (record t { mode = trapped })) T s).1
  trap_keeps S T id t kind _ h k s = cc

  -- ---- steps and histories

  by_task : (S T : State) (id : TaskId) (f : Task → Option State) → ((t : Task) → get S.tasks id ≡ Some t → f t ≡ Some T → WordsFit T) → of_task S id (if_going f) ≡ Some T → WordsFit T
  by_task S T id f h s =
      let k = by_found (get S.tasks id) (if_going f) T s in
      h k.0 k.1 (by_going k.0.mode (f k.0) T k.2).1

  pub step_keeps : (S T : State) (x : Entry) → WordsFit S → step p N L S x ≡ Some T → WordsFit T
  step_keeps S T (e.Call id op w) h s = by_task S T id (λ t. call_step p L S id t t.action op w) (λ t at k. call_keeps S T id t op w t.action h (h.tasks id t at) refl k) s
  step_keeps S T (e.Spawn id way target args kid) h s =
      by_task S T id (λ t. spawn_step p N L S id t t.action way target args kid) (λ t at k. spawn_keeps S T id t way target args kid t.action h (h.tasks id t at) refl k) s
  step_keeps S T (e.Finish id) h s = by_task S T id (λ t. finish_step p L S id t t.action) (λ t at k. finish_keeps S T id t t.action h (h.tasks id t at) k) s
  step_keeps S T (e.Loop id lo hi grain target args) h s =
      by_task S T id (λ t. loop_step S id t t.action lo hi grain target args) (λ t at k. loop_keeps S T id t lo hi grain target args t.action h (h.tasks id t at) refl k) s
  step_keeps S T (e.Begin owner index kid) h s =
      let k = by_found (get S.tasks owner) (λ t. begin_step p L S owner t index kid) T s in begin_at_keeps S T owner index kid k.0.opened h (by_loop k.0.mode _ T k.2).1
  step_keeps S T (e.Pass id) h s = let k = by_found (get S.tasks id) (λ t. pass_step p L S id t) T s in pass_keeps S T id k.0 h (h.tasks id k.0 k.1) k.2
  step_keeps S T (e.End id) h s = by_task S T id (λ t. end_step S id t t.action) (λ t at k. end_keeps S T id t t.action h (h.tasks id t at) k) s
  step_keeps S T (e.Trap id kind) h s = by_task S T id (λ t. trap_step N S id t t.action kind) (λ t at k. trap_keeps S T id t kind t.action h (h.tasks id t at) k) s
  step_keeps S T e.Over h s =
      subst WordsFit (tells_when (not S.passed && not (left S 0)) (record S { passed = true }) T s).1 (record { objects = h.objects; tasks = h.tasks; ranges = h.ranges })

  pub stays : (S T : State) (h : List Entry) → WordsFit S → after p N L S h ≡ Some T → WordsFit T
  stays S T [] k s = let same : S ≡ T = cc in subst WordsFit same k
  stays S T (x ∷ xs) k s =
      let f = by_found (step p N L S x) (λ U. after p N L U xs) T s in
      stays f.0 T xs (step_keeps S f.0 x k f.1) f.2
