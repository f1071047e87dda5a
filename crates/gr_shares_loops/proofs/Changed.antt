-- A loop is opened, an index of it begins, and it is passed.
use Rattle.std.proofs.Common.{◌≡◌, ◌≢◌, ℕ, zero, suc, ◌+◌, ◌-◌, ◌≤◌, ◌==◌, ◌&&◌, ◌||◌, Bool, true, false, not, nat_le, nat_lt, if◌then◌else◌, is_none, is_some, List, [], ◌∷◌, length, slice_get, slice_set, inl, inr, sym, ◌∙◌, ap, subst, refl, arith, Option, Some, None}
use Rattle.std.specs.Option.{option_and_then, option_map_or}
use Rattle.std.specs.Str.{bytes_eq}
use Rattle.std.specs.List.{list_any}
use Rattle.std.specs.FinMap as fin
use Rattle.std.specs.FinSet as set
use Rattle.std.proofs.lemmas.Bool.{cases_eq}
use Rattle.std.proofs.lemmas.Bool.Decides.{nat_tests}
use Rattle.gr_syntax.specs.declared.syntax.Program.{Program}
use Rattle.gr_lang.specs.declared.action.Action.{Action}
use Rattle.gr_lang.specs.declared.action.Action.TheVariants as action
use Rattle.gr_lang.specs.declared.action.TaskId.{TaskId}
use Rattle.gr_lang.specs.Effects.{nothing}
use Rattle.gr_lang.specs.States.{Mode, going, at_loop, ended, trapped, Task, Range, Scope, State, child, has_ended, is_going, is_at_loop, is_under, is_in, range_left, ranges_left, left}
use Rattle.gr_lang.specs.Steps.{set_task, goes_on, new_scope, open_scope, is_new, loop_step, begin_in, begin_at, begin_step, pass_from, arrive_step, pass_step}
use Rattle.gr_machine.specs.Slots.{same_id}
use Rattle.gr_stands.proofs.Places.{cases_id, not_same}
use Rattle.gr_shares.specs.Loops.{Loop, loop_of, loop_in, waits_at, loops_of, within, left_in, LoopsStand}
use Rattle.gr_shares_loops.specs.Changes.{put_loop, begun_at, WaitsAtLoop, BeginsIndex, PassesLoop, ScopesAreThere}
use Rattle.gr_shares_loops.specs.Laws as laws
use Rattle.gr_shares_loops.proofs.Counting.{all_begun}
use Rattle.gr_shares_loops.proofs.Tasks.{some_same, none_some, found, if_holds, when_holds, goes_in, no_loop_yet, loops_put, loops_stay, put_loop_at, put_loop_other, get_before, get_last}

-- ---- a loop is opened

-- A task that is going opens a scope of this range, and waits at its loop.
pub opens_at : (S : State) (id : TaskId) (task : Task) (range : Range) → ScopesAreThere S → (q : TaskId)
    → loops_of (open_scope S id task (record task { mode = at_loop }) (Some range)) q ≡ put_loop (loops_of S) id (Some (record { number = length S.scopes; range = range })) q
opens_at S id task range opened q =
    loops_put S M id after refl others q
    ∙ ap (λ (o : Option Loop). put_loop (loops_of S) id o q) (ap (option_and_then (λ (s : Scope). loop_of (length S.scopes) s.range)) (get_last S.scopes (new_scope task id (Some range))))
  where
    after : Task
    after = record task { mode = at_loop; opened = length S.scopes ∷ task.opened }

    M : State
    M = open_scope S id task (record task { mode = at_loop }) (Some range)

    by : (q : TaskId) (x : Task) (xs : List ℕ) → fin.get S.tasks q ≡ Some x → x.opened ≡ xs → loop_in M.scopes xs ≡ loop_in S.scopes xs
    by q x [] h k = refl
    by q x (number ∷ outer) h k = ap (option_and_then (λ (s : Scope). loop_of number s.range)) (get_before S.scopes (new_scope task id (Some range)) number (opened q x number outer h k))

    others : (q : TaskId) (x : Task) → same_id q id ≡ false → fin.get S.tasks q ≡ Some x → waits_at M.scopes x ≡ waits_at S.scopes x
    others q x ne h = ap (λ (o : Option Loop). if is_at_loop x.mode then o else None) (by q x x.opened h refl)

pub loops_are_opened : laws.LoopsAreOpened
loops_are_opened program cores limit S T id task lo hi grain target args there due opened e =
    let g = goes_in S id (λ x. loop_step S id x x.action lo hi grain target args) T e in
    let same : g.task ≡ task = some_same g.task task (sym g.there ∙ there) in
    let goes : is_going task.mode ≡ true = subst (λ (x : Task). is_going x.mode ≡ true) same g.goes in
    let made : loop_step S id task (action.Loop lo hi grain target args) lo hi grain target args ≡ Some T
    = ap (λ (a : Action). loop_step S id task a lo hi grain target args) (sym due) ∙ subst (λ (x : Task). loop_step S id x x.action lo hi grain target args ≡ Some T) same g.made in
    let is : M ≡ T = (when_holds (lo == lo && hi == hi && grain == grain && target == target && bytes_eq args args) M T made).1 in
    record {
      none = ap (option_and_then (waits_at S.scopes)) there ∙ no_loop_yet S.scopes task goes;
      loops = λ q. ap (λ (x : State). loops_of x q) (sym is) ∙ opens_at S id task range opened q;
    }
  where
    range : Range
    range = record { lo = lo; hi = hi; target = target; args = args; begun = set.empty }

    M : State
    M = open_scope S id task (record task { mode = at_loop }) (Some range)

-- ---- an index begins

set_here : (ss : List Scope) (n : ℕ) (x y : Scope) → slice_get ss n ≡ Some x → slice_get (slice_set ss n y) n ≡ Some y
set_here [] n x y e = absurd (none_some x e)
set_here (s ∷ ss) zero x y e = refl
set_here (s ∷ ss) (suc n) x y e = set_here ss n x y e

set_other : (ss : List Scope) (n k : ℕ) (y : Scope) → k ≢ n → slice_get (slice_set ss n y) k ≡ slice_get ss k
set_other [] n k y ne = refl
set_other (s ∷ ss) zero zero y ne = absurd (ne refl)
set_other (s ∷ ss) zero (suc k) y ne = refl
set_other (s ∷ ss) (suc n) zero y ne = refl
set_other (s ∷ ss) (suc n) (suc k) y ne = set_other ss n k y (λ e. ne (ap suc e))

module _ (program : Program) (limit : ℕ) (S : State) (owner : TaskId) (index : ℕ) (kid : TaskId) (stands : LoopsStand (loops_of S)) (T : State) (task : Task) (there : fin.get S.tasks owner ≡ Some task)
    (mode : is_at_loop task.mode ≡ true) where
  four : (a b c d : Bool) → (a && b && c && d) ≡ true → (a ≡ true) × (b ≡ true) × (c ≡ true) × (d ≡ true)
  four true true true true h = (refl, refl, refl, refl)
  four false b c d h = absurd (cc)
  four true false c d h = absurd (cc)
  four true true false d h = absurd (cc)
  four true true true false h = absurd (cc)

  not_false : (b : Bool) → not b ≡ true → b ≡ false
  not_false true e = absurd (cc)
  not_false false e = refl

  is_none_so : (o : Option Task) → is_none o ≡ true → o ≡ None
  is_none_so None e = refl
  is_none_so (Some x) e = absurd (cc)

  is_left : (r : Range) → nat_le r.lo index ≡ true → nat_lt index r.hi ≡ true → set.contains r.begun index ≡ false → left_in r index ≡ 1
  unfolding within
  is_left r p q e = rw (e, p, q) refl

  module _ (number : ℕ) (outer : List ℕ) (opened : task.opened ≡ number ∷ outer) (scope : Scope) (placed : slice_get S.scopes number ≡ Some scope) (range : Range) (ranged : scope.range ≡ Some range) where
    abbrev loop : Loop
    loop = record { number = number; range = range }

    loop_is : loops_of S owner ≡ Some loop
    loop_is =
        ap (option_and_then (waits_at S.scopes)) there
        ∙ ap (λ (b : Bool). if b then loop_in S.scopes task.opened else None) mode
        ∙ ap (loop_in S.scopes) opened
        ∙ ap (option_and_then (λ (s : Scope). loop_of number s.range)) placed
        ∙ ap (loop_of number) ranged

    abbrev then_scope : Scope
    then_scope = record scope { range = Some (record range { begun = set.insert range.begun index }) }

    abbrev born : Task
    born = child program limit number range.target (index ∷ range.args)

    -- The range with the index begun, and then the new task.
    abbrev N : State
    N = record S { scopes = slice_set S.scopes number then_scope }

    abbrev M : State
    M = set_task N kid born

    -- What is found at scopes, where a task waits at another loop.
    elsewhere : (q : TaskId) (x : Task) (xs : List ℕ) → same_id q owner ≡ false → fin.get S.tasks q ≡ Some x → is_at_loop x.mode ≡ true → x.opened ≡ xs → loop_in N.scopes xs ≡ loop_in S.scopes xs
    elsewhere q x [] ne h m k = refl
    elsewhere q x (other ∷ more) ne h m k = elim (cases_eq other number) [
      | inl e ↦
          let theirs : loops_of S q ≡ Some loop =
          ap (option_and_then (waits_at S.scopes)) h
          ∙ ap (λ (b : Bool). if b then loop_in S.scopes x.opened else None) m
          ∙ ap (loop_in S.scopes) k
          ∙ ap (λ (n : ℕ). loop_in S.scopes (n ∷ more)) e
          ∙ ap (option_and_then (λ (s : Scope). loop_of number s.range)) placed
          ∙ ap (loop_of number) ranged in
          absurd (not_same q owner ne (stands.apart q owner loop loop theirs loop_is refl))
      | inr e ↦ ap (option_and_then (λ (s : Scope). loop_of other s.range)) (set_other S.scopes number other then_scope e)
    ]

    others : (q : TaskId) (o : Option Task) → same_id q owner ≡ false → fin.get S.tasks q ≡ o → option_and_then (waits_at N.scopes) o ≡ option_and_then (waits_at S.scopes) o
    others q None ne h = refl
    others q (Some x) ne h = by (is_at_loop x.mode) refl
      where
        by : (b : Bool) → is_at_loop x.mode ≡ b → (if b then loop_in N.scopes x.opened else None) ≡ (if b then loop_in S.scopes x.opened else None)
        by true m = elsewhere q x x.opened ne h m refl
        by false m = refl

    mine : loops_of N owner ≡ Some (begun_at loop index)
    mine =
        ap (option_and_then (waits_at N.scopes)) there
        ∙ ap (λ (b : Bool). if b then loop_in N.scopes task.opened else None) mode
        ∙ ap (loop_in N.scopes) opened
        ∙ ap (option_and_then (λ (s : Scope). loop_of number s.range)) (set_here S.scopes number scope then_scope placed)

    ranged_now : (q : TaskId) → loops_of N q ≡ put_loop (loops_of S) owner (Some (begun_at loop index)) q
    ranged_now q = elim (cases_id q owner) [
      | inl e ↦ ap (loops_of N) e ∙ mine ∙ sym (ap (put_loop (loops_of S) owner (Some (begun_at loop index))) e ∙ put_loop_at (loops_of S) owner (Some (begun_at loop index)))
      | inr e ↦ others q (fin.get S.tasks q) e refl ∙ sym (put_loop_other (loops_of S) owner (Some (begun_at loop index)) q e)
    ]

    begins : (nat_le range.lo index && nat_lt index range.hi && not (set.contains range.begun index) && is_new S kid) ≡ true → BeginsIndex S M owner index
    begins h =
        let f = four (nat_le range.lo index) (nat_lt index range.hi) (not (set.contains range.begun index)) (is_new S kid) h in
        let new : fin.get S.tasks kid ≡ None = is_none_so (fin.get S.tasks kid) f.3 in
        record {
          loop = loop;
          there = loop_is;
          left = is_left range f.0 f.1 (not_false (set.contains range.begun index) f.2);
          loops = λ q. loops_stay N M kid born refl (ap (option_and_then (waits_at N.scopes)) new) refl (λ xs. refl) q ∙ ranged_now q;
        }

  -- ---- the entry

  by_range : (number : ℕ) (outer : List ℕ) → task.opened ≡ number ∷ outer → (scope : Scope) → slice_get S.scopes number ≡ Some scope → (o : Option Range) → scope.range ≡ o
      → begin_in program limit S owner number index kid scope o ≡ Some T → BeginsIndex S T owner index
  by_range number outer opened scope placed None ranged made = absurd (none_some T made)
  by_range number outer opened scope placed (Some range) ranged made =
      let w = when_holds (nat_le range.lo index && nat_lt index range.hi && not (set.contains range.begun index) && is_new S kid) (M number outer opened scope placed range ranged) T made in
      subst (λ (X : State). BeginsIndex S X owner index) w.1 (begins number outer opened scope placed range ranged w.0)

  pub by_opened : (opened : List ℕ) → task.opened ≡ opened → begin_at program limit S owner index kid opened ≡ Some T → BeginsIndex S T owner index
  by_opened [] k made = absurd (none_some T made)
  by_opened (number ∷ outer) k made =
      let s = found (λ (scope : Scope). begin_in program limit S owner number index kid scope scope.range) (slice_get S.scopes number) T made in
      by_range number outer k s.one s.there s.one.range refl s.made

pub indices_are_begun : laws.IndicesAreBegun
indices_are_begun program cores limit S T owner index kid stands e =
    let f = found (λ (task : Task). begin_step program limit S owner task index kid) (fin.get S.tasks owner) T e in
    let h = if_holds (is_at_loop f.one.mode) (begin_at program limit S owner index kid f.one.opened) T f.made in
    by_opened program limit S owner index kid stands T f.one f.there h.0 f.one.opened refl h.1

-- ---- a loop is passed

itself : (n : ℕ) → (n == n) ≡ true
itself n = grind (arith, nat_tests)

under_itself : (depth : ℕ) (scopes : List Scope) (n : ℕ) → is_under depth scopes n n ≡ true
under_itself zero scopes n = itself n
under_itself (suc depth) scopes n = ap (λ (b : Bool). b || option_map_or (λ x. is_some x.owner && is_under depth scopes n x.parent) (slice_get scopes n) false) (itself n)

second_false : (a b : Bool) → (a || b) ≡ false → b ≡ false
second_false true b e = absurd (cc)
second_false false b e = e

first_false : (a b c : Bool) → a ≡ true → ((a && b) || c) ≡ false → b ≡ false
first_false true true c h e = absurd (cc)
first_false true false c h e = refl
first_false false b c h e = absurd (cc)

none_left : (S : State) (n : ℕ) (s : Scope) (xs : List Scope) (m j : ℕ) → slice_get xs j ≡ Some s → m + j ≡ n → ranges_left S n m xs ≡ false → range_left s.range ≡ false
none_left S n s [] m j at k e = absurd (none_some s at)
none_left S n s (x ∷ xs) m zero at k e =
    let here : m ≡ n = omega (arith, k) in
    let inside : is_in S n m ≡ true = ap (is_in S n) here ∙ under_itself (length S.scopes) S.scopes n in
    ap (λ (y : Scope). range_left y.range) (sym (some_same x s at)) ∙ first_false (is_in S n m) (range_left x.range) (ranges_left S n (m + 1) xs) inside e
none_left S n s (x ∷ xs) m (suc j) at k e = none_left S n s xs (m + 1) j at (omega (arith, k)) (second_false (is_in S n m && range_left x.range) (ranges_left S n (m + 1) xs) e)

left_none : (S : State) (n : ℕ) (s : Scope) → slice_get S.scopes n ≡ Some s → left S n ≡ false → range_left s.range ≡ false
unfolding left
left_none S n s at e = none_left S n s S.scopes 0 n at (omega arith) (second_false (list_any (λ task. not (has_ended task.mode) && is_in S n task.scope) (fin.values S.tasks)) (ranges_left S n 0 S.scopes) e)

as_many : (a b : ℕ) → nat_lt a b ≡ false → b ≤ a
as_many a b e = grind (arith, nat_tests, e)

-- The loop of a task that waits at it, by its scope.
pub record HasRange (scopes : List Scope) (number : ℕ) (loop : Loop) : Type 0 where
  pub scope : Scope
  pub placed : slice_get scopes number ≡ Some scope
  pub ranged : scope.range ≡ Some loop.range
  pub numbered : number ≡ loop.number

has_range : (scopes : List Scope) (number : ℕ) (loop : Loop) → option_and_then (λ (s : Scope). loop_of number s.range) (slice_get scopes number) ≡ Some loop → HasRange scopes number loop
has_range scopes number loop e =
    let f = found (λ (s : Scope). loop_of number s.range) (slice_get scopes number) loop e in
    record { scope = f.one; placed = f.there; ranged = by f.one.range f.made; numbered = same f.one.range f.made }
  where
    by : (o : Option Range) → loop_of number o ≡ Some loop → o ≡ Some loop.range
    by None h = absurd (none_some loop h)
    by (Some r) h = ap (λ (l : Loop). Some l.range) (some_same (record { number = number; range = r }) loop h)

    same : (o : Option Range) → loop_of number o ≡ Some loop → number ≡ loop.number
    same None h = absurd (none_some loop h)
    same (Some r) h = ap (λ (l : Loop). l.number) (some_same (record { number = number; range = r }) loop h)

-- What a loop in the state is of.
pub loops_are_waited_at : laws.LoopsAreWaitedAt
loops_are_waited_at S owner loop e =
    let f = found (waits_at S.scopes) (fin.get S.tasks owner) loop e in
    let h = if_holds (is_at_loop f.one.mode) (loop_in S.scopes f.one.opened) loop f.made in
    by f.one f.there h.0 f.one.opened refl h.1
  where
    waiting : (m : Mode) → is_at_loop m ≡ true → m ≡ at_loop
    waiting going e = absurd (cc)
    waiting at_loop e = refl
    waiting ended e = absurd (cc)
    waiting trapped e = absurd (cc)

    by : (task : Task) → fin.get S.tasks owner ≡ Some task → is_at_loop task.mode ≡ true → (opened : List ℕ) → task.opened ≡ opened → loop_in S.scopes opened ≡ Some loop → WaitsAtLoop S owner loop
    by task there mode [] k e = absurd (none_some loop e)
    by task there mode (number ∷ outer) k e =
        let r = has_range S.scopes number loop e in
        record {
          task = task;
          there = there;
          waits = waiting task.mode mode;
          outer = outer;
          opened = k ∙ ap (λ (n : ℕ). n ∷ outer) r.numbered;
          scope = r.scope;
          placed = ap (slice_get S.scopes) (sym r.numbered) ∙ r.placed;
          ranged = r.ranged;
        }

module _ (program : Program) (limit : ℕ) (S : State) (id : TaskId) (stands : LoopsStand (loops_of S)) (T : State) (task : Task) (there : fin.get S.tasks id ≡ Some task) where
  -- It waited at a loop, or at none.
  pub from_so : (opened : List ℕ) → pass_from program limit S id task opened ≡ Some T
      → ((loop : Loop) (number : ℕ) (outer : List ℕ) → opened ≡ number ∷ outer → loops_of S id ≡ Some loop → left S number ≡ false → (index : ℕ) → left_in loop.range index ≡ 0) → PassesLoop S T id
  from_so [] made all = absurd (none_some T made)
  from_so (number ∷ outer) made all =
      let x : Task = record (goes_on program limit task nothing) { opened = outer } in
      let M : State = set_task S id x in
      let w = when_holds (not (left S number)) M T made in
      record {
        begun = λ loop h. all loop number outer refl h (not_false (left S number) w.0);
        loops = λ q. ap (λ (y : State). loops_of y q) (sym w.1) ∙ loops_put S M id x refl (λ i y e h. refl) q;
      }
    where
      not_false : (b : Bool) → not b ≡ true → b ≡ false
      not_false true e = absurd (cc)
      not_false false e = refl

  arrive_so : (a : Action) → is_going task.mode ≡ true → arrive_step program limit S id task a ≡ Some T → PassesLoop S T id
  arrive_so action.Arrive goes made = from_so task.opened made (λ loop number outer k h f. absurd (none_some loop (sym (ap (option_and_then (waits_at S.scopes)) there ∙ no_loop_yet S.scopes task goes) ∙ h)))
  arrive_so _ goes made = absurd (none_some T made)

  loop_so : is_at_loop task.mode ≡ true → pass_from program limit S id task task.opened ≡ Some T → PassesLoop S T id
  loop_so mode made = from_so task.opened made all
    where
      all : (loop : Loop) (number : ℕ) (outer : List ℕ) → task.opened ≡ number ∷ outer → loops_of S id ≡ Some loop → left S number ≡ false → (index : ℕ) → left_in loop.range index ≡ 0
      all loop number outer k h f =
          let r = has_range S.scopes number loop (sym (ap (option_and_then (waits_at S.scopes)) there ∙ ap (λ (b : Bool). if b then loop_in S.scopes task.opened else None) mode ∙ ap (loop_in S.scopes) k) ∙ h) in
          all_begun loop.range (stands.inside id loop h)
          (as_many (set.len loop.range.begun) (loop.range.hi - loop.range.lo) (ap range_left (sym r.ranged) ∙ left_none S number r.scope r.placed f))

  pub pass_so : pass_step program limit S id task ≡ Some T → PassesLoop S T id
  pass_so made = by (is_at_loop task.mode) refl made
    where
      by : (b : Bool) → is_at_loop task.mode ≡ b → (if b then pass_from program limit S id task task.opened else (if is_going task.mode then arrive_step program limit S id task task.action else None)) ≡ Some T → PassesLoop S T id
      by true m e = loop_so m e
      by false m e = let h = if_holds (is_going task.mode) (arrive_step program limit S id task task.action) T e in arrive_so task.action h.0 h.1

pub loops_are_passed : laws.LoopsArePassed
loops_are_passed program cores limit S T id stands e =
    let f = found (λ (task : Task). pass_step program limit S id task) (fin.get S.tasks id) T e in
    pass_so program limit S id stands T f.one f.there f.made
