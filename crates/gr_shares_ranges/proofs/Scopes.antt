-- The scopes with a range, before and after an entry.
use Rattle.std.proofs.Common.{◌≡◌, ◌≢◌, ◌⊎◌, ℕ, zero, suc, ◌==◌, ◌&&◌, if◌then◌else◌, Bool, true, false, not, nat_le, nat_lt, List, [], ◌∷◌, ◌++◌, length, slice_get, slice_set, inl, inr, sym, ◌∙◌, ap, subst, refl, Some, None}
use Rattle.std.specs.Str.{bytes_eq}
use Rattle.std.specs.FinMap as fin
use Rattle.std.specs.FinSet as set
use Rattle.gr_syntax.specs.declared.syntax.Program.{Program}
use Rattle.gr_lang.specs.declared.action.Action.{Action}
use Rattle.gr_lang.specs.declared.action.Action.TheVariants as action
use Rattle.gr_lang.specs.declared.action.Entry.{Entry}
use Rattle.gr_lang.specs.declared.action.Entry.TheVariants as entry
use Rattle.gr_lang.specs.declared.action.How.{How}
use Rattle.gr_lang.specs.declared.action.Op.{Op}
use Rattle.gr_lang.specs.declared.action.Reply.{Reply}
use Rattle.gr_lang.specs.declared.action.TaskId.{TaskId}
use Rattle.gr_lang.specs.declared.action.TrapKind.{TrapKind}
use Rattle.gr_lang.specs.declared.action.TrapKind.TheVariants as trap
use Rattle.gr_lang.specs.Effects.{nothing}
use Rattle.gr_lang.specs.Fields.{same_reply, same_how, same_trap}
use Rattle.gr_lang.specs.Objects.{call}
use Rattle.gr_lang.specs.Parts.{same_op}
use Rattle.gr_lang.specs.States.{Task, Range, Scope, State, ended, trapped, at_loop, child, innermost, is_going, is_at_loop, left}
use Rattle.gr_lang.specs.Steps.{step, set_task, goes_on, new_scope, open_scope, has_core, is_new, called, call_step, spawn_step, finish_step, loop_step, begin_in, begin_at, begin_step, pass_from, arrive_step, pass_step, end_step, trap_step}
use Rattle.gr_shares.specs.Loops.{Loop, loops_of}
use Rattle.gr_shares_loops.specs.Changes.{IsOfNoLoop, WaitsAtLoop}
use Rattle.gr_shares_loops.proofs.Tasks.{some_same, none_some, found, if_holds, when_holds, goes_in}
use Rattle.gr_shares_loops.proofs.Changed.{loops_are_waited_at}

-- Each scope with a range was there before.
abbrev pub OldRanges : State → State → Type 0
OldRanges S T = (n : ℕ) (scope : Scope) (range : Range) → slice_get T.scopes n ≡ Some scope → scope.range ≡ Some range → slice_get S.scopes n ≡ Some scope

same_scopes : (S T : State) → T.scopes ≡ S.scopes → OldRanges S T
same_scopes S T e n scope range h k = ap (λ (ss : List Scope). slice_get ss n) (sym e) ∙ h

no_range : (x scope : Scope) (range : Range) → x.range ≡ None → Some x ≡ Some scope → scope.range ≡ Some range → ⊥
no_range x scope range none h k = none_some range (sym none ∙ ap (λ (s : Scope). s.range) (some_same x scope h) ∙ k)

one_plain : (ss : List Scope) (x : Scope) → x.range ≡ None → (n : ℕ) (scope : Scope) (range : Range) → slice_get (ss ++ x ∷ []) n ≡ Some scope → scope.range ≡ Some range → slice_get ss n ≡ Some scope
one_plain [] x none zero scope range h k = absurd (no_range x scope range none h k)
one_plain [] x none (suc n) scope range h k = h
one_plain (s ∷ ss) x none zero scope range h k = h
one_plain (s ∷ ss) x none (suc n) scope range h k = one_plain ss x none n scope range h k

one_more : (S T : State) (x : Scope) → x.range ≡ None → T.scopes ≡ S.scopes ++ x ∷ [] → OldRanges S T
one_more S T x none e n scope range h k = one_plain S.scopes x none n scope range (ap (λ (ss : List Scope). slice_get ss n) (sym e) ∙ h) k

-- ---- entries of no loop, and passes

module _ (S : State) (id : TaskId) (task : Task) where
  call_so : (program : Program) (limit : ℕ) (op : Op) (reply : Reply) (T : State) (a : Action) → call_step program limit S id task a op reply ≡ Some T → OldRanges S T
  call_so program limit op reply T (action.Call due) e =
      same_scopes S T (ap (λ (x : State). x.scopes) (sym (when_holds (same_op due op && same_reply reply (call op S.objects).1) (called program limit S id task op reply) T e).1))
  call_so program limit op reply T _ e = absurd (none_some T e)

  spawn_so : (program : Program) (cores limit : ℕ) (way : How) (target : ℕ) (args : List ℕ) (kid : TaskId) (T : State) (a : Action)
      → spawn_step program cores limit S id task a way target args kid ≡ Some T → OldRanges S T
  spawn_so program cores limit way target args kid T (action.Spawn due number words) e =
      let M = set_task (set_task S id (goes_on program limit task nothing)) kid (child program limit (innermost task) number words) in
      same_scopes S T (ap (λ (x : State). x.scopes) (sym (when_holds (same_how due way && (number == target) && bytes_eq words args && has_core cores due && is_new S kid) M T e).1))
  spawn_so program cores limit way target args kid T _ e = absurd (none_some T e)

  finish_so : (program : Program) (limit : ℕ) (T : State) (a : Action) → finish_step program limit S id task a ≡ Some T → OldRanges S T
  finish_so program limit T action.Finish e =
      one_more S T (new_scope task id None) refl (ap (λ (x : State). x.scopes) (sym (some_same (open_scope S id task (goes_on program limit task nothing) None) T e)))
  finish_so program limit T _ e = absurd (none_some T e)

  end_so : (T : State) (a : Action) → end_step S id task a ≡ Some T → OldRanges S T
  end_so T action.End e = same_scopes S T (ap (λ (x : State). x.scopes) (sym (some_same (set_task S id (record task { mode = ended })) T e)))
  end_so T _ e = absurd (none_some T e)

  trap_so : (cores : ℕ) (kind : TrapKind) (T : State) (a : Action) → trap_step cores S id task a kind ≡ Some T → OldRanges S T
  trap_so cores kind T (action.Trap due) e =
      same_scopes S T (ap (λ (x : State). x.scopes) (sym (when_holds (same_trap due kind) (set_task S id (record task { mode = trapped })) T e).1))
  trap_so cores trap.Core T (action.Spawn way target args) e =
      same_scopes S T (ap (λ (x : State). x.scopes) (sym (when_holds (not (has_core cores way)) (set_task S id (record task { mode = trapped })) T e).1))
  trap_so cores _ T _ e = absurd (none_some T e)

  from_so : (program : Program) (limit : ℕ) (T : State) (opened : List ℕ) → pass_from program limit S id task opened ≡ Some T → OldRanges S T
  from_so program limit T [] e = absurd (none_some T e)
  from_so program limit T (number ∷ outer) e =
      let M : State = set_task S id (record (goes_on program limit task nothing) { opened = outer }) in
      same_scopes S T (ap (λ (x : State). x.scopes) (sym (when_holds (not (left S number)) M T e).1))

  arrive_so : (program : Program) (limit : ℕ) (T : State) (a : Action) → arrive_step program limit S id task a ≡ Some T → OldRanges S T
  arrive_so program limit T action.Arrive e = from_so program limit T task.opened e
  arrive_so program limit T _ e = absurd (none_some T e)

  pass_so : (program : Program) (limit : ℕ) (T : State) → pass_step program limit S id task ≡ Some T → OldRanges S T
  pass_so program limit T e = by (is_at_loop task.mode) e
    where
      by : (b : Bool) → (if b then pass_from program limit S id task task.opened else (if is_going task.mode then arrive_step program limit S id task task.action else None)) ≡ Some T → OldRanges S T
      by true e = from_so program limit T task.opened e
      by false e = arrive_so program limit T task.action (if_holds (is_going task.mode) (arrive_step program limit S id task task.action) T e).1

pub others_old : (program : Program) (cores limit : ℕ) (S T : State) (what : Entry) → IsOfNoLoop what → step program cores limit S what ≡ Some T → OldRanges S T
others_old program cores limit S T (entry.Call id op reply) n e =
    let g = goes_in S id (λ task. call_step program limit S id task task.action op reply) T e in
    call_so S id g.task program limit op reply T g.task.action g.made
others_old program cores limit S T (entry.Spawn id way target args kid) n e =
    let g = goes_in S id (λ task. spawn_step program cores limit S id task task.action way target args kid) T e in
    spawn_so S id g.task program cores limit way target args kid T g.task.action g.made
others_old program cores limit S T (entry.Finish id) n e =
    let g = goes_in S id (λ task. finish_step program limit S id task task.action) T e in
    finish_so S id g.task program limit T g.task.action g.made
others_old program cores limit S T (entry.Loop id lo hi grain target args) n e = absurd n
others_old program cores limit S T (entry.Begin owner index kid) n e = absurd n
others_old program cores limit S T (entry.Pass id) n e = absurd n
others_old program cores limit S T (entry.End id) n e =
    let g = goes_in S id (λ task. end_step S id task task.action) T e in
    end_so S id g.task T g.task.action g.made
others_old program cores limit S T (entry.Trap id kind) n e =
    let g = goes_in S id (λ task. trap_step cores S id task task.action kind) T e in
    trap_so S id g.task cores kind T g.task.action g.made
others_old program cores limit S T entry.Over n e =
    same_scopes S T (ap (λ (x : State). x.scopes) (sym (when_holds (not S.passed && not (left S 0)) (record S { passed = true }) T e).1))

pub passes_old : (program : Program) (cores limit : ℕ) (S T : State) (id : TaskId) → step program cores limit S (entry.Pass id) ≡ Some T → OldRanges S T
passes_old program cores limit S T id e =
    let f = found (λ (task : Task). pass_step program limit S id task) (fin.get S.tasks id) T e in
    pass_so S id f.one program limit T f.made

-- ---- a loop is opened

-- A task that goes on opens the scope of this range.
pub record Opens (S T : State) (id : TaskId) : Type 0 where
  pub task : Task
  pub there : fin.get S.tasks id ≡ Some task
  pub goes : is_going task.mode ≡ true
  pub range : Range
  pub fresh : range.begun ≡ set.empty
  pub is : open_scope S id task (record task { mode = at_loop }) (Some range) ≡ T

pub opens_so : (program : Program) (cores limit : ℕ) (S T : State) (id : TaskId) (lo hi grain target : ℕ) (args : List ℕ)
    → step program cores limit S (entry.Loop id lo hi grain target args) ≡ Some T → Opens S T id
opens_so program cores limit S T id lo hi grain target args e =
    let g = goes_in S id (λ task. loop_step S id task task.action lo hi grain target args) T e in
    by g.task g.there g.goes g.task.action g.made
  where
    by : (task : Task) → fin.get S.tasks id ≡ Some task → is_going task.mode ≡ true → (a : Action) → loop_step S id task a lo hi grain target args ≡ Some T → Opens S T id
    by task there goes (action.Loop lo2 hi2 grain2 target2 args2) made =
        let range : Range = record { lo = lo2; hi = hi2; target = target2; args = args2; begun = set.empty } in
        record {
          task = task;
          there = there;
          goes = goes;
          range = range;
          fresh = refl;
          is = (when_holds (lo2 == lo && hi2 == hi && grain2 == grain && target2 == target && bytes_eq args2 args) (open_scope S id task (record task { mode = at_loop }) (Some range)) T made).1;
        }
    by task there goes _ made = absurd (none_some T made)

-- A scope that is found is an old one, or the last.
pub last_or_old : (ss : List Scope) (x : Scope) (n : ℕ) (scope : Scope) → slice_get (ss ++ x ∷ []) n ≡ Some scope → (slice_get ss n ≡ Some scope) ⊎ ((n ≡ length ss) × (x ≡ scope))
last_or_old [] x zero scope h = inr (refl, some_same x scope h)
last_or_old [] x (suc n) scope h = inl h
last_or_old (s ∷ ss) x zero scope h = inl h
last_or_old (s ∷ ss) x (suc n) scope h = elim (last_or_old ss x n scope h) [
  | inl old ↦ inl old
  | inr new ↦ inr (ap suc new.0, new.1)
]

-- ---- an index begins

-- Of the loop at which the owner waits the index has begun: this is its scope.
pub record Begins (S T : State) (owner : TaskId) (index : ℕ) : Type 0 where
  pub number : ℕ
  pub range : Range
  pub there : loops_of S owner ≡ Some (record { number = number; range = range })
  pub scope : Scope
  pub scopes : T.scopes ≡ slice_set S.scopes number (record scope { range = Some (record range { begun = set.insert range.begun index }) })

module _ (program : Program) (limit : ℕ) (S T : State) (owner : TaskId) (index : ℕ) (kid : TaskId) (loop : Loop) (there : loops_of S owner ≡ Some loop) (w : WaitsAtLoop S owner loop) where
  begins_in : begin_in program limit S owner loop.number index kid w.scope (Some loop.range) ≡ Some T → Begins S T owner index
  begins_in made =
      let now : Scope = record w.scope { range = Some (record loop.range { begun = set.insert loop.range.begun index }) } in
      let M : State = record (set_task S kid (child program limit loop.number loop.range.target (index ∷ loop.range.args))) { scopes = slice_set S.scopes loop.number now } in
      record {
        number = loop.number;
        range = loop.range;
        there = there;
        scope = w.scope;
        scopes = ap (λ (x : State). x.scopes) (sym (when_holds (nat_le loop.range.lo index && nat_lt index loop.range.hi && not (set.contains loop.range.begun index) && is_new S kid) M T made).1);
      }

  pub begins_task : (task : Task) → fin.get S.tasks owner ≡ Some task → begin_at program limit S owner index kid task.opened ≡ Some T → Begins S T owner index
  begins_task task at made =
      let same : task ≡ w.task = some_same task w.task (sym at ∙ w.there) in
      let first : begin_at program limit S owner index kid (loop.number ∷ w.outer) ≡ Some T = subst (λ (xs : List ℕ). begin_at program limit S owner index kid xs ≡ Some T) (ap (λ (t : Task). t.opened) same ∙ w.opened) made in
      let f = found (λ (scope : Scope). begin_in program limit S owner loop.number index kid scope scope.range) (slice_get S.scopes loop.number) T first in
      begins_in (ap (begin_in program limit S owner loop.number index kid w.scope) (sym w.ranged)
      ∙ subst (λ (scope : Scope). begin_in program limit S owner loop.number index kid scope scope.range ≡ Some T) (some_same f.one w.scope (sym f.there ∙ w.placed)) f.made)

pub begins_so : (program : Program) (cores limit : ℕ) (S T : State) (owner : TaskId) (index : ℕ) (kid : TaskId) (loop : Loop) → loops_of S owner ≡ Some loop
    → step program cores limit S (entry.Begin owner index kid) ≡ Some T → Begins S T owner index
begins_so program cores limit S T owner index kid loop there e =
    let f = found (λ (task : Task). begin_step program limit S owner task index kid) (fin.get S.tasks owner) T e in
    begins_task program limit S T owner index kid loop there (loops_are_waited_at S owner loop there) f.one f.there
    (if_holds (is_at_loop f.one.mode) (begin_at program limit S owner index kid f.one.opened) T f.made).1

pub set_there : (ss : List Scope) (k n : ℕ) (y scope : Scope) → slice_get (slice_set ss k y) n ≡ Some scope → ((n ≡ k) × (y ≡ scope)) ⊎ ((n ≢ k) × (slice_get ss n ≡ Some scope))
set_there [] k n y scope h = absurd (none_some scope h)
set_there (s ∷ ss) zero zero y scope h = inl (refl, some_same y scope h)
set_there (s ∷ ss) zero (suc n) y scope h = inr (λ e. absurd (cc), h)
set_there (s ∷ ss) (suc k) zero y scope h = inr (λ e. absurd (cc), h)
set_there (s ∷ ss) (suc k) (suc n) y scope h = elim (set_there ss k n y scope h) [
  | inl p ↦ inl (ap suc p.0, p.1)
  | inr p ↦ inr (λ e. p.0 (down n k e), p.1)
]
  where
    down : (a b : ℕ) → suc a ≡ suc b → a ≡ b
    down a b e = cc
