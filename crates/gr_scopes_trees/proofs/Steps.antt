-- What each kind of entry does to the tree of a plain state.
use Rattle.std.proofs.Common.{◌≡◌, ◌≢◌, ◌⊎◌, ℕ, zero, suc, ◌+◌, Bool, true, false, not, ◌&&◌, if◌then◌else◌, List, [], ◌∷◌, ◌++◌, length, drop, slice_get, slice_set, inl, inr, sym, ◌∙◌, ap, subst, refl, arith, Option, Some, None}
use Rattle.std.specs.Option.{option_and_then}
use Rattle.std.specs.FinMap as fin
use Rattle.std.specs.FinSet as set
use Rattle.std.proofs.lemmas.List.{length-append, length-set}
use mathlib.Core.Path.{fun_ext}
use Rattle.gr_syntax.specs.declared.syntax.Program.{Program}
use Rattle.gr_lang.specs.declared.action.Action.{Action}
use Rattle.gr_lang.specs.declared.action.Action.TheVariants as action
use Rattle.gr_lang.specs.declared.action.How.{How}
use Rattle.gr_lang.specs.declared.action.Op.{Op}
use Rattle.gr_lang.specs.declared.action.Reply.{Reply}
use Rattle.gr_lang.specs.declared.action.TaskId.{TaskId}
use Rattle.gr_lang.specs.declared.action.TrapKind.{TrapKind}
use Rattle.gr_lang.specs.declared.action.TrapKind.TheVariants as trap
use Rattle.gr_lang.specs.Effects.{nothing}
use Rattle.gr_lang.specs.States.{Mode, at_loop, ended, trapped, Task, Scope, Range, State, id_cmp, innermost, innermost_of, is_at_loop, is_going, child, left}
use Rattle.gr_lang.specs.Steps.{set_task, when, goes_on, new_scope, open_scope, called, call_step, spawn_step, finish_step, loop_step, begin_in, begin_at, begin_step, pass_from, arrive_step, pass_step, end_step, trap_step, if_going}
use Rattle.gr_machine.specs.Slots.{same_id}
use Rattle.gr_stands.specs.Worlds.{Given}
use Rattle.gr_stands.proofs.Places.{cases_id, get_same, get_other}
use Rattle.gr_valid.proofs.Inverts.{by_found, by_going, by_loop, tells_when}
use Rattle.gr_scopes.specs.Trees.{Holder, holder_of, Tree, tree_of, put_holder, with_task, with_opened, with_empty, with_passed, with_over}
use Rattle.gr_scopes_opens.proofs.Common.{some_same, none_some, holder_at, holder_other}
use Rattle.gr_scopes_trees.specs.Laws.{Leads, Holds}
use Rattle.gr_scopes_trees.specs.Laws as laws

-- ---- holders

-- What a task holds of scopes.
abbrev held_by : Task → Holder
held_by task = record { scope = task.scope; opened = task.opened }

task_put : (S : State) (id : TaskId) (u : Task) → tree_of (set_task S id u) ≡ record (tree_of S) { holders = put_holder (tree_of S).holders id (held_by u) }
task_put S id u = ap (λ (f : TaskId → Option Holder). record (tree_of S) { holders = f }) (fun_ext (λ q. elim (cases_id q id) [
  | inl e ↦ ap (λ (x : TaskId). holder_of (fin.get (fin.insert S.tasks id u) x)) e ∙ ap holder_of (get_same S.tasks id u) ∙ sym (ap (put_holder (tree_of S).holders id (held_by u)) e ∙ holder_at (tree_of S).holders id (held_by u))
  | inr e ↦ ap holder_of (get_other S.tasks id q u e) ∙ sym (holder_other (tree_of S).holders id (held_by u) q e)
]))

-- Putting what is there changes nothing.
put_itself : (f : TaskId → Option Holder) (id : TaskId) (h : Holder) → f id ≡ Some h → put_holder f id h ≡ f
put_itself f id h at = fun_ext (λ q. elim (cases_id q id) [
  | inl e ↦ ap (put_holder f id h) e ∙ holder_at f id h ∙ sym (ap f e ∙ at)
  | inr e ↦ holder_other f id h q e
])

put_again : (f : TaskId → Option Holder) (id : TaskId) (h k : Holder) → put_holder (put_holder f id h) id k ≡ put_holder f id k
put_again f id h k = fun_ext (λ q. elim (cases_id q id) [
  | inl e ↦ ap (put_holder (put_holder f id h) id k) e ∙ holder_at (put_holder f id h) id k ∙ sym (ap (put_holder f id k) e ∙ holder_at f id k)
  | inr e ↦ holder_other (put_holder f id h) id k q e ∙ holder_other f id h q e ∙ sym (holder_other f id k q e)
])

-- A task becomes another one with the same scopes.
task_same : (S : State) (id : TaskId) (t u : Task) → fin.get S.tasks id ≡ Some t → held_by u ≡ held_by t → tree_of (set_task S id u) ≡ tree_of S
task_same S id t u at same = task_put S id u ∙ ap (λ (f : TaskId → Option Holder). record (tree_of S) { holders = f })
    (ap (put_holder (tree_of S).holders id) same ∙ put_itself (tree_of S).holders id (held_by t) (ap holder_of at))

holder_is : (S : State) (id : TaskId) (t : Task) (h : Holder) → Holds S id h → fin.get S.tasks id ≡ Some t → held_by t ≡ h
holder_is S id t h holds at = some_same (held_by t) h (sym (ap holder_of at) ∙ holds)

longer : {X : Type 0} (xs : List X) (x : X) → length (xs ++ x ∷ []) ≡ length xs + 1
longer xs x = length-append xs (x ∷ [])

-- ---- entries

module _ (given : Given) (S T : State) where
  abbrev program : Program
  program = given.program

  abbrev limit : ℕ
  limit = given.setup.steps

  -- The step of a task that goes on.
  of_going : (id : TaskId) (f : Task → Option State) → option_and_then (if_going f) (fin.get S.tasks id) ≡ Some T → (t : Task) × (fin.get S.tasks id ≡ Some t) × (f t ≡ Some T)
  of_going id f h =
      let k = by_found (fin.get S.tasks id) (if_going f) T h in
      (k.0, k.1, (by_going k.0.mode (f k.0) T k.2).1)

  call_tree : (id : TaskId) (t : Task) (op : Op) (word : Reply) → fin.get S.tasks id ≡ Some t → (x : Action) → call_step program limit S id t x op word ≡ Some T → tree_of T ≡ tree_of S
  call_tree id t op word at (action.Call due) h =
      let k = tells_when _ (called program limit S id t op word) T h in
      sym (ap tree_of k.1) ∙ task_same S id t (goes_on program limit t word) at refl
  call_tree id t op word at _ h = absurd (cc)

  spawn_tree : (id : TaskId) (t : Task) (holder : Holder) (way : How) (target : ℕ) (args : List ℕ) (kid : TaskId) → fin.get S.tasks id ≡ Some t → held_by t ≡ holder
      → (x : Action) → spawn_step program given.setup.cores limit S id t x way target args kid ≡ Some T → tree_of T ≡ with_task (tree_of S) kid (innermost_of holder.scope holder.opened)
  spawn_tree id t holder way2 target2 args2 kid at same (action.Spawn way target args) h =
      let u = goes_on program limit t nothing in
      let new = child program limit (innermost t) target args in
      let k = tells_when _ (set_task (set_task S id u) kid new) T h in
      sym (ap tree_of k.1)
      ∙ task_put (set_task S id u) kid new
      ∙ ap (λ (x : Tree). with_task x kid (innermost t)) (task_same S id t u at refl)
      ∙ ap (λ (x : Holder). with_task (tree_of S) kid (innermost_of x.scope x.opened)) same
  spawn_tree id t holder way target args kid at same _ h = absurd (cc)

  opened_tree : (id : TaskId) (t after : Task) (range : Option Range) (holder : Holder) → held_by t ≡ holder → after.scope ≡ t.scope → tree_of (open_scope S id t after range) ≡ with_opened (tree_of S) id holder
  opened_tree id t after range holder same scope =
      let u : Task = record after { opened = length S.scopes ∷ t.opened } in
      ap (λ (n : ℕ). record (tree_of (set_task S id u)) { count = n }) (longer S.scopes (new_scope t id range))
      ∙ ap (λ (x : Tree). record x { count = length S.scopes + 1 }) (task_put S id u)
      ∙ ap (λ (s : ℕ). record (tree_of S) { holders = put_holder (tree_of S).holders id (record { scope = s; opened = length S.scopes ∷ t.opened }); count = length S.scopes + 1 }) scope
      ∙ ap (λ (x : Holder). with_opened (tree_of S) id x) same

  finish_tree : (id : TaskId) (t : Task) (holder : Holder) → held_by t ≡ holder → (x : Action) → finish_step program limit S id t x ≡ Some T → tree_of T ≡ with_opened (tree_of S) id holder
  finish_tree id t holder same action.Finish h = ap tree_of (sym (some_same (open_scope S id t (goes_on program limit t nothing) None) T h)) ∙ opened_tree id t (goes_on program limit t nothing) None holder same refl
  finish_tree id t holder same _ h = absurd (cc)

  loop_tree : (id : TaskId) (t : Task) (holder : Holder) (lo hi grain target : ℕ) (args : List ℕ) → held_by t ≡ holder → (x : Action) → loop_step S id t x lo hi grain target args ≡ Some T → tree_of T ≡ with_opened (tree_of S) id holder
  loop_tree id t holder lo2 hi2 grain2 target2 args2 same (action.Loop lo hi grain target args) h =
      let waits : Task = record t { mode = at_loop } in
      let range : Option Range = Some (record { lo = lo; hi = hi; target = target; args = args; begun = set.empty }) in
      let k = tells_when _ (open_scope S id t waits range) T h in
      ap tree_of (sym k.1) ∙ opened_tree id t waits range holder same refl
  loop_tree id t holder lo hi grain target args same _ h = absurd (cc)

  begun_tree : (owner : TaskId) (number index : ℕ) (kid : TaskId) (scope : Scope) (o : Option Range) → begin_in program limit S owner number index kid scope o ≡ Some T → tree_of T ≡ with_task (tree_of S) kid number
  begun_tree owner number index kid scope None h = absurd (cc)
  begun_tree owner number index kid scope (Some range) h =
      let k = tells_when _ _ T h in
      let new = child program limit number range.target (index ∷ range.args) in
      ap tree_of (sym k.1)
      ∙ ap (λ (n : ℕ). record (tree_of (set_task S kid new)) { count = n }) (length-set S.scopes number _)
      ∙ task_put S kid new

  begin_tree : (owner : TaskId) (number : ℕ) (outer : List ℕ) (index : ℕ) (kid : TaskId) (opened : List ℕ) → opened ≡ number ∷ outer → begin_at program limit S owner index kid opened ≡ Some T → tree_of T ≡ with_task (tree_of S) kid number
  begin_tree owner number outer index kid [] e h = absurd (cc)
  begin_tree owner number outer index kid (one ∷ rest) e h =
      let first : one ≡ number = cc in
      let k = by_found (slice_get S.scopes one) (λ scope. begin_in program limit S owner one index kid scope scope.range) T h in
      begun_tree owner one index kid k.0 k.0.range k.2 ∙ ap (with_task (tree_of S) kid) first

  passed_tree : (id : TaskId) (t : Task) (holder : Holder) → held_by t ≡ holder → (opened : List ℕ) → t.opened ≡ opened → pass_from program limit S id t opened ≡ Some T → tree_of T ≡ with_passed (tree_of S) id holder
  passed_tree id t holder same [] e h = absurd (cc)
  passed_tree id t holder same (scope ∷ scopes) e h =
      let k = tells_when (not (left S scope)) (set_task S id (record (goes_on program limit t nothing) { opened = scopes })) T h in
      ap tree_of (sym k.1)
      ∙ task_put S id (record (goes_on program limit t nothing) { opened = scopes })
      ∙ ap (λ (xs : List ℕ). record (tree_of S) { holders = put_holder (tree_of S).holders id (record { scope = t.scope; opened = drop 1 xs }) }) (sym e)
      ∙ ap (λ (x : Holder). with_passed (tree_of S) id x) same

  arrive_tree : (id : TaskId) (t : Task) (holder : Holder) → held_by t ≡ holder → (x : Action) → arrive_step program limit S id t x ≡ Some T → tree_of T ≡ with_passed (tree_of S) id holder
  arrive_tree id t holder same action.Arrive h = passed_tree id t holder same t.opened refl h
  arrive_tree id t holder same _ h = absurd (cc)

  pass_tree : (id : TaskId) (t : Task) (holder : Holder) → held_by t ≡ holder → pass_step program limit S id t ≡ Some T → tree_of T ≡ with_passed (tree_of S) id holder
  pass_tree id t holder same h = by (is_at_loop t.mode) h
    where
      goes : (b : Bool) → (if b then arrive_step program limit S id t t.action else None) ≡ Some T → tree_of T ≡ with_passed (tree_of S) id holder
      goes true h = arrive_tree id t holder same t.action h
      goes false h = absurd (cc)

      by : (b : Bool) → (if b then pass_from program limit S id t t.opened else (if is_going t.mode then arrive_step program limit S id t t.action else None)) ≡ Some T → tree_of T ≡ with_passed (tree_of S) id holder
      by true h = passed_tree id t holder same t.opened refl h
      by false h = goes (is_going t.mode) h

  end_tree : (id : TaskId) (t : Task) → fin.get S.tasks id ≡ Some t → (x : Action) → end_step S id t x ≡ Some T → tree_of T ≡ tree_of S
  end_tree id t at action.End h = ap tree_of (sym (some_same (set_task S id (record t { mode = ended })) T h)) ∙ task_same S id t (record t { mode = ended }) at refl
  end_tree id t at _ h = absurd (cc)

  trap_tree : (id : TaskId) (t : Task) → fin.get S.tasks id ≡ Some t → (x : Action) (kind : TrapKind) → trap_step given.setup.cores S id t x kind ≡ Some T → tree_of T ≡ tree_of S
  trap_tree id t at (action.Trap kind) kind2 h =
      let k = tells_when _ (set_task S id (record t { mode = trapped })) T h in
      ap tree_of (sym k.1) ∙ task_same S id t (record t { mode = trapped }) at refl
  trap_tree id t at (action.Spawn way target args) trap.Core h =
      let k = tells_when _ (set_task S id (record t { mode = trapped })) T h in
      ap tree_of (sym k.1) ∙ task_same S id t (record t { mode = trapped }) at refl
  trap_tree id t at _ kind h = absurd (cc)

-- ---- the laws

pub calls_leave_trees : laws.CallsLeaveTrees
calls_leave_trees given S T id op word h =
    let k = of_going given S T id (λ t. call_step given.program given.setup.steps S id t t.action op word) h in
    call_tree given S T id k.0 op word k.1 k.0.action k.2

pub ends_leave_trees : laws.EndsLeaveTrees
ends_leave_trees given S T id h =
    let k = of_going given S T id (λ t. end_step S id t t.action) h in
    end_tree given S T id k.0 k.1 k.0.action k.2

pub traps_leave_trees : laws.TrapsLeaveTrees
traps_leave_trees given S T id kind h =
    let k = of_going given S T id (λ t. trap_step given.setup.cores S id t t.action kind) h in
    trap_tree given S T id k.0 k.1 k.0.action kind k.2

pub spawns_make_tasks : laws.SpawnsMakeTasks
spawns_make_tasks given S T id holder way target args kid holds h =
    let k = of_going given S T id (λ t. spawn_step given.program given.setup.cores given.setup.steps S id t t.action way target args kid) h in
    spawn_tree given S T id k.0 holder way target args kid k.1 (holder_is S id k.0 holder holds k.1) k.0.action k.2

pub finishes_open_scopes : laws.FinishesOpenScopes
finishes_open_scopes given S T id holder holds h =
    let k = of_going given S T id (λ t. finish_step given.program given.setup.steps S id t t.action) h in
    finish_tree given S T id k.0 holder (holder_is S id k.0 holder holds k.1) k.0.action k.2

pub loops_open_scopes : laws.LoopsOpenScopes
loops_open_scopes given S T id holder lo hi grain target args holds h =
    let k = of_going given S T id (λ t. loop_step S id t t.action lo hi grain target args) h in
    loop_tree given S T id k.0 holder lo hi grain target args (holder_is S id k.0 holder holds k.1) k.0.action k.2

pub indices_make_tasks : laws.IndicesMakeTasks
indices_make_tasks given S T owner holder number outer index kid holds is h =
    let k = by_found (fin.get S.tasks owner) (λ t. begin_step given.program given.setup.steps S owner t index kid) T h in
    begin_tree given S T owner number outer index kid k.0.opened (ap (λ (x : Holder). x.opened) (holder_is S owner k.0 holder holds k.1) ∙ is)
    (by_loop k.0.mode (begin_at given.program given.setup.steps S owner index kid k.0.opened) T k.2).1

pub passes_leave_scopes : laws.PassesLeaveScopes
passes_leave_scopes given S T id holder holds h =
    let k = by_found (fin.get S.tasks id) (λ t. pass_step given.program given.setup.steps S id t) T h in
    pass_tree given S T id k.0 holder (holder_is S id k.0 holder holds k.1) k.2

pub empty_loops_leave_scopes : laws.EmptyLoopsLeaveScopes
empty_loops_leave_scopes given S M T id lo hi grain target args h p =
    let k = of_going given S M id (λ t. loop_step S id t t.action lo hi grain target args) h in
    let holder = held_by k.0 in
    let tree = tree_of S in
    let more : Holder = record holder { opened = tree.count ∷ holder.opened } in
    let opens : tree_of M ≡ with_opened tree id holder = loop_tree given S M id k.0 holder lo hi grain target args refl k.0.action k.2 in
    let holds : Holds M id more = ap (λ (x : Tree). x.holders id) opens ∙ holder_at tree.holders id more in
    passes_leave_scopes given M T id more holds p
    ∙ ap (λ (x : Tree). with_passed x id more) opens
    ∙ ap (λ (f : TaskId → Option Holder). record tree { holders = f; count = tree.count + 1 }) (put_again tree.holders id more holder ∙ put_itself tree.holders id holder (ap holder_of k.1))

pub over_leaves_the_root : laws.OverLeavesTheRoot
over_leaves_the_root given S T h =
    let k = tells_when _ (record S { passed = true }) T h in
    ap tree_of (sym k.1)
