-- A plain step leaves the words of a vector, unless it is a call of that vector.
use Rattle.std.proofs.Common.{◌≡◌, ◌≢◌, ℕ, zero, suc, Bool, true, false, if◌then◌else◌, List, [], ◌∷◌, slice_get, slice_set, inl, inr, sym, ◌∙◌, ap, refl, Option, Some, None}
use Rattle.std.proofs.lemmas.Bool.{cases_eq}
use Rattle.std.specs.FinMap as fin
use Rattle.std.specs.Option.{option_and_then}
use Rattle.gr_syntax.specs.declared.syntax.Program.{Program}
use Rattle.gr_lang.specs.declared.action.Action.{Action}
use Rattle.gr_lang.specs.declared.action.Action.TheVariants as action
use Rattle.gr_lang.specs.declared.action.Entry.{Entry}
use Rattle.gr_lang.specs.declared.action.Entry.TheVariants as entry
use Rattle.gr_lang.specs.declared.action.How.{How}
use Rattle.gr_lang.specs.declared.action.Op.{Op}
use Rattle.gr_lang.specs.declared.action.Op.TheVariants as op
use Rattle.gr_lang.specs.declared.action.Reply.{Reply}
use Rattle.gr_lang.specs.declared.action.TaskId.{TaskId}
use Rattle.gr_lang.specs.declared.action.TrapKind.{TrapKind}
use Rattle.gr_lang.specs.declared.action.TrapKind.TheVariants as trap
use Rattle.gr_lang.specs.Objects.{Object, line, Objects, address, at_address, on_line, on_key, at_object, call, start_for, alloc_at}
use Rattle.gr_lang.specs.States.{Task, Range, Scope, State, is_going, is_at_loop}
use Rattle.gr_lang.specs.Steps.{step, when, called, call_step, spawn_step, finish_step, loop_step, begin_in, begin_at, begin_step, pass_from, arrive_step, pass_step, end_step, trap_step, of_task, if_going}
use Rattle.gr_stands_turns.proofs.Lines.{set_other, set_there}
use Rattle.gr_elements_lines.specs.Lines.{HasLine, LeavesLine, EntryLeaves}

-- ---- lists

some_same : {X : Type 0} (x y : X) → Some x ≡ Some y → x ≡ y
some_same x y e = cc

-- ---- calls

module _ (S : Objects) (number : ℕ) (words : List ℕ) (there : slice_get S.things number ≡ Some (line words)) where
  abbrev Has : Objects → Type 0
  Has after = slice_get after.things number ≡ Some (line words)

  word_leaves : (at : Option ℕ) (o : Op) → Has (at_address at o S).0
  word_leaves None o = there
  word_leaves (Some at) o = there

  -- What becomes of another object, and of a line that stays.
  object_leaves : (object : ℕ) (f : Object → Object × Reply) → (object ≡ number → (f (line words)).0 ≡ line words) → (o : Option Object) → slice_get S.things object ≡ o → Has (at_object o object f S).0
  object_leaves object f same None here = there
  object_leaves object f same (Some thing) here = elim (cases_eq number object) [
    | inr ne ↦ set_other S.things object number (f thing).0 ne ∙ there
    | inl q ↦
        let is : thing ≡ line words = some_same thing (line words) (sym here ∙ ap (slice_get S.things) (sym q) ∙ there) in
        ap (λ (k : ℕ). slice_get (slice_set S.things k (f thing).0) number) (sym q) ∙ set_there S.things number (f thing).0 (line words) there
        ∙ ap (λ (x : Object). Some (f x).0) is ∙ ap (λ (x : Object). Some x) (same (sym q))
  ]

  alloc_leaves : (at : Option ℕ) (count : ℕ) → Has (alloc_at at count S).0
  alloc_leaves None count = there
  alloc_leaves (Some at) count = there

  pub call_leaves : (o : Op) → LeavesLine number o → Has (call o S).0
  call_leaves (op.Read object place) l = word_leaves (address S object place) (op.Read object place)
  call_leaves (op.Write object place word) l = word_leaves (address S object place) (op.Write object place word)
  call_leaves (op.Add object place word) l = word_leaves (address S object place) (op.Add object place word)
  call_leaves (op.Cas object place old new) l = word_leaves (address S object place) (op.Cas object place old new)
  call_leaves (op.Reduce object reducer place word) l = word_leaves (address S object place) (op.Reduce object reducer place word)
  call_leaves (op.Insert object key) l = object_leaves object (on_key key (op.Insert object key)) (λ q. refl) (slice_get S.things object) refl
  call_leaves (op.Remove object key) l = object_leaves object (on_key key (op.Remove object key)) (λ q. refl) (slice_get S.things object) refl
  call_leaves (op.Has object key) l = object_leaves object (on_key key (op.Has object key)) (λ q. refl) (slice_get S.things object) refl
  call_leaves (op.Put object key word) l = object_leaves object (on_key key (op.Put object key word)) (λ q. refl) (slice_get S.things object) refl
  call_leaves (op.Get object key) l = object_leaves object (on_key key (op.Get object key)) (λ q. refl) (slice_get S.things object) refl
  call_leaves (op.Erase object key) l = object_leaves object (on_key key (op.Erase object key)) (λ q. refl) (slice_get S.things object) refl
  call_leaves (op.Merge object reducer key word) l = object_leaves object (on_key key (op.Merge object reducer key word)) (λ q. refl) (slice_get S.things object) refl
  call_leaves (op.Push object word) l = object_leaves object (on_line (op.Push object word)) (λ q. absurd (l q)) (slice_get S.things object) refl
  call_leaves (op.Pop object) l = object_leaves object (on_line (op.Pop object)) (λ q. absurd (l q)) (slice_get S.things object) refl
  call_leaves (op.Dequeue object) l = object_leaves object (on_line (op.Dequeue object)) (λ q. absurd (l q)) (slice_get S.things object) refl
  call_leaves (op.Alloc count) l = alloc_leaves (start_for S count) count
  call_leaves (op.Free place) l = there
  call_leaves (op.Print word) l = there

-- ---- steps

module _ (program : Program) (cores limit : ℕ) (S : State) (number : ℕ) (words : List ℕ) (there : HasLine number words S) where
  -- Where there is a state, it has the line.
  abbrev pub Holds : Option State → Type 0
  Holds None = Unit
  Holds (Some next) = HasLine number words next

  if_so : (b : Bool) (next : State) → HasLine number words next → Holds (when b next)
  if_so true next h = h
  if_so false next h = tt

  task_is : (id : TaskId) (f : Task → Option State) → ((task : Task) → Holds (f task)) → Holds (of_task S id f)
  task_is id f h = by (fin.get S.tasks id)
    where
      by : (o : Option Task) → Holds (option_and_then f o)
      by None = tt
      by (Some task) = h task

  goes : (f : Task → Option State) → ((task : Task) → Holds (f task)) → (task : Task) → Holds (if_going f task)
  goes f h task = by (is_going task.mode)
    where
      by : (b : Bool) → Holds (if b then f task else None)
      by true = h task
      by false = tt

  call_holds : (id : TaskId) (o : Op) (reply : Reply) → LeavesLine number o → (task : Task) (due : Action) → Holds (call_step program limit S id task due o reply)
  call_holds id o reply l task (action.Call other) = if_so _ (called program limit S id task o reply) (call_leaves S.objects number words there o l)
  call_holds id o reply l task (action.Spawn way target args) = tt
  call_holds id o reply l task action.Finish = tt
  call_holds id o reply l task action.Arrive = tt
  call_holds id o reply l task (action.Loop lo hi grain target args) = tt
  call_holds id o reply l task action.End = tt
  call_holds id o reply l task (action.Trap kind) = tt

  spawn_holds : (id : TaskId) (way : How) (target : ℕ) (args : List ℕ) (kid : TaskId) (task : Task) (due : Action) → Holds (spawn_step program cores limit S id task due way target args kid)
  spawn_holds id way target args kid task (action.Spawn way2 target2 args2) = if_so _ _ there
  spawn_holds id way target args kid task (action.Call other) = tt
  spawn_holds id way target args kid task action.Finish = tt
  spawn_holds id way target args kid task action.Arrive = tt
  spawn_holds id way target args kid task (action.Loop lo hi grain target2 args2) = tt
  spawn_holds id way target args kid task action.End = tt
  spawn_holds id way target args kid task (action.Trap kind) = tt

  finish_holds : (id : TaskId) (task : Task) (due : Action) → Holds (finish_step program limit S id task due)
  finish_holds id task action.Finish = there
  finish_holds id task (action.Call other) = tt
  finish_holds id task (action.Spawn way target args) = tt
  finish_holds id task action.Arrive = tt
  finish_holds id task (action.Loop lo hi grain target args) = tt
  finish_holds id task action.End = tt
  finish_holds id task (action.Trap kind) = tt

  loop_holds : (id : TaskId) (lo hi grain target : ℕ) (args : List ℕ) (task : Task) (due : Action) → Holds (loop_step S id task due lo hi grain target args)
  loop_holds id lo hi grain target args task (action.Loop lo2 hi2 grain2 target2 args2) = if_so _ _ there
  loop_holds id lo hi grain target args task (action.Call other) = tt
  loop_holds id lo hi grain target args task (action.Spawn way target2 args2) = tt
  loop_holds id lo hi grain target args task action.Finish = tt
  loop_holds id lo hi grain target args task action.Arrive = tt
  loop_holds id lo hi grain target args task action.End = tt
  loop_holds id lo hi grain target args task (action.Trap kind) = tt

  begin_holds : (owner : TaskId) (index : ℕ) (kid : TaskId) (task : Task) → Holds (begin_step program limit S owner task index kid)
  begin_holds owner index kid task = by (is_at_loop task.mode) task.opened
    where
      ranged : (at : ℕ) (scope : Scope) (range : Option Range) → Holds (begin_in program limit S owner at index kid scope range)
      ranged at scope None = tt
      ranged at scope (Some range) = if_so _ _ there

      scoped : (at : ℕ) (o : Option Scope) → Holds (option_and_then (λ scope. begin_in program limit S owner at index kid scope scope.range) o)
      scoped at None = tt
      scoped at (Some scope) = ranged at scope scope.range

      by : (b : Bool) (opened : List ℕ) → Holds (if b then begin_at program limit S owner index kid opened else None)
      by true [] = tt
      by true (at ∷ outer) = scoped at (slice_get S.scopes at)
      by false opened = tt

  pass_holds : (id : TaskId) (task : Task) → Holds (pass_step program limit S id task)
  pass_holds id task = by (is_at_loop task.mode) (is_going task.mode)
    where
      from : (opened : List ℕ) → Holds (pass_from program limit S id task opened)
      from [] = tt
      from (scope ∷ scopes) = if_so _ _ there

      arrives : (due : Action) → Holds (arrive_step program limit S id task due)
      arrives action.Arrive = from task.opened
      arrives action.Finish = tt
      arrives (action.Call other) = tt
      arrives (action.Spawn way target args) = tt
      arrives (action.Loop lo hi grain target args) = tt
      arrives action.End = tt
      arrives (action.Trap kind) = tt

      by : (a b : Bool) → Holds (if a then pass_from program limit S id task task.opened else (if b then arrive_step program limit S id task task.action else None))
      by true b = from task.opened
      by false true = arrives task.action
      by false false = tt

  end_holds : (id : TaskId) (task : Task) (due : Action) → Holds (end_step S id task due)
  end_holds id task action.End = there
  end_holds id task (action.Call other) = tt
  end_holds id task (action.Spawn way target args) = tt
  end_holds id task action.Finish = tt
  end_holds id task action.Arrive = tt
  end_holds id task (action.Loop lo hi grain target args) = tt
  end_holds id task (action.Trap kind) = tt

  trap_holds : (id : TaskId) (kind : TrapKind) (task : Task) (due : Action) → Holds (trap_step cores S id task due kind)
  trap_holds id kind task (action.Trap kind2) = if_so _ _ there
  trap_holds id trap.Core task (action.Spawn way target args) = if_so _ _ there
  trap_holds id trap.Div task (action.Spawn way target args) = tt
  trap_holds id trap.Place task (action.Spawn way target args) = tt
  trap_holds id trap.Steps task (action.Spawn way target args) = tt
  trap_holds id kind task (action.Call other) = tt
  trap_holds id kind task action.Finish = tt
  trap_holds id kind task action.Arrive = tt
  trap_holds id kind task (action.Loop lo hi grain target args) = tt
  trap_holds id kind task action.End = tt

  pub step_holds : (e : Entry) → EntryLeaves number e → Holds (step program cores limit S e)
  step_holds (entry.Call id o reply) l = task_is id _ (goes _ (λ task. call_holds id o reply l task task.action))
  step_holds (entry.Spawn id way target args kid) l = task_is id _ (goes _ (λ task. spawn_holds id way target args kid task task.action))
  step_holds (entry.Finish id) l = task_is id _ (goes _ (λ task. finish_holds id task task.action))
  step_holds (entry.Loop id lo hi grain target args) l = task_is id _ (goes _ (λ task. loop_holds id lo hi grain target args task task.action))
  step_holds (entry.Begin owner index kid) l = task_is owner _ (begin_holds owner index kid)
  step_holds (entry.Pass id) l = task_is id _ (pass_holds id)
  step_holds (entry.End id) l = task_is id _ (goes _ (λ task. end_holds id task task.action))
  step_holds (entry.Trap id kind) l = task_is id _ (goes _ (λ task. trap_holds id kind task task.action))
  step_holds entry.Over l = if_so _ _ there
