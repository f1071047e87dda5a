-- What is written of a legal history names it again.
use Rattle.std.proofs.Common.{◌≡◌, ℕ, ◌==◌, Bool, true, false, List, [], ◌∷◌, map, slice_get, take, Option, Some, None, unwrap_or, refl, sym, ap, ap₂, subst, codes, true≢false, eqb-true, ◌∙◌}
use Rattle.std.specs.Prelude.{if◌then◌else◌}
use Rattle.std.specs.Option.{option_and_then, option_map}
use Rattle.std.specs.Str.{bytes_eq}
use Rattle.std.specs.FinMap as fin
use Rattle.std.proofs.lemmas.Bool.{and_parts, false_from_ne_true}
use Rattle.std.proofs.lemmas.List.Elements.{All-head, All-tail}
use Rattle.std.proofs.lemmas.Option.{cond_some, option_and_then_some}
use Rattle.std.proofs.lemmas.Slice.Eq.{bytes_eq-Decides}
use Rattle.gr_syntax.specs.declared.limits.TheConstants.{HEAP}
use Rattle.gr_syntax.specs.declared.syntax.Program.{Program}
use Rattle.gr_syntax.specs.Names.{has, is_name}
use Rattle.gr_syntax.specs.Items.{TaskText, object_named, object_names, task_named, tasks_of}
use Rattle.gr_names.specs.Numbered.{name_at, object_name, task_name, task_names}
use Rattle.gr_names.proofs.Positions.{position-map}
use Rattle.gr_accept.specs.Operations.{argument_count}
use Rattle.gr_lang.specs.declared.action.Action.{Action}
use Rattle.gr_lang.specs.declared.action.Action.TheVariants as action
use Rattle.gr_lang.specs.declared.action.Entry.{Entry}
use Rattle.gr_lang.specs.declared.action.Entry.TheVariants as plain
use Rattle.gr_lang.specs.declared.action.Op.{Op}
use Rattle.gr_lang.specs.declared.action.Op.TheVariants as op
use Rattle.gr_lang.specs.declared.action.Parts.{Parts}
use Rattle.gr_lang.specs.declared.action.Parts.TheVariants as parts
use Rattle.gr_lang.specs.declared.action.Reply.{Reply}
use Rattle.gr_lang.specs.declared.action.TaskId.{TaskId}
use Rattle.gr_lang.specs.Effects.{nothing, word_reply}
use Rattle.gr_lang.specs.Fields.{same_reply}
use Rattle.gr_lang.specs.Histories.{after}
use Rattle.gr_lang.specs.Objects.{Object, Objects, alloc_at, array, at_address, at_object, address, call, keys, line, on_key, on_line, pairs, start_for}
use Rattle.gr_lang.specs.Parts.{parts_of, same_op}
use Rattle.gr_lang.specs.States.{State, Task, is_going}
use Rattle.gr_lang.specs.Steps.{step, call_step, called, if_going}
use Rattle.gr_hist.specs.Grammar.{HasNames}
use Rattle.gr_hist.specs.Names.{is_object_name}
use Rattle.gr_hist.specs.Naming.{IsNamable, named, named_parts, reply_words}
use Rattle.gr_hist.proofs.Spelled.{any_false}
use Rattle.gr_replay.specs.Entries.{call_at, entry_in, reply_of}
use Rattle.gr_replay.specs.Judged.{Names}
use Rattle.gr_replay.proofs.Uniques.{IsOnce}

-- Replies.

-- The words that are written of a reply say the whole reply.
abbrev IsSaid : Parts → Reply → Type 0
IsSaid (parts.Call operation object reducer words) reply = reply_of (reply_words operation reply) ≡ reply
IsSaid (parts.Print word) reply = nothing ≡ reply

-- Of a call on a word, on a key and on a vector, where each reply that the call can have is said.
word_said : (call : Op) (at : Option ℕ) (objects : Objects) → IsSaid (parts_of call) nothing → ((word : ℕ) → IsSaid (parts_of call) (word_reply call word)) → IsSaid (parts_of call) (at_address at call objects).1
word_said call None objects none some = none
word_said call (Some at) objects none some = some _

thing_said : (call : Op) (thing : Option Object) (object : ℕ) (f : Object → Object × Reply) (objects : Objects) → IsSaid (parts_of call) nothing → ((x : Object) → IsSaid (parts_of call) (f x).1)
    → IsSaid (parts_of call) (at_object thing object f objects).1
thing_said call None object f objects none some = none
thing_said call (Some thing) object f objects none some = some thing

line_said : (call : Op) → IsSaid (parts_of call) nothing → ((words : List ℕ) → IsSaid (parts_of call) (on_line call (line words)).1) → (thing : Object) → IsSaid (parts_of call) (on_line call thing).1
line_said call none some (array from count) = none
line_said call none some (keys held) = none
line_said call none some (pairs held) = none
line_said call none some (line words) = some words

alloc_said : (start : Option ℕ) (count : ℕ) (objects : Objects) → IsSaid (parts_of (op.Alloc count)) (alloc_at start count objects).1
alloc_said None count objects = refl
alloc_said (Some start) count objects = refl

call_said : (one : Op) (objects : Objects) → IsSaid (parts_of one) (call one objects).1
call_said (op.Read object place) objects = word_said (op.Read object place) (address objects object place) objects refl (λ word. refl)
call_said (op.Write object place word) objects = word_said (op.Write object place word) (address objects object place) objects refl (λ before. refl)
call_said (op.Add object place word) objects = word_said (op.Add object place word) (address objects object place) objects refl (λ before. refl)
call_said (op.Cas object place old new) objects = word_said (op.Cas object place old new) (address objects object place) objects refl (λ before. refl)
call_said (op.Reduce object reducer place word) objects = word_said (op.Reduce object reducer place word) (address objects object place) objects refl (λ before. refl)
call_said (op.Insert object key) objects = thing_said (op.Insert object key) (slice_get objects.things object) object (on_key key (op.Insert object key)) objects refl (λ thing. refl)
call_said (op.Remove object key) objects = thing_said (op.Remove object key) (slice_get objects.things object) object (on_key key (op.Remove object key)) objects refl (λ thing. refl)
call_said (op.Has object key) objects = thing_said (op.Has object key) (slice_get objects.things object) object (on_key key (op.Has object key)) objects refl (λ thing. refl)
call_said (op.Put object key word) objects = thing_said (op.Put object key word) (slice_get objects.things object) object (on_key key (op.Put object key word)) objects refl (λ thing. refl)
call_said (op.Get object key) objects = refl
call_said (op.Erase object key) objects = thing_said (op.Erase object key) (slice_get objects.things object) object (on_key key (op.Erase object key)) objects refl (λ thing. refl)
call_said (op.Merge object reducer key word) objects =
    thing_said (op.Merge object reducer key word) (slice_get objects.things object) object (on_key key (op.Merge object reducer key word)) objects refl (λ thing. refl)
call_said (op.Push object word) objects =
    thing_said (op.Push object word) (slice_get objects.things object) object (on_line (op.Push object word)) objects refl (line_said (op.Push object word) refl (λ words. refl))
call_said (op.Pop object) objects = refl
call_said (op.Dequeue object) objects = refl
call_said (op.Alloc count) objects = alloc_said (start_for objects count) count objects
call_said (op.Free place) objects = refl
call_said (op.Print word) objects = refl

-- Steps.

same_is : (one other : Reply) → same_reply one other ≡ true → one ≡ other
same_is one other h =
    let same = and_parts (one.first == other.first) (one.second == other.second) h in
    let firsts : one.first ≡ other.first = eqb-true one.first other.first same.0 in
    let seconds : one.second ≡ other.second = eqb-true one.second other.second same.1 in
    λ j. record { first = firsts j; second = seconds j }

module _ (program : Program) (cores limit : ℕ) where
  call_due : (state next : State) (id : TaskId) (task : Task) (due : Action) (one : Op) (reply : Reply) → call_step program limit state id task due one reply ≡ Some next → reply ≡ (call one state.objects).1
  call_due state next id task (action.Call due) one reply h =
      same_is reply (call one state.objects).1
      (and_parts (same_op due one) (same_reply reply (call one state.objects).1) (cond_some _ (called program limit state id task one reply) next h).0).1
  call_due state next id task (action.Spawn way target args) one reply h = cc
  call_due state next id task action.Finish one reply h = cc
  call_due state next id task action.Arrive one reply h = cc
  call_due state next id task (action.Loop lo hi grain target args) one reply h = cc
  call_due state next id task action.End one reply h = cc
  call_due state next id task (action.Trap kind) one reply h = cc

  -- A legal call has the reply of its object.
  call_reply : (state next : State) (id : TaskId) (one : Op) (reply : Reply) → step program cores limit state (plain.Call id one reply) ≡ Some next → reply ≡ (call one state.objects).1
  call_reply state next id one reply h =
      option_and_then_some (if_going (λ task. call_step program limit state id task task.action one reply)) (fin.get state.tasks id) next h (λ task is_task. going task (is_going task.mode))
    where
      going : (task : Task) (test : Bool) → (if test then call_step program limit state id task task.action one reply else None) ≡ Some next → reply ≡ (call one state.objects).1
      going task true h = call_due state next id task task.action one reply h
      going task false h = cc

  -- So the words that are written of it say it whole.
  reply_said : (state next : State) (id : TaskId) (one : Op) (reply : Reply) → step program cores limit state (plain.Call id one reply) ≡ Some next → IsSaid (parts_of one) reply
  reply_said state next id one reply h = subst (IsSaid (parts_of one)) (sym (call_reply state next id one reply h)) (call_said one state.objects)

-- Calls.

-- Put together from its parts, with as many words as it takes, the call is named again.
abbrev IsTogether : TaskId → Op → Reply → Parts → Type 0
IsTogether task one reply (parts.Call operation object reducer words) =
    call_at task operation reducer (take (argument_count operation) words) (reply_words operation reply) object ≡ Some (plain.Call task one (reply_of (reply_words operation reply)))
IsTogether task one reply (parts.Print word) = one ≡ op.Print word

together : (task : TaskId) (one : Op) (reply : Reply) → IsTogether task one reply (parts_of one)
together task (op.Read object place) reply = refl
together task (op.Write object place word) reply = refl
together task (op.Add object place word) reply = refl
together task (op.Cas object place old new) reply = refl
together task (op.Reduce object reducer place word) reply = refl
together task (op.Insert object key) reply = refl
together task (op.Remove object key) reply = refl
together task (op.Has object key) reply = refl
together task (op.Put object key word) reply = refl
together task (op.Get object key) reply = refl
together task (op.Erase object key) reply = refl
together task (op.Merge object reducer key word) reply = refl
together task (op.Push object word) reply = refl
together task (op.Pop object) reply = refl
together task (op.Dequeue object) reply = refl
together task (op.Alloc count) reply = refl
together task (op.Free place) reply = refl
together task (op.Print word) reply = refl

module _ (program : Program) (once : IsOnce (object_names program.items)) (tasks : IsOnce (task_names program.items)) (no_heap : has (object_names program.items) (codes "heap") ≡ false) where
  -- Names.

  no_other : (name : List ℕ) → bytes_eq (codes "heap") name ≡ false → bytes_eq name (codes "heap") ≡ false
  no_other name h = false_from_ne_true (bytes_eq name (codes "heap"))
      (λ same. true≢false (sym ((bytes_eq-Decides (codes "heap") name).1 (sym ((bytes_eq-Decides name (codes "heap")).0 same))) ∙ h))

  object_found : (number : ℕ) (found : Option (List ℕ)) → slice_get (object_names program.items) number ≡ found → is_object_name (unwrap_or found []) ≡ true
      → object_named program (unwrap_or found []) ≡ Some number
  object_found number None at h = absurd (true≢false (sym h))
  object_found number (Some name) at h =
      rw (no_other name (any_false (bytes_eq (codes "heap")) (object_names program.items) number name no_heap at)) (once number name at)

  -- The name of an object's number has that number.
  object_back : (number : ℕ) → is_object_name (object_name program number) ≡ true → object_named program (object_name program number) ≡ Some number
  object_back number h = by (number == HEAP) refl h
    where
      by : (test : Bool) → number == HEAP ≡ test → is_object_name (if test then codes "heap" else name_at (object_names program.items) number) ≡ true
          → object_named program (if test then codes "heap" else name_at (object_names program.items) number) ≡ Some number
      by true is_heap h = ap (λ (n : ℕ). Some n) (sym (eqb-true number HEAP is_heap))
      by false is_heap h = object_found number (slice_get (object_names program.items) number) refl h

  task_found : (number : ℕ) (found : Option (List ℕ)) → slice_get (task_names program.items) number ≡ found → is_name (unwrap_or found []) ≡ true → task_named program (unwrap_or found []) ≡ Some number
  task_found number None at h = absurd (true≢false (sym h))
  task_found number (Some name) at h = sym (position-map (bytes_eq name) (λ (task : TaskText). task.name) (tasks_of program.items)) ∙ tasks number name at

  task_back : (number : ℕ) → is_name (task_name program number) ≡ true → task_named program (task_name program number) ≡ Some number
  task_back number h = task_found number (slice_get (task_names program.items) number) refl h

  -- A call with its whole reply is named again.
  call_back : (task : TaskId) (one : Op) (reply : Reply) (apart : Parts) → IsTogether task one reply apart → IsSaid apart reply → HasNames (named_parts program task apart reply)
      → entry_in program (named_parts program task apart reply) ≡ Some (plain.Call task one reply)
  unfolding entry_in
  call_back task one reply (parts.Call operation object reducer words) whole said names =
      ap (option_and_then (call_at task operation reducer (take (argument_count operation) words) (reply_words operation reply))) (object_back object names.0)
      ∙ whole
      ∙ ap (λ (r : Reply). Some (plain.Call task one r)) said
  call_back task one reply (parts.Print word) whole said names = ap₂ (λ (o : Op) (r : Reply). Some (plain.Call task o r)) (sym whole) said

  -- A legal entry is named again.
  entry_back : (cores limit : ℕ) (state next : State) (x : Entry) → step program cores limit state x ≡ Some next → HasNames (named program x) → entry_in program (named program x) ≡ Some x
  unfolding entry_in
  entry_back cores limit state next (plain.Call task one reply) h names = call_back task one reply (parts_of one) (together task one reply) (reply_said program cores limit state next task one reply h) names
  entry_back cores limit state next (plain.Spawn task way target args child) h names = ap (option_map (λ number. plain.Spawn task way number args child)) (task_back target names)
  entry_back cores limit state next (plain.Finish task) h names = refl
  entry_back cores limit state next (plain.Loop task lo hi grain target args) h names = ap (option_map (λ number. plain.Loop task lo hi grain number args)) (task_back target names)
  entry_back cores limit state next (plain.Begin owner index child) h names = refl
  entry_back cores limit state next (plain.Pass task) h names = refl
  entry_back cores limit state next (plain.End task) h names = refl
  entry_back cores limit state next (plain.Trap task kind) h names = refl
  entry_back cores limit state next plain.Over h names = refl

  -- A legal history is named again.
  pub history_back : (cores limit : ℕ) (history : List Entry) (state last : State) → after program cores limit state history ≡ Some last → IsNamable program history
      → Names program (map (named program) history) history
  history_back cores limit [] state last h namable = refl
  history_back cores limit (x ∷ xs) state last h namable =
      option_and_then_some (λ next. after program cores limit next xs) (step program cores limit state x) last h
      (λ next is_step others. ap₂ (λ (head : Option Entry) (tail : List (Option Entry)). head ∷ tail)
      (entry_back cores limit state next x is_step (All-head (λ y. HasNames (named program y)) x xs namable))
      (history_back cores limit xs next last others (All-tail (λ y. HasNames (named program y)) x xs namable)))
