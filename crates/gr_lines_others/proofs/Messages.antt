-- Messages that are of no turn leave lines.
use Rattle.std.proofs.Common.{◌≡◌, ℕ, ◌==◌, ◌&&◌, ◌||◌, not, Bool, true, false, nat_lt, if◌then◌else◌, List, [], ◌∷◌, sym, subst, refl, Option, Some, None, is_some}
use Rattle.std.proofs.lemmas.Bool.{and_parts}
use Rattle.std.specs.List.{list_all, list_any}
use Rattle.gr_syntax.specs.declared.limits.TheConstants.{HEAP}
use Rattle.gr_lang.specs.declared.action.Action.{Action}
use Rattle.gr_lang.specs.declared.action.Action.TheVariants as action
use Rattle.gr_lang.specs.declared.action.Effect.{Effect}
use Rattle.gr_lang.specs.declared.action.Op.{Op}
use Rattle.gr_lang.specs.declared.action.Reply.{Reply}
use Rattle.gr_lang.specs.declared.action.TaskId.{TaskId}
use Rattle.gr_lang.specs.declared.action.WaitingCall.{WaitingCall}
use Rattle.gr_lang.specs.Effects.{reply, after, effect_of}
use Rattle.gr_lang.specs.Objects.{Object, array, keys, pairs, line, start_in}
use Rattle.gr_msg.specs.declared.message.Msg.{Msg}
use Rattle.gr_msg.specs.declared.message.Msg.TheVariants as msg
use Rattle.gr_msg.specs.declared.message.ScopeId.{ScopeId}
use Rattle.gr_batch.specs.Folding.{wakes_of}
use Rattle.gr_event.specs.Counts.{waiting_slots, when_acked, completed, left_of}
use Rattle.gr_event.specs.Masters.{released, release_of}
use Rattle.gr_event.specs.declared.counts.LocalCount.{LocalCount}
use Rattle.gr_event.specs.declared.counts.LocalLeft.{LocalLeft}
use Rattle.gr_event.specs.declared.counts.LocalLeft.TheVariants as rest
use Rattle.gr_event.specs.declared.masters.Release.{Release}
use Rattle.gr_event.specs.declared.masters.Release.TheVariants as release
use Rattle.gr_event.specs.declared.masters.Waiter.TheVariants as waiter
use Rattle.gr_net.specs.Sums.{Each}
use Rattle.gr_machine.specs.Machines.{Machine, thing, home, place, is_core}
use Rattle.gr_machine.specs.States.{Suspended, Body}
use Rattle.gr_machine.specs.Outcomes.{Outcome, quietly, followed}
use Rattle.gr_machine.specs.Slots.{awaits_reply, awaits_batch, awaits_enrolment, awaits_scope, slot_awaits, task_awaits, calls_await, resumed, resumed_all}
use Rattle.gr_machine.specs.Requests.{word_call, named_at, word_made, word_requested, allocated, freed, printed, made_at_zero, requested, replied}
use Rattle.gr_machine.specs.ScopeRuns.{can_complete, can_leave, with_leave, passes}
use Rattle.gr_machine.specs.Spawns.{with_count, private_first}
use Rattle.gr_view.specs.Places.{put}
use Rattle.gr_machine.specs.ScopeServes.{can_enrol_one, core_enrolled_at, planted_by, planted_in, planted_all, acked_slots, completed_to, passed_by, over, left_with, waits_here, spawned}
use Rattle.gr_machine.specs.BatchServes.{is_reduce, is_of_word, is_of_set, is_of_map, word_applied, word_batch, key_batch, batched, can_wake, without_batch, batch_replied}
use Rattle.gr_machine.specs.Serves.{serves}
use Rattle.gr_stands.specs.Worlds.{Given, machine_in}
use Rattle.gr_lines.specs.Leaving.{IsOffLines, LeavesLines}
use Rattle.gr_lines_others.specs.Others.{IsOfNoTurn}
use Rattle.gr_lines_others.specs.Laws as laws
use Rattle.gr_lines_others.proofs.Tasks.{drops, plants, passes_leave}
use Rattle.gr_lines_others.proofs.Off.{off_there, stays, then_leaves, off_still, Made, when, when_made, made_is}
use Rattle.gr_lines_others.proofs.Waits.{off_tested, off_named, reply_off, batch_off, enrolment_off, scope_off, resumes, OffWakes, resumes_all}

module _ (given : Given) (me from : ℕ) (body : Body) where
  abbrev m : Machine
  m = machine_in given

  abbrev Leaves : Outcome → Type 0
  Leaves outcome = LeavesLines given body outcome.body

  -- The same vectors and tasks.
  abbrev IsStill : Body → Type 0
  IsStill after = (after.vectors ≡ body.vectors) × (after.tasks.slots ≡ body.tasks.slots)

  still : (after : Body) → IsStill after → LeavesLines given body after
  still after f = stays given body after f.0 f.1

  zero_made : (slot : ℕ) (id : TaskId) (operation x : ℕ) → Made Leaves (made_at_zero m body from slot id operation x)
  zero_made slot id operation x = third (operation == 5) (operation == 6) (operation == 7)
    where
      alloc : (at : Option ℕ) → Leaves (allocated body from slot id x at)
      alloc None = still body (refl, refl)
      alloc (Some at) = still (allocated body from slot id x (Some at)).body (refl, refl)

      third : (a b c : Bool) → Made Leaves (if a then Some (allocated body from slot id x (start_in m.code.objects.heap body.words.blocks x)) else (
          if b then Some (freed body from slot id x) else (if c then Some (printed body from slot id x) else None)))
      third true b c = alloc (start_in m.code.objects.heap body.words.blocks x)
      third false true c = still (freed body from slot id x).body (refl, refl)
      third false false true = still body (refl, refl)
      third false false false = tt

  word_is : (slot : ℕ) (id : TaskId) (place : ℕ) (call : Op) (word : Option ℕ) → Made Leaves (word_made body from slot id place call word)
  word_is slot id place call None = tt
  word_is slot id place call (Some word) = record { vectors = refl; tasks = λ number slot is. refl }

  asked : (slot : ℕ) (id : TaskId) (operation x y z : ℕ) → Made Leaves (requested m me body from slot id operation x y z)
  asked slot id operation x y z = by (nat_lt operation 5) (nat_lt 0 operation && home m x == me) (me == 0)
    where
      by : (a b c : Bool) → Made Leaves (if a then (if b then word_requested m body from slot id operation x y z else None) else (if c then made_at_zero m body from slot id operation x else None))
      by true true c = word_is slot id (place m x) (word_call operation (named_at m x) y z) (body.words.segment (place m x))
      by true false c = tt
      by false b true = zero_made slot id operation x
      by false b false = tt

  answered_is : (slot : ℕ) (id : TaskId) (word : Reply) → Made Leaves (replied m body slot id word)
  answered_is slot id word = when Leaves (task_awaits awaits_reply body slot id) (quietly (resumed m body slot word))
      (λ e. resumes given body slot word (body.tasks.slots slot) refl (off_named given awaits_reply (reply_off given) id (body.tasks.slots slot) e))

  -- ---- enrolment

  by_planted : (b : Body) (slot : ℕ) (task : Suspended) → b.tasks.slots slot ≡ Some task → IsOffLines given (Some task) → (due : Action) → LeavesLines given b (planted_by m me b slot task due).body
  by_planted b slot task e off (action.Spawn way target args) = plants given me b slot task (subst (IsOffLines given) (sym e) off) b refl refl way target args
  by_planted b slot task e off (action.Call call) = drops given me b slot task (subst (IsOffLines given) (sym e) off)
  by_planted b slot task e off action.Finish = drops given me b slot task (subst (IsOffLines given) (sym e) off)
  by_planted b slot task e off action.Arrive = drops given me b slot task (subst (IsOffLines given) (sym e) off)
  by_planted b slot task e off (action.Loop lo hi grain target args) = drops given me b slot task (subst (IsOffLines given) (sym e) off)
  by_planted b slot task e off action.End = drops given me b slot task (subst (IsOffLines given) (sym e) off)
  by_planted b slot task e off (action.Trap kind) = drops given me b slot task (subst (IsOffLines given) (sym e) off)

  in_planted : (b : Body) (slot : ℕ) (held : Option Suspended) → b.tasks.slots slot ≡ held → IsOffLines given held → LeavesLines given b (planted_in m me b slot held).body
  in_planted b slot None e off = stays given b b refl refl
  in_planted b slot (Some task) e off = by_planted b slot task e off task.action

  abbrev OffSlots : Body → List ℕ → Type 0
  OffSlots b slots = Each (λ slot. IsOffLines given (b.tasks.slots slot)) slots

  slots_still : (a b : Body) → LeavesLines given a b → (slots : List ℕ) → OffSlots a slots → OffSlots b slots
  slots_still a b l [] f = tt
  slots_still a b l (slot ∷ slots) f = (off_still given a b l slot f.0, slots_still a b l slots f.1)

  all_planted : (outcome : Outcome) (slots : List ℕ) → Leaves outcome → OffSlots outcome.body slots → Leaves (planted_all m me outcome slots)
  all_planted outcome [] l f = l
  all_planted outcome (slot ∷ slots) l f =
      let made = planted_in m me outcome.body slot (outcome.body.tasks.slots slot) in
      let n = in_planted outcome.body slot (outcome.body.tasks.slots slot) refl f.0 in
      all_planted (followed outcome made) slots (then_leaves given body outcome.body made.body l n) (slots_still outcome.body made.body n slots f.1)

  all_off : (scope : ScopeId) (slots : List ℕ) → list_all (λ slot. slot_awaits (awaits_enrolment scope) body slot) slots ≡ true → OffSlots body slots
  all_off scope [] e = tt
  all_off scope (slot ∷ slots) e =
      let p = and_parts (slot_awaits (awaits_enrolment scope) body slot) (list_all (λ slot. slot_awaits (awaits_enrolment scope) body slot) slots) e in
      (off_tested given (awaits_enrolment scope) (enrolment_off given scope) (body.tasks.slots slot) p.0, all_off scope slots p.1)

  acks : (scope : ScopeId) (count : Option LocalCount) (slots : Option (List ℕ)) → Made Leaves (acked_slots m me body scope count slots)
  acks scope count None = tt
  acks scope count (Some slots) = when Leaves (list_all (λ slot. slot_awaits (awaits_enrolment scope) body slot) slots) (planted_all m me (quietly (with_count body scope (when_acked count))) slots)
      (λ e. all_planted (quietly (with_count body scope (when_acked count))) slots (stays given body (with_count body scope (when_acked count)) refl refl) (all_off scope slots e))

  -- ---- ends

  completes : (b : Body) → IsStill b → (scope : ScopeId) (left : LocalLeft) → Leaves (completed_to b scope left)
  completes b f scope rest.More = still b f
  completes b f scope rest.Zero = still b f

  leaves : (scope : ScopeId) (r : Release) → Made Leaves (left_with m body scope r)
  leaves scope release.Held = still (with_leave body scope) (refl, refl)
  leaves scope (release.Released (waiter.Task slot)) = by (body.tasks.slots slot) refl
    where
      by : (held : Option Suspended) → body.tasks.slots slot ≡ held → Made Leaves (passed_by m body scope slot held)
      by None e = tt
      by (Some task) e = when Leaves (awaits_scope scope task.waits) (passes m (with_leave body scope) slot task)
          (λ q. passes_leave given me body slot task (off_there given (body.tasks.slots slot) task e (scope_off given scope task.waits q)) (with_leave body scope) refl refl)
  leaves scope (release.Released waiter.Root) = still (over body scope).body (refl, refl)

  -- ---- batches

  applies : (place : ℕ) (what : Effect) (batch : ℕ) (word : Option ℕ) → Made Leaves (word_applied body from place what batch word)
  applies place what batch None = tt
  applies place what batch (Some word) = record { vectors = refl; tasks = λ number slot is. refl }

  applies_word : (key : ℕ) (what : Effect) (batch : ℕ) → Made Leaves (word_batch m me body from key what batch)
  applies_word key what batch = when_made Leaves (is_of_word what && home m key == me) (word_applied body from (place m key) what batch (body.words.segment (place m key))) (applies (place m key) what batch (body.words.segment (place m key)))

  applies_key : (object key : ℕ) (what : Effect) (batch : ℕ) (fits : Bool) → Made Leaves (key_batch body from object key what batch fits)
  applies_key object key what batch true = record { vectors = refl; tasks = λ number slot is. refl }
  applies_key object key what batch false = tt

  batches_in : (object key : ℕ) (what : Effect) (batch : ℕ) (o : Option Object) → Made Leaves (batched m me body from object key what batch o)
  batches_in object key what batch (Some (array start count)) = applies_word key what batch
  batches_in object key what batch (Some (keys held)) = applies_key object key what batch (is_of_set what)
  batches_in object key what batch (Some (pairs held)) = applies_key object key what batch (is_of_map what)
  batches_in object key what batch (Some (line words)) = tt
  batches_in object key what batch None = when_made Leaves (object == HEAP) (word_batch m me body from key what batch) (applies_word key what batch)

  wakes_off : (batch : ℕ) (calls : List WaitingCall) (before : Option ℕ) → calls_await (awaits_batch batch) body calls ≡ true → OffWakes given body (wakes_of calls before)
  wakes_off batch [] before e = tt
  wakes_off batch (call ∷ calls) before e =
      let p = and_parts (task_awaits (awaits_batch batch) body call.slot call.id) (calls_await (awaits_batch batch) body calls) e in
      (off_named given (awaits_batch batch) (batch_off given batch) call.id (body.tasks.slots call.slot) p.0, wakes_off batch calls (after (effect_of call.op) before) p.1)

  comes_back : (batch : ℕ) (before : Option ℕ) (calls : Option (List WaitingCall)) → Made Leaves (batch_replied m body batch before calls)
  comes_back batch before None = tt
  comes_back batch before (Some calls) = when Leaves (can_wake body batch before calls) (quietly (without_batch (resumed_all m body (wakes_of calls before)) batch))
      (λ e. let l = resumes_all given body (wakes_of calls before) (wakes_off batch calls before (and_parts (calls_await (awaits_batch batch) body calls) (is_some before || not (list_any (λ call. is_reduce call.op) calls)) e).0) in record { vectors = l.vectors; tasks = l.tasks })

  served : (message : Msg) → IsOfNoTurn message → Made Leaves (serves m me body from message)
  served (msg.Request slot id operation x y z) apart = asked slot id operation x y z
  served (msg.Reply slot id first second) apart = answered_is slot id (reply first second)
  served (msg.Spawn unit) apart = still (spawned body unit).body (refl, refl)
  served (msg.Enrol scope) apart = when Leaves (can_enrol_one (body.scopes.masters scope)) (core_enrolled_at body from scope (body.scopes.masters scope)) (λ e. stays given body (core_enrolled_at body from scope (body.scopes.masters scope)).body refl refl)
  served (msg.EnrolAck scope) apart = acks scope (body.scopes.counts scope) (waiting_slots (body.scopes.counts scope))
  served (msg.Complete scope count) apart = when Leaves (is_core m scope.core && can_complete (body.scopes.counts scope) count) (completed_to (with_count body scope (completed (body.scopes.counts scope) count)) scope (left_of (body.scopes.counts scope) count))
      (λ e. completes (with_count body scope (completed (body.scopes.counts scope) count)) (refl, refl) scope (left_of (body.scopes.counts scope) count))
  served (msg.Leave scope) apart = when_made Leaves (can_leave (body.scopes.masters scope)) (left_with m body scope (release_of (released (body.scopes.masters scope)))) (leaves scope (release_of (released (body.scopes.masters scope))))
  served msg.StealAsk apart = still (waits_here body from).body (refl, refl)
  served (msg.StealGive unit) apart = when Leaves (body.steals.asked from) (quietly (record (private_first body unit) { steals = record body.steals { asked = put body.steals.asked from false } })) (λ e. record { vectors = refl; tasks = λ number slot is. refl })
  served (msg.Batch object key effect batch) apart = batches_in object key effect batch (thing m object)
  served (msg.BatchReply batch before) apart = comes_back batch before (body.batches.flying batch)
  served (msg.Turn vector) apart = absurd apart
  served (msg.Grant vector head tail) apart = absurd apart
  served (msg.Done vector head tail) apart = absurd apart
  served (msg.ElemPut vector position word) apart = absurd apart
  served (msg.ElemGet vector position) apart = absurd apart
  served (msg.ElemAck vector position got) apart = absurd apart

pub messages_leave : laws.MessagesLeaveLines
messages_leave given me from body message e apart h = made_is (λ (x : Outcome). LeavesLines given body x.body) (serves (machine_in given) me body from message) e (served given me from body message apart) h
