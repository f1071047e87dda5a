-- Serve: what is found to do with a message that is of no batch leaves calls that are combined.
use Rattle.std.proofs.Common.{◌≡◌, ℕ, ◌==◌, ◌&&◌, Bool, true, false, nat_lt, if◌then◌else◌, List, [], ◌∷◌, inl, inr, sym, ◌∙◌, ap, subst, refl, Option, Some, None}
use Rattle.std.proofs.lemmas.Bool.{cases_eq, and_parts}
use Rattle.std.specs.List.{list_all}
use Rattle.gr_lang.specs.declared.action.Action.{Action}
use Rattle.gr_lang.specs.declared.action.Action.TheVariants as action
use Rattle.gr_lang.specs.declared.action.How.{How}
use Rattle.gr_lang.specs.declared.action.How.TheVariants as how
use Rattle.gr_lang.specs.declared.action.Op.{Op}
use Rattle.gr_lang.specs.declared.action.Reply.{Reply}
use Rattle.gr_lang.specs.declared.action.TaskId.{TaskId}
use Rattle.gr_lang.specs.Effects.{nothing, reply}
use Rattle.gr_lang.specs.Objects.{start_in}
use Rattle.gr_view.specs.Places.{put}
use Rattle.gr_msg.specs.declared.message.Msg.{Msg}
use Rattle.gr_msg.specs.declared.message.Msg.TheVariants as msg
use Rattle.gr_msg.specs.declared.message.ScopeId.{ScopeId}
use Rattle.gr_msg.specs.declared.message.Unit.{Unit as WorkUnit}
use Rattle.gr_event.specs.Counts.{waiting_slots, when_acked, completed, left_of}
use Rattle.gr_event.specs.Masters.{released, release_of}
use Rattle.gr_event.specs.declared.counts.LocalCount.{LocalCount}
use Rattle.gr_event.specs.declared.counts.LocalLeft.{LocalLeft}
use Rattle.gr_event.specs.declared.counts.LocalLeft.TheVariants as rest
use Rattle.gr_event.specs.declared.masters.Release.{Release}
use Rattle.gr_event.specs.declared.masters.Release.TheVariants as release
use Rattle.gr_event.specs.declared.masters.Waiter.TheVariants as waiter
use Rattle.gr_net.specs.Sums.{Each}
use Rattle.gr_net.proofs.Spreads.{put_at, put_other, Each-append}
use Rattle.gr_machine.specs.Machines.{Machine, home, place, is_core}
use Rattle.gr_machine.specs.States.{Suspended, Body}
use Rattle.gr_machine.specs.Outcomes.{Send, Outcome, quietly, followed, to}
use Rattle.gr_machine.specs.Slots.{awaits_reply, awaits_enrolment, awaits_scope, slot_awaits, task_awaits, resumed, dropped, goes_on}
use Rattle.gr_machine.specs.Requests.{word_call, named_at, word_made, word_requested, allocated, freed, printed, made_at_zero, requested, replied}
use Rattle.gr_machine.specs.ScopeRuns.{can_complete, can_leave, with_leave, passes}
use Rattle.gr_machine.specs.Spawns.{with_count, private_first, private_last, new_single, made_in, planted}
use Rattle.gr_machine.specs.ScopeServes.{can_enrol_one, core_enrolled_at, planted_by, planted_in, planted_all, acked_slots, completed_to, passed_by, over, left_with, waits_here, spawned}
use Rattle.gr_machine.specs.Serves.{serves}
use Rattle.gr_stands.specs.CallActs.{in_batch}
use Rattle.gr_stands_calls.proofs.Slots.{some_same, none_some}
use Rattle.gr_batches.specs.Staying.{IsFree, CallsStay}
use Rattle.gr_batches_events.specs.Leaving.{IsNoMail}
use Rattle.gr_batches_leaves.specs.Leaves.{IsMarkOf, LeavesCalls}
use Rattle.gr_batches_steps.proofs.Stays.{IsOff, reply_off, enrolment_off, scope_off, off_tested, off_named, free_off, free_there, stays, one_resumes}
use Rattle.gr_batches_steps.proofs.Choices.{Made, when, when_made}
use Rattle.gr_batches_steps.proofs.Tasks.{planted_leaves, passes_leave}
use Rattle.gr_batches_steps.proofs.Turns.{asks_turn, dones, granted_to, stores, fetches, elements}

-- Who asks by a request is such a task.
abbrev pub AskerIs : (TaskId → Type 0) → Msg → Type 0
AskerIs Fact (msg.Request slot id operation x y z) = Fact id
AskerIs Fact _ = Unit

module _ (Fact : TaskId → Type 0) (m : Machine) (me from : ℕ) (body : Body)
    (fact : (slot : ℕ) (task : Suspended) → body.tasks.slots slot ≡ Some task → in_batch task.waits ≡ 0 → Fact task.id) where
  abbrev Leaves : Outcome → Type 0
  Leaves outcome = LeavesCalls Fact body outcome

  still : (after : Body) → after.batches ≡ body.batches → after.vectors ≡ body.vectors → after.tasks.slots ≡ body.tasks.slots → CallsStay body after
  still after batches vectors slots = stays body after batches vectors slots

  self : CallsStay body body
  self = stays body body refl refl refl

  quiet : (after : Body) → after.batches ≡ body.batches → after.vectors ≡ body.vectors → after.tasks.slots ≡ body.tasks.slots → Leaves (quietly after)
  quiet after batches vectors slots = record { calls = still after batches vectors slots; sends = tt; marks = tt }

  -- ---- requests and replies

  zero_made : (slot : ℕ) (id : TaskId) (operation x : ℕ) → Fact id → Made Leaves (made_at_zero m body from slot id operation x)
  zero_made slot id operation x asks = third (operation == 5) (operation == 6) (operation == 7)
    where
      alloc : (at : Option ℕ) → Leaves (allocated body from slot id x at)
      alloc None = record { calls = self; sends = (tt, tt); marks = (asks, tt) }
      alloc (Some at) = record { calls = still (allocated body from slot id x (Some at)).body refl refl refl; sends = (tt, tt); marks = (asks, tt) }

      third : (a b c : Bool) → Made Leaves (if a then Some (allocated body from slot id x (start_in m.code.objects.heap body.words.blocks x)) else (
          if b then Some (freed body from slot id x) else (if c then Some (printed body from slot id x) else None)))
      third true b c = alloc (start_in m.code.objects.heap body.words.blocks x)
      third false true c = record { calls = still (freed body from slot id x).body refl refl refl; sends = (tt, tt); marks = (asks, tt) }
      third false false true = record { calls = self; sends = (tt, tt); marks = (asks, tt) }
      third false false false = tt

  word_is : (slot : ℕ) (id : TaskId) (place : ℕ) (call : Op) (word : Option ℕ) → Fact id → Made Leaves (word_made body from slot id place call word)
  word_is slot id place call None asks = tt
  word_is slot id place call (Some word) asks = record { calls = record { batches = refl; vectors = λ object none. none; slots = λ k. inl refl }; sends = (tt, tt); marks = (asks, tt) }

  asked_is : (slot : ℕ) (id : TaskId) (operation x y z : ℕ) → Fact id → Made Leaves (requested m me body from slot id operation x y z)
  asked_is slot id operation x y z asks = by (nat_lt operation 5) (nat_lt 0 operation && home m x == me) (me == 0)
    where
      by : (a b c : Bool) → Made Leaves (if a then (if b then word_requested m body from slot id operation x y z else None) else (if c then made_at_zero m body from slot id operation x else None))
      by true true c = word_is slot id (place m x) (word_call operation (named_at m x) y z) (body.words.segment (place m x)) asks
      by true false c = tt
      by false b true = zero_made slot id operation x asks
      by false b false = tt

  answered_is : (slot : ℕ) (id : TaskId) (word : Reply) → Made Leaves (replied m body slot id word)
  answered_is slot id word = when Leaves (task_awaits awaits_reply body slot id) (quietly (resumed m body slot word))
      (λ e. record {
        calls = one_resumes m body body slot word (body.tasks.slots slot) self (free_there body (body.tasks.slots slot) (off_named awaits_reply reply_off id (body.tasks.slots slot) e));
        sends = tt;
        marks = tt;
      })

  -- ---- enrolment

  -- What is done so far leaves calls, and the tasks in slots have the names that they had.
  record Begun (outcome : Outcome) : Type 0 where
    leaves : Leaves outcome
    named : (slot : ℕ) (task : Suspended) → outcome.body.tasks.slots slot ≡ Some task → (old : Suspended) × (body.tasks.slots slot ≡ Some old) × (task.id ≡ old.id)

  -- The task in a slot waits for neither calls nor a batch.
  abbrev OffAt : ℕ → Type 0
  OffAt slot = (task : Suspended) → body.tasks.slots slot ≡ Some task → IsOff task.waits

  names_stay : (b after : Body) (slot : ℕ) (task : Suspended) (held : Option Suspended)
      → ((k : ℕ) (t : Suspended) → b.tasks.slots k ≡ Some t → (old : Suspended) × (body.tasks.slots k ≡ Some old) × (t.id ≡ old.id))
      → b.tasks.slots slot ≡ Some task → ((t : Suspended) → held ≡ Some t → t.id ≡ task.id) → after.tasks.slots ≡ put b.tasks.slots slot held
      → (k : ℕ) (t : Suspended) → after.tasks.slots k ≡ Some t → (old : Suspended) × (body.tasks.slots k ≡ Some old) × (t.id ≡ old.id)
  names_stay b after slot task held old there same slots k t at = elim (cases_eq k slot) [
    | inl q ↦
        let o = old slot task there in
        (o.0, ap body.tasks.slots q ∙ o.1, same t (sym (ap (λ (f : ℕ → Option Suspended). f k) slots ∙ put_at b.tasks.slots slot held k q) ∙ at) ∙ o.2)
    | inr ne ↦ old k t (sym (ap (λ (f : ℕ → Option Suspended). f k) slots ∙ put_other b.tasks.slots slot held k ne) ∙ at)
  ]

  planted_slots : (b : Body) (slot : ℕ) (task : Suspended) (way : How) (target : ℕ) (args : List ℕ)
      → (planted m me b slot task way target args).body.tasks.slots ≡ put b.tasks.slots slot (Some (goes_on m task nothing))
  planted_slots b slot task how.Here target args = refl
  planted_slots b slot task (how.At core) target args = by (core == me)
    where
      made : Body
      made = made_in m me b slot task

      work : WorkUnit
      work = new_single me b task target args

      by : (t : Bool) → (if t then quietly (private_last made work) else record { body = made; sends = to core (msg.Spawn work); marks = [] }).body.tasks.slots ≡ put b.tasks.slots slot (Some (goes_on m task nothing))
      by true = refl
      by false = refl
  planted_slots b slot task how.Offer target args = refl

  -- What is in the slot then: the task that was there, or none.
  record Held (b : Body) (slot : ℕ) (task : Suspended) (outcome : Outcome) : Type 0 where
    held : Option Suspended
    slots : outcome.body.tasks.slots ≡ put b.tasks.slots slot held
    same : (t : Suspended) → held ≡ Some t → t.id ≡ task.id

  none_held : (b : Body) (slot : ℕ) (task : Suspended) → Held b slot task (dropped b slot)
  none_held b slot task = record { held = None; slots = refl; same = λ t e. absurd (none_some t e) }

  held_by : (b : Body) (slot : ℕ) (task : Suspended) (due : Action) → Held b slot task (planted_by m me b slot task due)
  held_by b slot task (action.Spawn way target args) = record {
    held = Some (goes_on m task nothing);
    slots = planted_slots b slot task way target args;
    same = λ t e. ap (λ (x : Suspended). x.id) (sym (some_same (goes_on m task nothing) t e));
  }
  held_by b slot task (action.Call call) = none_held b slot task
  held_by b slot task action.Finish = none_held b slot task
  held_by b slot task action.Arrive = none_held b slot task
  held_by b slot task (action.Loop lo hi grain target args) = none_held b slot task
  held_by b slot task action.End = none_held b slot task
  held_by b slot task (action.Trap kind) = none_held b slot task

  one_more : (e : Outcome) (slot : ℕ) (held : Option Suspended) → e.body.tasks.slots slot ≡ held → Begun e → OffAt slot → Begun (followed e (planted_in m me e.body slot held))
  one_more e slot None at b off = record {
    leaves = record {
      calls = b.leaves.calls;
      sends = Each-append (λ (send : Send). IsNoMail send.message) e.sends [] b.leaves.sends tt;
      marks = Each-append (IsMarkOf Fact) e.marks [] b.leaves.marks tt;
    };
    named = b.named;
  }
  one_more e slot (Some task) at b off =
      let o = b.named slot task at in
      let mine : Fact task.id = subst Fact (sym o.2) (fact slot o.0 o.1 (off o.0 o.1).alone) in
      let made : Outcome = planted_by m me e.body slot task task.action in
      let l : Leaves made = planted_leaves Fact m me body e.body slot task b.leaves.calls (free_there body (body.tasks.slots slot) off) mine task.action in
      let h = held_by e.body slot task task.action in
      record {
        leaves = record {
          calls = l.calls;
          sends = Each-append (λ (send : Send). IsNoMail send.message) e.sends made.sends b.leaves.sends l.sends;
          marks = Each-append (IsMarkOf Fact) e.marks made.marks b.leaves.marks l.marks;
        };
        named = names_stay e.body made.body slot task h.held b.named at h.same h.slots;
      }

  all_planted : (e : Outcome) (slots : List ℕ) → Begun e → Each OffAt slots → Leaves (planted_all m me e slots)
  all_planted e [] b f = b.leaves
  all_planted e (slot ∷ slots) b f =
      all_planted (followed e (planted_in m me e.body slot (e.body.tasks.slots slot))) slots (one_more e slot (e.body.tasks.slots slot) refl b f.0) f.1

  all_off : (scope : ScopeId) (slots : List ℕ) → list_all (λ slot. slot_awaits (awaits_enrolment scope) body slot) slots ≡ true → Each OffAt slots
  all_off scope [] e = tt
  all_off scope (slot ∷ slots) e =
      let p = and_parts (slot_awaits (awaits_enrolment scope) body slot) (list_all (λ slot. slot_awaits (awaits_enrolment scope) body slot) slots) e in
      (off_tested (awaits_enrolment scope) (enrolment_off scope) (body.tasks.slots slot) p.0, all_off scope slots p.1)

  acks : (scope : ScopeId) (count : Option LocalCount) (slots : Option (List ℕ)) → Made Leaves (acked_slots m me body scope count slots)
  acks scope count None = tt
  acks scope count (Some slots) = when Leaves (list_all (λ slot. slot_awaits (awaits_enrolment scope) body slot) slots) (planted_all m me (quietly (with_count body scope (when_acked count))) slots)
      (λ e. all_planted (quietly (with_count body scope (when_acked count))) slots
      (record { leaves = quiet (with_count body scope (when_acked count)) refl refl refl; named = λ k t at. (t, at, refl) }) (all_off scope slots e))

  -- ---- ends

  completes : (b : Body) → b.batches ≡ body.batches → b.vectors ≡ body.vectors → b.tasks.slots ≡ body.tasks.slots → (scope : ScopeId) (left : LocalLeft) → Leaves (completed_to b scope left)
  completes b batches vectors slots scope rest.More = quiet b batches vectors slots
  completes b batches vectors slots scope rest.Zero = record { calls = still b batches vectors slots; sends = (tt, tt); marks = tt }

  leaves : (scope : ScopeId) (r : Release) → Made Leaves (left_with m body scope r)
  leaves scope release.Held = quiet (with_leave body scope) refl refl refl
  leaves scope (release.Released (waiter.Task slot)) = by (body.tasks.slots slot) refl
    where
      by : (held : Option Suspended) → body.tasks.slots slot ≡ held → Made Leaves (passed_by m body scope slot held)
      by None e = tt
      by (Some task) e = when Leaves (awaits_scope scope task.waits) (passes m (with_leave body scope) slot task)
          (λ q. passes_leave Fact m me body body slot task self (subst (IsFree body) (sym e) (free_off body task (scope_off scope task.waits q)))
          (fact slot task e (scope_off scope task.waits q).alone) (with_leave body scope) refl refl refl)
  leaves scope (release.Released waiter.Root) = record { calls = still (over body scope).body refl refl refl; sends = tt; marks = (tt, tt) }

  -- ---- each message that is of no batch

  pub message_leaves : (message : Msg) → IsNoMail message → AskerIs Fact message → Made Leaves (serves m me body from message)
  message_leaves (msg.Request slot id operation x y z) n asks = asked_is slot id operation x y z asks
  message_leaves (msg.Reply slot id first second) n asks = answered_is slot id (reply first second)
  message_leaves (msg.Spawn unit) n asks = quiet (spawned body unit).body refl refl refl
  message_leaves (msg.Enrol scope) n asks = when Leaves (can_enrol_one (body.scopes.masters scope)) (core_enrolled_at body from scope (body.scopes.masters scope))
      (λ e. record { calls = still (core_enrolled_at body from scope (body.scopes.masters scope)).body refl refl refl; sends = (tt, tt); marks = tt })
  message_leaves (msg.EnrolAck scope) n asks = acks scope (body.scopes.counts scope) (waiting_slots (body.scopes.counts scope))
  message_leaves (msg.Complete scope count) n asks = when Leaves (is_core m scope.core && can_complete (body.scopes.counts scope) count)
      (completed_to (with_count body scope (completed (body.scopes.counts scope) count)) scope (left_of (body.scopes.counts scope) count))
      (λ e. completes (with_count body scope (completed (body.scopes.counts scope) count)) refl refl refl scope (left_of (body.scopes.counts scope) count))
  message_leaves (msg.Leave scope) n asks = when_made Leaves (can_leave (body.scopes.masters scope)) (left_with m body scope (release_of (released (body.scopes.masters scope))))
      (leaves scope (release_of (released (body.scopes.masters scope))))
  message_leaves msg.StealAsk n asks = quiet (waits_here body from).body refl refl refl
  message_leaves (msg.StealGive unit) n asks = when Leaves (body.steals.asked from) (quietly (record (private_first body unit) { steals = record body.steals { asked = put body.steals.asked from false } }))
      (λ e. quiet (record (private_first body unit) { steals = record body.steals { asked = put body.steals.asked from false } }) refl refl refl)
  message_leaves (msg.Batch object key effect batch) n asks = absurd n
  message_leaves (msg.BatchReply batch before) n asks = absurd n
  message_leaves (msg.Turn vector) n asks = asks_turn Fact m me from body vector (body.vectors.masters vector)
  message_leaves (msg.Grant vector head tail) n asks = granted_to Fact m me from body vector head tail (body.vectors.vectors vector)
  message_leaves (msg.Done vector head tail) n asks = dones Fact m me from body vector head tail (body.vectors.masters vector)
  message_leaves (msg.ElemPut vector position word) n asks = stores Fact m me from body vector position word (body.vectors.vectors vector)
  message_leaves (msg.ElemGet vector position) n asks = fetches Fact m me from body vector position (body.vectors.vectors vector)
  message_leaves (msg.ElemAck vector position got) n asks = elements Fact m me from body vector position got (body.vectors.vectors vector)
