-- Messages that are of no turn leave where words of vectors are.
use Rattle.std.proofs.Common.{◌≡◌, ℕ, ◌==◌, ◌&&◌, Bool, true, false, nat_lt, if◌then◌else◌, List, [], ◌∷◌, ◌∙◌, refl, Option, Some, None}
use Rattle.std.specs.List.{list_all}
use Rattle.gr_syntax.specs.declared.limits.TheConstants.{HEAP}
use Rattle.gr_lang.specs.declared.action.Action.{Action}
use Rattle.gr_lang.specs.declared.action.Action.TheVariants as action
use Rattle.gr_lang.specs.declared.action.Effect.{Effect}
use Rattle.gr_lang.specs.declared.action.Op.{Op}
use Rattle.gr_lang.specs.declared.action.Op.TheVariants as op
use Rattle.gr_lang.specs.declared.action.Reply.{Reply}
use Rattle.gr_lang.specs.declared.action.TaskId.{TaskId}
use Rattle.gr_lang.specs.declared.action.WaitingCall.{WaitingCall}
use Rattle.gr_lang.specs.Effects.{reply}
use Rattle.gr_lang.specs.Objects.{Object, array, keys, pairs, line, start_in}
use Rattle.gr_view.specs.Places.{put}
use Rattle.gr_msg.specs.declared.message.Msg.{Msg}
use Rattle.gr_msg.specs.declared.message.Msg.TheVariants as msg
use Rattle.gr_msg.specs.declared.message.ScopeId.{ScopeId}
use Rattle.gr_batch.specs.Folding.{wakes_of}
use Rattle.gr_batch.specs.declared.wakes.Woken.{Woken}
use Rattle.gr_event.specs.Counts.{waiting_slots, when_acked, completed, left_of}
use Rattle.gr_event.specs.Masters.{released, release_of}
use Rattle.gr_event.specs.declared.counts.LocalCount.{LocalCount}
use Rattle.gr_event.specs.declared.counts.LocalLeft.{LocalLeft}
use Rattle.gr_event.specs.declared.counts.LocalLeft.TheVariants as rest
use Rattle.gr_event.specs.declared.masters.Release.{Release}
use Rattle.gr_event.specs.declared.masters.Release.TheVariants as release
use Rattle.gr_event.specs.declared.masters.Waiter.TheVariants as waiter
use Rattle.gr_net.proofs.Spreads.{Each-append}
use Rattle.gr_machine.specs.Machines.{Machine, thing, home, place, is_core}
use Rattle.gr_machine.specs.States.{Suspended, Body}
use Rattle.gr_machine.specs.Outcomes.{Send, Outcome, quietly, followed}
use Rattle.gr_machine.specs.Slots.{awaits_reply, awaits_enrolment, awaits_scope, slot_awaits, task_awaits, resumed, resumed_task, resumed_all}
use Rattle.gr_machine.specs.Requests.{word_call, named_at, word_made, word_requested, allocated, freed, printed, made_at_zero, requested, replied}
use Rattle.gr_machine.specs.ScopeRuns.{can_complete, can_leave, with_leave, passes}
use Rattle.gr_machine.specs.Spawns.{with_count, private_first}
use Rattle.gr_machine.specs.ScopeServes.{can_enrol_one, core_enrolled_at, planted_by, planted_in, planted_all, acked_slots, completed_to, passed_by, left_with}
use Rattle.gr_machine.specs.BatchServes.{is_of_word, is_of_set, is_of_map, word_applied, word_batch, key_batch, batched, can_wake, without_batch, batch_replied}
use Rattle.gr_machine.specs.Serves.{serves}
use Rattle.gr_lines_others.specs.Others.{IsOfNoTurn}
use Rattle.gr_lines_others.proofs.Off.{Made, when, when_made}
use Rattle.gr_elements_apart.specs.Leaving.{IsOffLine, IsOfNoLine, IsEffectOf, IsMarkBehind}
use Rattle.gr_elements_apart.proofs.Apart.{IsNoElement, IsApartWith, IsApart}
use Rattle.gr_elements_apart.proofs.Runs.{plants, passes_apart}

-- Tasks that go on leave the vectors.
one_stays : (machine : Machine) (b : Body) (slot : ℕ) (word : Reply) (held : Option Suspended) → (resumed_task machine b slot word held).vectors ≡ b.vectors
one_stays machine b slot word None = refl
one_stays machine b slot word (Some task) = refl

pub all_stay : (machine : Machine) (b : Body) (wakes : List Woken) → (resumed_all machine b wakes).vectors ≡ b.vectors
all_stay machine b [] = refl
all_stay machine b (wake ∷ wakes) = all_stay machine (resumed machine b wake.slot wake.reply) wakes ∙ one_stays machine b wake.slot wake.reply (b.tasks.slots wake.slot)

module _ (m : Machine) (me from : ℕ) (body : Body) where
  abbrev Apart : Outcome → Type 0
  Apart outcome = IsApart body outcome.body outcome.sends outcome.marks

  -- A batch takes effect.
  abbrev Affects : ℕ → Outcome → Type 0
  Affects batch outcome = IsApartWith (IsEffectOf from batch) body outcome.body outcome.sends outcome.marks

  -- What is found to do with a message.
  abbrev pub Behind : Msg → Outcome → Type 0
  Behind message outcome = IsApartWith (IsMarkBehind from message) body outcome.body outcome.sends outcome.marks

  abbrev Still : Body → Type 0
  Still after = after.vectors ≡ body.vectors

  zero_made : (slot : ℕ) (id : TaskId) (operation x : ℕ) → Made Apart (made_at_zero m body from slot id operation x)
  zero_made slot id operation x = third (operation == 5) (operation == 6) (operation == 7)
    where
      alloc : (at : Option ℕ) → Apart (allocated body from slot id x at)
      alloc None = record { vectors = refl; sends = (tt, tt); marks = (tt, tt) }
      alloc (Some at) = record { vectors = refl; sends = (tt, tt); marks = (tt, tt) }

      third : (a b c : Bool) → Made Apart (if a then Some (allocated body from slot id x (start_in m.code.objects.heap body.words.blocks x)) else (
          if b then Some (freed body from slot id x) else (if c then Some (printed body from slot id x) else None)))
      third true b c = alloc (start_in m.code.objects.heap body.words.blocks x)
      third false true c = record { vectors = refl; sends = (tt, tt); marks = (tt, tt) }
      third false false true = record { vectors = refl; sends = (tt, tt); marks = (tt, tt) }
      third false false false = tt

  -- The call of a request on a word is of no vector.
  word_off : (operation y z : ℕ) (named : ℕ × ℕ) → IsOffLine (word_call operation named y z)
  word_off operation y z named = by (operation == 1) (operation == 2) (operation == 3)
    where
      by : (a b c : Bool) → IsOffLine (if a then op.Read named.0 named.1 else (if b then op.Write named.0 named.1 y else (if c then op.Add named.0 named.1 y else op.Cas named.0 named.1 y z)))
      by true b c = tt
      by false true c = tt
      by false false true = tt
      by false false false = tt

  word_is : (slot : ℕ) (id : TaskId) (place : ℕ) (call : Op) → IsOffLine call → (word : Option ℕ) → Made Apart (word_made body from slot id place call word)
  word_is slot id place call off None = tt
  word_is slot id place call off (Some word) = record { vectors = refl; sends = (tt, tt); marks = (off, tt) }

  asked : (slot : ℕ) (id : TaskId) (operation x y z : ℕ) → Made Apart (requested m me body from slot id operation x y z)
  asked slot id operation x y z = by (nat_lt operation 5) (nat_lt 0 operation && home m x == me) (me == 0)
    where
      by : (a b c : Bool) → Made Apart (if a then (if b then word_requested m body from slot id operation x y z else None) else (if c then made_at_zero m body from slot id operation x else None))
      by true true c = word_is slot id (place m x) (word_call operation (named_at m x) y z) (word_off operation y z (named_at m x)) (body.words.segment (place m x))
      by true false c = tt
      by false b true = zero_made slot id operation x
      by false b false = tt

  answered_is : (slot : ℕ) (id : TaskId) (word : Reply) → Made Apart (replied m body slot id word)
  answered_is slot id word = when Apart (task_awaits awaits_reply body slot id) (quietly (resumed m body slot word))
      (λ e. record { vectors = one_stays m body slot word (body.tasks.slots slot); sends = tt; marks = tt })

  -- ---- enrolment

  by_planted : (b : Body) (slot : ℕ) (task : Suspended) (due : Action) → IsApart b (planted_by m me b slot task due).body (planted_by m me b slot task due).sends (planted_by m me b slot task due).marks
  by_planted b slot task (action.Spawn way target args) = plants m me b slot task b refl way target args
  by_planted b slot task (action.Call call) = record { vectors = refl; sends = tt; marks = tt }
  by_planted b slot task action.Finish = record { vectors = refl; sends = tt; marks = tt }
  by_planted b slot task action.Arrive = record { vectors = refl; sends = tt; marks = tt }
  by_planted b slot task (action.Loop lo hi grain target args) = record { vectors = refl; sends = tt; marks = tt }
  by_planted b slot task action.End = record { vectors = refl; sends = tt; marks = tt }
  by_planted b slot task (action.Trap kind) = record { vectors = refl; sends = tt; marks = tt }

  in_planted : (b : Body) (slot : ℕ) (held : Option Suspended) → IsApart b (planted_in m me b slot held).body (planted_in m me b slot held).sends (planted_in m me b slot held).marks
  in_planted b slot None = record { vectors = refl; sends = tt; marks = tt }
  in_planted b slot (Some task) = by_planted b slot task task.action

  all_planted : (outcome : Outcome) (slots : List ℕ) → Apart outcome → Apart (planted_all m me outcome slots)
  all_planted outcome [] a = a
  all_planted outcome (slot ∷ slots) a =
      let made = planted_in m me outcome.body slot (outcome.body.tasks.slots slot) in
      let n = in_planted outcome.body slot (outcome.body.tasks.slots slot) in
      all_planted (followed outcome made) slots
      (record {
        vectors = n.vectors ∙ a.vectors;
        sends = Each-append (λ (s : Send). IsNoElement s.message) outcome.sends made.sends a.sends n.sends;
        marks = Each-append IsOfNoLine outcome.marks made.marks a.marks n.marks;
      })

  acks : (scope : ScopeId) (count : Option LocalCount) (slots : Option (List ℕ)) → Made Apart (acked_slots m me body scope count slots)
  acks scope count None = tt
  acks scope count (Some slots) = when Apart (list_all (λ slot. slot_awaits (awaits_enrolment scope) body slot) slots) (planted_all m me (quietly (with_count body scope (when_acked count))) slots)
      (λ e. all_planted (quietly (with_count body scope (when_acked count))) slots (record { vectors = refl; sends = tt; marks = tt }))

  -- ---- ends

  completes : (b : Body) → Still b → (scope : ScopeId) (left : LocalLeft) → Apart (completed_to b scope left)
  completes b s scope rest.More = record { vectors = s; sends = tt; marks = tt }
  completes b s scope rest.Zero = record { vectors = s; sends = (tt, tt); marks = tt }

  leaves : (scope : ScopeId) (r : Release) → Made Apart (left_with m body scope r)
  leaves scope release.Held = record { vectors = refl; sends = tt; marks = tt }
  leaves scope (release.Released (waiter.Task slot)) = by (body.tasks.slots slot)
    where
      by : (held : Option Suspended) → Made Apart (passed_by m body scope slot held)
      by None = tt
      by (Some task) = when Apart (awaits_scope scope task.waits) (passes m (with_leave body scope) slot task) (λ q. passes_apart m me body slot task (with_leave body scope) refl)
  leaves scope (release.Released waiter.Root) = record { vectors = refl; sends = tt; marks = (tt, tt) }

  -- ---- batches

  applies : (place : ℕ) (what : Effect) (batch : ℕ) (word : Option ℕ) → Made (Affects batch) (word_applied body from place what batch word)
  applies place what batch None = tt
  applies place what batch (Some word) = record { vectors = refl; sends = (tt, tt); marks = ((refl, refl), tt) }

  applies_word : (key : ℕ) (what : Effect) (batch : ℕ) → Made (Affects batch) (word_batch m me body from key what batch)
  applies_word key what batch = when_made (Affects batch) (is_of_word what && home m key == me) (word_applied body from (place m key) what batch (body.words.segment (place m key)))
      (applies (place m key) what batch (body.words.segment (place m key)))

  applies_key : (object key : ℕ) (what : Effect) (batch : ℕ) (fits : Bool) → Made (Affects batch) (key_batch body from object key what batch fits)
  applies_key object key what batch true = record { vectors = refl; sends = (tt, tt); marks = ((refl, refl), tt) }
  applies_key object key what batch false = tt

  batches_in : (object key : ℕ) (what : Effect) (batch : ℕ) (o : Option Object) → Made (Affects batch) (batched m me body from object key what batch o)
  batches_in object key what batch (Some (array start count)) = applies_word key what batch
  batches_in object key what batch (Some (keys held)) = applies_key object key what batch (is_of_set what)
  batches_in object key what batch (Some (pairs held)) = applies_key object key what batch (is_of_map what)
  batches_in object key what batch (Some (line words)) = tt
  batches_in object key what batch None = when_made (Affects batch) (object == HEAP) (word_batch m me body from key what batch) (applies_word key what batch)

  comes_back : (batch : ℕ) (before : Option ℕ) (calls : Option (List WaitingCall)) → Made Apart (batch_replied m body batch before calls)
  comes_back batch before None = tt
  comes_back batch before (Some calls) = when Apart (can_wake body batch before calls) (quietly (without_batch (resumed_all m body (wakes_of calls before)) batch))
      (λ e. record { vectors = all_stay m body (wakes_of calls before); sends = tt; marks = tt })

  pub served_apart : (message : Msg) → IsOfNoTurn message → Made (Behind message) (serves m me body from message)
  served_apart (msg.Request slot id operation x y z) apart = asked slot id operation x y z
  served_apart (msg.Reply slot id first second) apart = answered_is slot id (reply first second)
  served_apart (msg.Spawn unit) apart = record { vectors = refl; sends = tt; marks = tt }
  served_apart (msg.Enrol scope) apart = when Apart (can_enrol_one (body.scopes.masters scope)) (core_enrolled_at body from scope (body.scopes.masters scope)) (λ e. record { vectors = refl; sends = (tt, tt); marks = tt })
  served_apart (msg.EnrolAck scope) apart = acks scope (body.scopes.counts scope) (waiting_slots (body.scopes.counts scope))
  served_apart (msg.Complete scope count) apart = when Apart (is_core m scope.core && can_complete (body.scopes.counts scope) count)
      (completed_to (with_count body scope (completed (body.scopes.counts scope) count)) scope (left_of (body.scopes.counts scope) count))
      (λ e. completes (with_count body scope (completed (body.scopes.counts scope) count)) refl scope (left_of (body.scopes.counts scope) count))
  served_apart (msg.Leave scope) apart = when_made Apart (can_leave (body.scopes.masters scope)) (left_with m body scope (release_of (released (body.scopes.masters scope))))
      (leaves scope (release_of (released (body.scopes.masters scope))))
  served_apart msg.StealAsk apart = record { vectors = refl; sends = tt; marks = tt }
  served_apart (msg.StealGive unit) apart = when Apart (body.steals.asked from) (quietly (record (private_first body unit) { steals = record body.steals { asked = put body.steals.asked from false } }))
      (λ e. record { vectors = refl; sends = tt; marks = tt })
  served_apart (msg.Batch object key effect batch) apart = batches_in object key effect batch (thing m object)
  served_apart (msg.BatchReply batch before) apart = comes_back batch before (body.batches.flying batch)
  served_apart (msg.Turn vector) apart = absurd apart
  served_apart (msg.Grant vector head tail) apart = absurd apart
  served_apart (msg.Done vector head tail) apart = absurd apart
  served_apart (msg.ElemPut vector position word) apart = absurd apart
  served_apart (msg.ElemGet vector position) apart = absurd apart
  served_apart (msg.ElemAck vector position got) apart = absurd apart
