-- What a Serve tells of its core's stops: the root is passed only in a Leave, where the program's end waits at the master.
use Rattle.std.proofs.Common.{◌≡◌, ◌==◌, inr, ℕ, List, [], ◌∷◌, refl}
use Rattle.std.specs.Prelude.{◌&&◌, Bool, true, false, nat_lt, Option, Some, None}
use Rattle.std.specs.List.{list_all}
use Rattle.gr_syntax.specs.declared.limits.TheConstants.{HEAP}
use Rattle.gr_lang.specs.declared.action.Action.{Action}
use Rattle.gr_lang.specs.declared.action.Action.TheVariants as action
use Rattle.gr_lang.specs.declared.action.Effect.{Effect}
use Rattle.gr_lang.specs.declared.action.Op.{Op}
use Rattle.gr_lang.specs.declared.action.TaskId.{TaskId}
use Rattle.gr_lang.specs.declared.action.WaitingCall.{WaitingCall}
use Rattle.gr_lang.specs.Effects.{reply}
use Rattle.gr_lang.specs.Objects.{Object, array, keys, pairs, line, start_in}
use Rattle.gr_msg.specs.declared.message.ScopeId.{ScopeId}
use Rattle.gr_msg.specs.declared.message.Msg.{Msg}
use Rattle.gr_msg.specs.declared.message.Msg.TheVariants as msg
use Rattle.gr_event.specs.declared.counts.LocalCount.{LocalCount}
use Rattle.gr_event.specs.declared.counts.LocalLeft.{LocalLeft}
use Rattle.gr_event.specs.declared.counts.LocalLeft.TheVariants as rest
use Rattle.gr_event.specs.Counts.{waiting_slots, when_acked, completed, left_of}
use Rattle.gr_event.specs.Masters.{released, release_of}
use Rattle.gr_event.specs.declared.masters.Master.{Master}
use Rattle.gr_event.specs.declared.masters.Waiter.{Waiter}
use Rattle.gr_event.specs.declared.masters.Waiter.TheVariants as waiter
use Rattle.gr_batch.specs.Folding.{wakes_of}
use Rattle.gr_vector.specs.Turns.{Turns, is_out}
use Rattle.gr_machine.specs.Machines.{Machine, is_core, home, place, thing}
use Rattle.gr_machine.specs.States.{Suspended, Turn, Vector, Body}
use Rattle.gr_machine.specs.Outcomes.{Outcome, quietly, followed}
use Rattle.gr_machine.specs.Slots.{awaits_reply, awaits_scope, awaits_enrolment, slot_awaits, task_awaits}
use Rattle.gr_machine.specs.Spawns.{with_count}
use Rattle.gr_machine.specs.ScopeRuns.{can_complete, can_leave}
use Rattle.gr_machine.specs.Requests.{word_call, named_at, word_made, allocated, made_at_zero, requested}
use Rattle.gr_machine.specs.ScopeServes.{can_enrol_one, planted_by, planted_in, planted_all, acked_slots, completed_to, passed_by, left_with, core_left}
use Rattle.gr_machine.specs.BatchServes.{is_of_word, is_of_set, is_of_map, word_applied, word_batch, key_batch, batched, can_wake, batch_replied}
use Rattle.gr_machine.specs.TurnServes.{turn_asked, turn_done, can_begin, group_granted, turn_granted}
use Rattle.gr_machine.specs.TurnServes.{element_put, element_stored, element_got, element_fetched, element_answered, turn_answered, element_acked}
use Rattle.gr_machine.specs.Serves.{serves}
use Rattle.gr_machine.proofs.ActionFacts.{choice}
use Rattle.gr_machine.proofs.Clocks.{some_then}
use Rattle.gr_stands_stops.proofs.Marks.{RootWaits, Told, Row, Made, told_calm, told_same, told_then}
use Rattle.gr_stands_stops.proofs.Runs.{planted_tell, resumed_stops, one_stops}

module _ (Passes : Type 0) (machine : Machine) (me : ℕ) where
  by_tell : (body : Body) (slot : ℕ) (task : Suspended) (what : Action) → Row Passes body (planted_by machine me body slot task what)
  by_tell body slot task (action.Spawn way target args) = planted_tell Passes machine me body slot task way target args
  by_tell body slot task _ = told_calm Passes body.stops _ refl

  in_tell : (body : Body) (slot : ℕ) (o : Option Suspended) → Row Passes body (planted_in machine me body slot o)
  in_tell body slot None = told_calm Passes body.stops _ refl
  in_tell body slot (Some task) = by_tell body slot task task.action

  pub all_tell : (slots : List ℕ) (body : Body) (e : Outcome) → Row Passes body e → Row Passes body (planted_all machine me e slots)
  all_tell [] body e told = told
  all_tell (slot ∷ slots) body e told =
      let next : Outcome = planted_in machine me e.body slot (e.body.tasks.slots slot) in
      all_tell slots body (followed e next)
      (told_then Passes body.stops e.body.stops next.body.stops e.marks next.marks told (in_tell e.body slot (e.body.tasks.slots slot)))

module _ (machine : Machine) (me from : ℕ) (body : Body) where
  abbrev Tells : Option Outcome → Type 0
  Tells o = Made (RootWaits body) body o

  still : Told (RootWaits body) body.stops body.stops []
  still = told_calm (RootWaits body) body.stops [] refl

  -- ---- calls and prints

  made_tells : (slot : ℕ) (id : TaskId) (at : ℕ) (call : Op) (word : Option ℕ) → Tells (word_made body from slot id at call word)
  made_tells slot id at call None = tt
  made_tells slot id at call (Some word) = told_calm (RootWaits body) body.stops _ refl

  allocated_tells : (slot : ℕ) (id : TaskId) (count : ℕ) (start : Option ℕ) → Row (RootWaits body) body (allocated body from slot id count start)
  allocated_tells slot id count None = told_calm (RootWaits body) body.stops _ refl
  allocated_tells slot id count (Some start) = told_calm (RootWaits body) body.stops _ refl

  zero_tells : (slot : ℕ) (id : TaskId) (operation x : ℕ) → Tells (made_at_zero machine body from slot id operation x)
  zero_tells slot id operation x = choice Tells (operation == 5) _ _ (allocated_tells slot id x (start_in machine.code.objects.heap body.words.blocks x))
      (choice Tells (operation == 6) _ _ (told_calm (RootWaits body) body.stops _ refl)
      (choice Tells (operation == 7) _ _ (told_calm (RootWaits body) body.stops _ refl) tt))

  requested_tells : (slot : ℕ) (id : TaskId) (operation x y z : ℕ) → Tells (requested machine me body from slot id operation x y z)
  requested_tells slot id operation x y z = choice Tells (nat_lt operation 5) _ _
      (choice Tells (nat_lt 0 operation && home machine x == me) _ _
      (made_tells slot id (place machine x) (word_call operation (named_at machine x) y z) (body.words.segment (place machine x))) tt)
      (choice Tells (me == 0) _ _ (zero_tells slot id operation x) tt)

  -- ---- scopes

  acked_tells : (scope : ScopeId) (count : Option LocalCount) (slots : Option (List ℕ)) → Tells (acked_slots machine me body scope count slots)
  acked_tells scope count None = tt
  acked_tells scope count (Some slots) = choice Tells (list_all (λ slot. slot_awaits (awaits_enrolment scope) body slot) slots) _ _
      (all_tell (RootWaits body) machine me slots body (quietly (with_count body scope (when_acked count))) still) tt

  completed_tells : (after : Body) (scope : ScopeId) (left : LocalLeft) → after.stops ≡ body.stops → Row (RootWaits body) body (completed_to after scope left)
  completed_tells after scope rest.More e = told_same (RootWaits body) body.stops after.stops [] e refl
  completed_tells after scope rest.Zero e = told_same (RootWaits body) body.stops after.stops [] e refl

  passed_tells : (scope : ScopeId) (slot : ℕ) (task : Option Suspended) → Tells (passed_by machine body scope slot task)
  passed_tells scope slot None = tt
  passed_tells scope slot (Some task) = choice Tells (awaits_scope scope task.waits) _ _ (told_calm (RootWaits body) body.stops _ refl) tt

  left_tells : (scope : ScopeId) (o : Option Master) → body.scopes.masters scope ≡ o → Tells (core_left machine body scope o)
  left_tells scope None e = tt
  left_tells scope (Some master) e = choice Tells (can_leave (Some master)) _ _ (by (released (Some master)) refl) tt
    where
      by : (r : Option Waiter) → released (Some master) ≡ r → Tells (left_with machine body scope (release_of r))
      by None q = still
      by (Some (waiter.Task slot)) q = passed_tells scope slot (body.tasks.slots slot)
      by (Some waiter.Root) q = record {
        follows = refl;
        passes = λ h. inr (record { scope = scope; master = master; there = e; waits = some_then (master.active == 1) master.waiter waiter.Root q });
      }

  -- ---- batches

  folded_tells : (at : ℕ) (what : Effect) (batch : ℕ) (word : Option ℕ) → Tells (word_applied body from at what batch word)
  folded_tells at what batch None = tt
  folded_tells at what batch (Some word) = told_calm (RootWaits body) body.stops _ refl

  word_tells : (at : ℕ) (what : Effect) (batch : ℕ) → Tells (word_batch machine me body from at what batch)
  word_tells at what batch = choice Tells (is_of_word what && home machine at == me) _ _
      (folded_tells (place machine at) what batch (body.words.segment (place machine at))) tt

  key_tells : (object key : ℕ) (what : Effect) (batch : ℕ) (fits : Bool) → Tells (key_batch body from object key what batch fits)
  key_tells object key what batch true = told_calm (RootWaits body) body.stops _ refl
  key_tells object key what batch false = tt

  batched_tells : (object key : ℕ) (what : Effect) (batch : ℕ) (thing : Option Object) → Tells (batched machine me body from object key what batch thing)
  batched_tells object key what batch (Some (array start count)) = word_tells key what batch
  batched_tells object key what batch (Some (keys held)) = key_tells object key what batch (is_of_set what)
  batched_tells object key what batch (Some (pairs held)) = key_tells object key what batch (is_of_map what)
  batched_tells object key what batch (Some (line words)) = tt
  batched_tells object key what batch None = choice Tells (object == HEAP) _ _ (word_tells key what batch) tt

  woken_tells : (batch : ℕ) (before : Option ℕ) (calls : Option (List WaitingCall)) → Tells (batch_replied machine body batch before calls)
  woken_tells batch before None = tt
  woken_tells batch before (Some calls) = choice Tells (can_wake body batch before calls) _ _
      (told_same (RootWaits body) body.stops _ [] (resumed_stops machine (wakes_of calls before) body) refl) tt

  -- ---- turns

  asked_tells : (vector : ℕ) (turns : Option Turns) → Tells (turn_asked body from vector turns)
  asked_tells vector None = tt
  asked_tells vector (Some turns) = still

  done_tells : (vector head tail : ℕ) (turns : Option Turns) → Tells (turn_done body vector head tail turns)
  done_tells vector head tail None = tt
  done_tells vector head tail (Some turns) = choice Tells (is_out turns) _ _ still tt

  group_tells : (number head tail : ℕ) (vector : Vector) (turn : Option Turn) (groups : List (List WaitingCall))
      → Tells (group_granted machine body number head tail vector turn groups)
  group_tells number head tail vector None (calls ∷ groups) =
      choice Tells (can_begin body number head tail calls) _ _ still tt
  group_tells number head tail vector None [] = tt
  group_tells number head tail vector (Some turn) groups = tt

  granted_tells : (number head tail : ℕ) (vector : Option Vector) → Tells (turn_granted machine body number head tail vector)
  granted_tells number head tail None = tt
  granted_tells number head tail (Some vector) = group_tells number head tail vector vector.turn vector.groups

  put_tells : (number position word : ℕ) (vector : Vector) (held : Option ℕ) → Tells (element_put body from number position word vector held)
  put_tells number position word vector (Some old) = tt
  put_tells number position word vector None = still

  stored_tells : (number position word : ℕ) (vector : Option Vector) → Tells (element_stored body from number position word vector)
  stored_tells number position word None = tt
  stored_tells number position word (Some vector) = put_tells number position word vector (vector.part position)

  got_tells : (number position : ℕ) (vector : Vector) (held : Option ℕ) → Tells (element_got body from number position vector held)
  got_tells number position vector None = tt
  got_tells number position vector (Some word) = still

  fetched_tells : (number position : ℕ) (vector : Option Vector) → Tells (element_fetched body from number position vector)
  fetched_tells number position None = tt
  fetched_tells number position (Some vector) = got_tells number position vector (vector.part position)

  answered_tells : (number position : ℕ) (got : Option ℕ) (vector : Vector) (turn : Turn) → Tells (element_answered body number vector turn position got)
  answered_tells number position None vector turn = choice Tells (turn.puts position) _ _ still tt
  answered_tells number position (Some word) vector turn = choice Tells (turn.gets position) _ _ still tt

  turn_tells : (number position : ℕ) (got : Option ℕ) (vector : Vector) (turn : Option Turn) → Tells (turn_answered body number position got vector turn)
  turn_tells number position got vector None = tt
  turn_tells number position got vector (Some turn) = answered_tells number position got vector turn

  element_tells : (number position : ℕ) (got : Option ℕ) (vector : Option Vector) → Tells (element_acked body number position got vector)
  element_tells number position got None = tt
  element_tells number position got (Some vector) = turn_tells number position got vector vector.turn

  -- Whatever a core does with a message.
  pub serves_tell : (message : Msg) → Tells (serves machine me body from message)
  serves_tell (msg.Request slot id operation x y z) = requested_tells slot id operation x y z
  serves_tell (msg.Reply slot id first second) = choice Tells (task_awaits awaits_reply body slot id) _ _
      (told_same (RootWaits body) body.stops _ [] (one_stops machine body slot (reply first second) (body.tasks.slots slot)) refl) tt
  serves_tell (msg.Spawn unit) = still
  serves_tell (msg.Enrol scope) = choice Tells (can_enrol_one (body.scopes.masters scope)) _ _ still tt
  serves_tell (msg.EnrolAck scope) = acked_tells scope (body.scopes.counts scope) (waiting_slots (body.scopes.counts scope))
  serves_tell (msg.Complete scope count) = choice Tells (is_core machine scope.core && can_complete (body.scopes.counts scope) count) _ _
      (completed_tells (with_count body scope (completed (body.scopes.counts scope) count)) scope (left_of (body.scopes.counts scope) count) refl) tt
  serves_tell (msg.Leave scope) = left_tells scope (body.scopes.masters scope) refl
  serves_tell msg.StealAsk = still
  serves_tell (msg.StealGive unit) = choice Tells (body.steals.asked from) _ _ still tt
  serves_tell (msg.Batch object key effect batch) = batched_tells object key effect batch (thing machine object)
  serves_tell (msg.BatchReply batch before) = woken_tells batch before (body.batches.flying batch)
  serves_tell (msg.Turn vector) = asked_tells vector (body.vectors.masters vector)
  serves_tell (msg.Grant vector head tail) = granted_tells vector head tail (body.vectors.vectors vector)
  serves_tell (msg.Done vector head tail) = done_tells vector head tail (body.vectors.masters vector)
  serves_tell (msg.ElemPut vector position word) = stored_tells vector position word (body.vectors.vectors vector)
  serves_tell (msg.ElemGet vector position) = fetched_tells vector position (body.vectors.vectors vector)
  serves_tell (msg.ElemAck vector position got) = element_tells vector position got (body.vectors.vectors vector)
