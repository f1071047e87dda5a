-- What holds of each row of a Serve, and of nothing, holds of whatever a core does with a message.
use Rattle.std.proofs.Common.{ℕ, List, [], ◌∷◌}
use Rattle.std.specs.Prelude.{◌==◌, ◌&&◌, Bool, true, false, nat_lt, Option, Some, None}
use Rattle.std.specs.List.{list_all}
use Rattle.gr_syntax.specs.declared.limits.TheConstants.{HEAP}
use Rattle.gr_lang.specs.declared.action.Op.{Op}
use Rattle.gr_lang.specs.declared.action.Effect.{Effect}
use Rattle.gr_lang.specs.declared.action.Reply.{Reply}
use Rattle.gr_lang.specs.declared.action.TaskId.{TaskId}
use Rattle.gr_lang.specs.declared.action.WaitingCall.{WaitingCall}
use Rattle.gr_lang.specs.Effects.{reply}
use Rattle.gr_lang.specs.Objects.{Object, array, keys, pairs, line, start_in}
use Rattle.gr_msg.specs.declared.message.ScopeId.{ScopeId}
use Rattle.gr_msg.specs.declared.message.Unit.{Unit as WorkUnit}
use Rattle.gr_msg.specs.declared.message.Msg.{Msg}
use Rattle.gr_msg.specs.declared.message.Msg.TheVariants as msg
use Rattle.gr_batch.specs.Folding.{wakes_of}
use Rattle.gr_event.specs.Counts.{waiting_slots, when_acked, completed, left_of}
use Rattle.gr_event.specs.Masters.{released, release_of}
use Rattle.gr_event.specs.declared.counts.LocalCount.{LocalCount}
use Rattle.gr_event.specs.declared.counts.LocalLeft.{LocalLeft}
use Rattle.gr_event.specs.declared.masters.Master.{Master}
use Rattle.gr_event.specs.declared.masters.Waiter.TheVariants as waiter
use Rattle.gr_event.specs.declared.masters.Release.{Release}
use Rattle.gr_event.specs.declared.masters.Release.TheVariants as release
use Rattle.gr_vector.specs.declared.turn_plan.Plan.{Plan}
use Rattle.gr_vector.specs.Plans.{plan_of}
use Rattle.gr_vector.specs.Turns.{Turns, ended, is_out}
use Rattle.gr_machine.specs.Machines.{Machine, is_core, home, place, thing}
use Rattle.gr_machine.specs.States.{Suspended, Turn, Vector, Body}
use Rattle.gr_machine.specs.Outcomes.{Outcome, quietly}
use Rattle.gr_machine.specs.Slots.{awaits_reply, awaits_scope, awaits_enrolment, slot_awaits, task_awaits, resumed, resumed_all}
use Rattle.gr_machine.specs.Spawns.{with_count}
use Rattle.gr_machine.specs.ScopeRuns.{can_complete, can_leave, passes, with_leave}
use Rattle.gr_machine.specs.Requests.{word_call, named_at, word_made, allocated, freed, printed, made_at_zero, requested}
use Rattle.gr_machine.specs.ScopeServes.{spawned, can_enrol_one, core_enrolled_at, planted_all, acked_slots, completed_to, passed_by, over, left_with, waits_here, given}
use Rattle.gr_machine.specs.BatchServes.{is_of_word, is_of_set, is_of_map, word_applied, word_batch, key_applied, key_batch, batched, without_batch, can_wake, batch_replied}
use Rattle.gr_machine.specs.TurnServes.{turn_asked, turn_ended, turn_done, turn_begun, can_begin, group_granted, turn_granted, element_put, element_stored, element_got, element_fetched, with_turn, put_answered, get_answered, element_answered, turn_answered, element_acked}
use Rattle.gr_machine.specs.Serves.{serves}
use Rattle.gr_machine.proofs.ActionFacts.{choice}

-- A fact of each row, and of nothing.
pub record Servings (P : Option Outcome → Type 0) (machine : Machine) (me : ℕ) (body : Body) (from : ℕ) : Type 0 where
  pub is_nothing : P None
  pub is_word : (slot : ℕ) (id : TaskId) (at : ℕ) (call : Op) (word : ℕ) → P (word_made body from slot id at call (Some word))
  pub is_allocated : (slot : ℕ) (id : TaskId) (count : ℕ) (start : Option ℕ) → P (Some (allocated body from slot id count start))
  pub is_freed : (slot : ℕ) (id : TaskId) (at : ℕ) → P (Some (freed body from slot id at))
  pub is_printed : (slot : ℕ) (id : TaskId) (word : ℕ) → P (Some (printed body from slot id word))
  pub is_replied : (slot : ℕ) (answer : Reply) → P (Some (quietly (resumed machine body slot answer)))
  pub is_spawned : (work : WorkUnit) → P (Some (spawned body work))
  pub is_enrolled : (scope : ScopeId) (master : Option Master) → P (Some (core_enrolled_at body from scope master))
  pub is_acked : (scope : ScopeId) (count : Option LocalCount) (slots : List ℕ) → P (Some (planted_all machine me (quietly (with_count body scope count)) slots))
  pub is_completed : (scope : ScopeId) (count : Option LocalCount) (more : LocalLeft) → P (Some (completed_to (with_count body scope count) scope more))
  pub is_left : (scope : ScopeId) → P (Some (quietly (with_leave body scope)))
  pub is_passed : (scope : ScopeId) (slot : ℕ) (task : Suspended) → P (Some (passes machine (with_leave body scope) slot task))
  pub is_over : (scope : ScopeId) → P (Some (over body scope))
  pub is_waiting : P (Some (waits_here body from))
  pub is_given : (work : WorkUnit) → P (given body from work)
  pub is_folded : (at : ℕ) (what : Effect) (batch word : ℕ) → P (word_applied body from at what batch (Some word))
  pub is_applied : (object key : ℕ) (what : Effect) (batch : ℕ) (before : Option ℕ) → P (Some (key_applied body from object key what batch before))
  pub is_woken : (batch : ℕ) (before : Option ℕ) (calls : List WaitingCall) → P (Some (quietly (without_batch (resumed_all machine body (wakes_of calls before)) batch)))
  pub turn_is_asked : (vector : ℕ) (turns : Turns) → P (turn_asked body from vector (Some turns))
  pub turn_is_ended : (vector : ℕ) (turns : Turns) → P (Some (turn_ended body vector turns))
  pub turn_is_begun : (number : ℕ) (vector : Vector) (calls : List WaitingCall) (head tail : ℕ) (plan : Plan) → P (Some (turn_begun machine body number vector calls head tail plan))
  pub is_put : (number position word : ℕ) (vector : Vector) → P (element_put body from number position word vector None)
  pub is_got : (number position word : ℕ) (vector : Vector) → P (element_got body from number position vector (Some word))
  pub put_is_answered : (number position : ℕ) (vector : Vector) (turn : Turn) → P (Some (quietly (with_turn body number vector (put_answered turn position))))
  pub get_is_answered : (number position word : ℕ) (vector : Vector) (turn : Turn) → P (Some (quietly (with_turn body number vector (get_answered turn position word))))

module _ (P : Option Outcome → Type 0) (machine : Machine) (me : ℕ) (body : Body) (from : ℕ) (facts : Servings P machine me body from) where
  made_fact : (slot : ℕ) (id : TaskId) (at : ℕ) (call : Op) (word : Option ℕ) → P (word_made body from slot id at call word)
  made_fact slot id at call None = facts.is_nothing
  made_fact slot id at call (Some word) = facts.is_word slot id at call word

  zero_fact : (slot : ℕ) (id : TaskId) (operation x : ℕ) → P (made_at_zero machine body from slot id operation x)
  zero_fact slot id operation x = choice P (operation == 5) _ _ (facts.is_allocated slot id x (start_in machine.code.objects.heap body.words.blocks x))
      (choice P (operation == 6) _ _ (facts.is_freed slot id x) (choice P (operation == 7) _ _ (facts.is_printed slot id x) facts.is_nothing))

  requested_fact : (slot : ℕ) (id : TaskId) (operation x y z : ℕ) → P (requested machine me body from slot id operation x y z)
  requested_fact slot id operation x y z = choice P (nat_lt operation 5) _ _
      (choice P (nat_lt 0 operation && home machine x == me) _ _
      (made_fact slot id (place machine x) (word_call operation (named_at machine x) y z) (body.words.segment (place machine x))) facts.is_nothing)
      (choice P (me == 0) _ _ (zero_fact slot id operation x) facts.is_nothing)

  acked_fact : (scope : ScopeId) (count : Option LocalCount) (slots : Option (List ℕ)) → P (acked_slots machine me body scope count slots)
  acked_fact scope count None = facts.is_nothing
  acked_fact scope count (Some slots) = choice P (list_all (λ slot. slot_awaits (awaits_enrolment scope) body slot) slots) _ _ (facts.is_acked scope (when_acked count) slots) facts.is_nothing

  passed_fact : (scope : ScopeId) (slot : ℕ) (task : Option Suspended) → P (passed_by machine body scope slot task)
  passed_fact scope slot None = facts.is_nothing
  passed_fact scope slot (Some task) = choice P (awaits_scope scope task.waits) _ _ (facts.is_passed scope slot task) facts.is_nothing

  left_fact : (scope : ScopeId) (who : Release) → P (left_with machine body scope who)
  left_fact scope release.Held = facts.is_left scope
  left_fact scope (release.Released (waiter.Task slot)) = passed_fact scope slot (body.tasks.slots slot)
  left_fact scope (release.Released waiter.Root) = facts.is_over scope

  folded_fact : (at : ℕ) (what : Effect) (batch : ℕ) (word : Option ℕ) → P (word_applied body from at what batch word)
  folded_fact at what batch None = facts.is_nothing
  folded_fact at what batch (Some word) = facts.is_folded at what batch word

  word_fact : (at : ℕ) (what : Effect) (batch : ℕ) → P (word_batch machine me body from at what batch)
  word_fact at what batch = choice P (is_of_word what && home machine at == me) _ _ (folded_fact (place machine at) what batch (body.words.segment (place machine at))) facts.is_nothing

  key_fact : (object key : ℕ) (what : Effect) (batch : ℕ) (fits : Bool) → P (key_batch body from object key what batch fits)
  key_fact object key what batch true = facts.is_applied object key what batch (body.words.shards object key)
  key_fact object key what batch false = facts.is_nothing

  batched_fact : (object key : ℕ) (what : Effect) (batch : ℕ) (thing : Option Object) → P (batched machine me body from object key what batch thing)
  batched_fact object key what batch (Some (array start count)) = word_fact key what batch
  batched_fact object key what batch (Some (keys held)) = key_fact object key what batch (is_of_set what)
  batched_fact object key what batch (Some (pairs held)) = key_fact object key what batch (is_of_map what)
  batched_fact object key what batch (Some (line words)) = facts.is_nothing
  batched_fact object key what batch None = choice P (object == HEAP) _ _ (word_fact key what batch) facts.is_nothing

  woken_fact : (batch : ℕ) (before : Option ℕ) (calls : Option (List WaitingCall)) → P (batch_replied machine body batch before calls)
  woken_fact batch before None = facts.is_nothing
  woken_fact batch before (Some calls) = choice P (can_wake body batch before calls) _ _ (facts.is_woken batch before calls) facts.is_nothing

  asked_fact : (vector : ℕ) (turns : Option Turns) → P (turn_asked body from vector turns)
  asked_fact vector None = facts.is_nothing
  asked_fact vector (Some turns) = facts.turn_is_asked vector turns

  done_fact : (vector head tail : ℕ) (turns : Option Turns) → P (turn_done body vector head tail turns)
  done_fact vector head tail None = facts.is_nothing
  done_fact vector head tail (Some turns) = choice P (is_out turns) _ _ (facts.turn_is_ended vector (ended turns head tail)) facts.is_nothing

  group_fact : (number head tail : ℕ) (vector : Vector) (turn : Option Turn) (groups : List (List WaitingCall)) → P (group_granted machine body number head tail vector turn groups)
  group_fact number head tail vector None (calls ∷ groups) = choice P (can_begin body number head tail calls) _ _ (facts.turn_is_begun number vector calls head tail (plan_of calls head tail)) facts.is_nothing
  group_fact number head tail vector None [] = facts.is_nothing
  group_fact number head tail vector (Some turn) groups = facts.is_nothing

  granted_fact : (number head tail : ℕ) (vector : Option Vector) → P (turn_granted machine body number head tail vector)
  granted_fact number head tail None = facts.is_nothing
  granted_fact number head tail (Some vector) = group_fact number head tail vector vector.turn vector.groups

  put_fact : (number position word : ℕ) (vector : Vector) (held : Option ℕ) → P (element_put body from number position word vector held)
  put_fact number position word vector (Some old) = facts.is_nothing
  put_fact number position word vector None = facts.is_put number position word vector

  stored_fact : (number position word : ℕ) (vector : Option Vector) → P (element_stored body from number position word vector)
  stored_fact number position word None = facts.is_nothing
  stored_fact number position word (Some vector) = put_fact number position word vector (vector.part position)

  got_fact : (number position : ℕ) (vector : Vector) (held : Option ℕ) → P (element_got body from number position vector held)
  got_fact number position vector None = facts.is_nothing
  got_fact number position vector (Some word) = facts.is_got number position word vector

  fetched_fact : (number position : ℕ) (vector : Option Vector) → P (element_fetched body from number position vector)
  fetched_fact number position None = facts.is_nothing
  fetched_fact number position (Some vector) = got_fact number position vector (vector.part position)

  answered_fact : (number position : ℕ) (got : Option ℕ) (vector : Vector) (turn : Turn) → P (element_answered body number vector turn position got)
  answered_fact number position None vector turn = choice P (turn.puts position) _ _ (facts.put_is_answered number position vector turn) facts.is_nothing
  answered_fact number position (Some word) vector turn = choice P (turn.gets position) _ _ (facts.get_is_answered number position word vector turn) facts.is_nothing

  turn_fact : (number position : ℕ) (got : Option ℕ) (vector : Vector) (turn : Option Turn) → P (turn_answered body number position got vector turn)
  turn_fact number position got vector None = facts.is_nothing
  turn_fact number position got vector (Some turn) = answered_fact number position got vector turn

  element_fact : (number position : ℕ) (got : Option ℕ) (vector : Option Vector) → P (element_acked body number position got vector)
  element_fact number position got None = facts.is_nothing
  element_fact number position got (Some vector) = turn_fact number position got vector vector.turn

  -- Whatever a core does with a message.
  pub serves_fact : (message : Msg) → P (serves machine me body from message)
  serves_fact (msg.Request slot id operation x y z) = requested_fact slot id operation x y z
  serves_fact (msg.Reply slot id first second) = choice P (task_awaits awaits_reply body slot id) _ _ (facts.is_replied slot (reply first second)) facts.is_nothing
  serves_fact (msg.Spawn unit) = facts.is_spawned unit
  serves_fact (msg.Enrol scope) = choice P (can_enrol_one (body.scopes.masters scope)) _ _ (facts.is_enrolled scope (body.scopes.masters scope)) facts.is_nothing
  serves_fact (msg.EnrolAck scope) = acked_fact scope (body.scopes.counts scope) (waiting_slots (body.scopes.counts scope))
  serves_fact (msg.Complete scope count) = choice P (is_core machine scope.core && can_complete (body.scopes.counts scope) count) _ _
      (facts.is_completed scope (completed (body.scopes.counts scope) count) (left_of (body.scopes.counts scope) count)) facts.is_nothing
  serves_fact (msg.Leave scope) = choice P (can_leave (body.scopes.masters scope)) _ _ (left_fact scope (release_of (released (body.scopes.masters scope)))) facts.is_nothing
  serves_fact msg.StealAsk = facts.is_waiting
  serves_fact (msg.StealGive unit) = facts.is_given unit
  serves_fact (msg.Batch object key effect batch) = batched_fact object key effect batch (thing machine object)
  serves_fact (msg.BatchReply batch before) = woken_fact batch before (body.batches.flying batch)
  serves_fact (msg.Turn vector) = asked_fact vector (body.vectors.masters vector)
  serves_fact (msg.Grant vector head tail) = granted_fact vector head tail (body.vectors.vectors vector)
  serves_fact (msg.Done vector head tail) = done_fact vector head tail (body.vectors.masters vector)
  serves_fact (msg.ElemPut vector position word) = stored_fact vector position word (body.vectors.vectors vector)
  serves_fact (msg.ElemGet vector position) = fetched_fact vector position (body.vectors.vectors vector)
  serves_fact (msg.ElemAck vector position got) = element_fact vector position got (body.vectors.vectors vector)
