-- The marks of messages of calls, batches and turns, of the ends of turns, and of Closes are of calls alone.
use Rattle.std.proofs.Common.{◌≡◌, ℕ, ◌+◌, ◌==◌, ◌&&◌, Bool, true, false, nat_lt, if◌then◌else◌, List, [], ◌∷◌, ◌++◌, map, length, sym, ◌∙◌, ap, subst, refl, Option, Some, None}
use Rattle.gr_syntax.specs.declared.limits.TheConstants.{HEAP}
use Rattle.gr_lang.specs.declared.action.Effect.{Effect}
use Rattle.gr_lang.specs.declared.action.Op.{Op}
use Rattle.gr_lang.specs.declared.action.Reply.{Reply}
use Rattle.gr_lang.specs.declared.action.TaskId.{TaskId}
use Rattle.gr_lang.specs.declared.action.WaitingCall.{WaitingCall}
use Rattle.gr_lang.specs.Effects.{reply}
use Rattle.gr_lang.specs.Objects.{Object, array, keys, pairs, line, start_in}
use Rattle.gr_msg.specs.declared.message.Msg.{Msg}
use Rattle.gr_msg.specs.declared.message.Msg.TheVariants as msg
use Rattle.gr_batch.specs.Batches.{batches_of, rest_of}
use Rattle.gr_batch.specs.declared.combiner.Batch.{Batch}
use Rattle.gr_batch.specs.Folding.{wakes_of}
use Rattle.gr_vector.specs.Plans.{ends_after, plan_of}
use Rattle.gr_vector.specs.Turns.{Turns, ended, is_out}
use Rattle.gr_net.specs.Sums.{Each}
use Rattle.gr_net.proofs.Spreads.{Each-append}
use Rattle.gr_machine.specs.Machines.{Machine, home, place, thing}
use Rattle.gr_machine.specs.States.{Turn, Vector, Body}
use Rattle.gr_machine.specs.Outcomes.{Outcome, quietly, followed}
use Rattle.gr_machine.specs.Slots.{awaits_reply, task_awaits, resumed, resumed_all}
use Rattle.gr_machine.specs.Requests.{named_at, word_call, word_made, word_requested, allocated, freed, printed, made_at_zero}
use Rattle.gr_machine.specs.BatchServes.{is_of_word, is_of_set, is_of_map, word_applied, word_batch, key_batch, batched, without_batch, can_wake, batch_replied}
use Rattle.gr_machine.specs.TurnServes.{with_turn, put_answered, get_answered, turn_asked, turn_ended, turn_done, can_begin, turn_begun, group_granted, turn_granted, element_put, element_stored, element_got, element_fetched, element_answered, turn_answered, element_acked, call_marks, turn_replies, turn_finished, settled_turn, settled_vector}
use Rattle.gr_machine.specs.Serves.{serves}
use Rattle.gr_machine.specs.Closes.{batch_sent, batches_sent, with_combiner, closes_as}
use Rattle.gr_scopes_stays.specs.Stays.{IsOfOneCall}
use Rattle.gr_scopes_entries.specs.Marks.{IsOfCalls, LeavesCalls}
use Rattle.gr_scopes_entries.specs.Laws as laws

-- ---- tests

pub if_made : (b : Bool) (o : Option Outcome) → LeavesCalls o → LeavesCalls (if b then o else None)
if_made true o f = f
if_made false o f = tt

one_of : (b : Bool) (o p : Option Outcome) → LeavesCalls o → LeavesCalls p → LeavesCalls (if b then o else p)
one_of true o p f g = f
one_of false o p f g = g

-- ---- requests and batches

module _ (machine : Machine) (me from : ℕ) (body : Body) where
  made_calls : (slot : ℕ) (id : TaskId) (at : ℕ) (call : Op) (word : Option ℕ) → LeavesCalls (word_made body from slot id at call word)
  made_calls slot id at call None = tt
  made_calls slot id at call (Some word) = (tt, tt)

  allocated_calls : (slot : ℕ) (id : TaskId) (count : ℕ) (start : Option ℕ) → Each IsOfCalls (allocated body from slot id count start).marks
  allocated_calls slot id count None = (tt, tt)
  allocated_calls slot id count (Some start) = (tt, tt)

  zero_calls : (slot : ℕ) (id : TaskId) (operation x : ℕ) → LeavesCalls (made_at_zero machine body from slot id operation x)
  zero_calls slot id operation x = one_of (operation == 5) (Some (allocated body from slot id x (start_in machine.code.objects.heap body.words.blocks x))) freeing
      (allocated_calls slot id x (start_in machine.code.objects.heap body.words.blocks x))
      (one_of (operation == 6) (Some (freed body from slot id x)) printing (tt, tt) (if_made (operation == 7) (Some (printed body from slot id x)) (tt, tt)))
    where
      printing : Option Outcome
      printing = if operation == 7 then Some (printed body from slot id x) else None

      freeing : Option Outcome
      freeing = if operation == 6 then Some (freed body from slot id x) else printing

  request_calls : (slot : ℕ) (id : TaskId) (operation x y z : ℕ) → LeavesCalls (if nat_lt operation 5
      then (if nat_lt 0 operation && home machine x == me then word_requested machine body from slot id operation x y z else None)
      else (if me == 0 then made_at_zero machine body from slot id operation x else None))
  request_calls slot id operation x y z = one_of (nat_lt operation 5)
      (if nat_lt 0 operation && home machine x == me then word_requested machine body from slot id operation x y z else None)
      (if me == 0 then made_at_zero machine body from slot id operation x else None)
      (if_made (nat_lt 0 operation && home machine x == me) (word_requested machine body from slot id operation x y z)
      (made_calls slot id (place machine x) (word_call operation (named_at machine x) y z) (body.words.segment (place machine x))))
      (if_made (me == 0) (made_at_zero machine body from slot id operation x) (zero_calls slot id operation x))

  word_applies : (at : ℕ) (what : Effect) (batch : ℕ) (word : Option ℕ) → LeavesCalls (word_applied body from at what batch word)
  word_applies at what batch None = tt
  word_applies at what batch (Some word) = (tt, tt)

  word_calls : (at : ℕ) (what : Effect) (batch : ℕ) → LeavesCalls (word_batch machine me body from at what batch)
  word_calls at what batch = if_made (is_of_word what && home machine at == me) (word_applied body from (place machine at) what batch (body.words.segment (place machine at)))
      (word_applies (place machine at) what batch (body.words.segment (place machine at)))

  key_calls : (object key : ℕ) (what : Effect) (batch : ℕ) (is : Bool) → LeavesCalls (key_batch body from object key what batch is)
  key_calls object key what batch true = (tt, tt)
  key_calls object key what batch false = tt

  batch_calls : (object key : ℕ) (what : Effect) (batch : ℕ) (it : Option Object) → LeavesCalls (batched machine me body from object key what batch it)
  batch_calls object key what batch (Some (array start count)) = word_calls key what batch
  batch_calls object key what batch (Some (keys held)) = key_calls object key what batch (is_of_set what)
  batch_calls object key what batch (Some (pairs held)) = key_calls object key what batch (is_of_map what)
  batch_calls object key what batch (Some (line words)) = tt
  batch_calls object key what batch None = if_made (object == HEAP) (word_batch machine me body from key what batch) (word_calls key what batch)

  replied_calls : (batch : ℕ) (before : Option ℕ) (calls : Option (List WaitingCall)) → LeavesCalls (batch_replied machine body batch before calls)
  replied_calls batch before None = tt
  replied_calls batch before (Some calls) = by (can_wake body batch before calls)
    where
      by : (b : Bool) → LeavesCalls (if b then Some (quietly (without_batch (resumed_all machine body (wakes_of calls before)) batch)) else None)
      by true = tt
      by false = tt

  -- ---- turns

  granted_calls : (number head tail : ℕ) (vector : Vector) (turn : Option Turn) (groups : List (List WaitingCall)) → LeavesCalls (group_granted machine body number head tail vector turn groups)
  granted_calls number head tail vector None [] = tt
  granted_calls number head tail vector None (calls ∷ groups) =
      if_made (can_begin body number head tail calls) (Some (turn_begun machine body number vector calls head tail (plan_of calls head tail))) tt
  granted_calls number head tail vector (Some turn) groups = tt

  grant_calls : (number head tail : ℕ) (vector : Option Vector) → LeavesCalls (turn_granted machine body number head tail vector)
  grant_calls number head tail None = tt
  grant_calls number head tail (Some vector) = granted_calls number head tail vector vector.turn vector.groups

  put_calls : (number position word : ℕ) (vector : Vector) (old : Option ℕ) → LeavesCalls (element_put body from number position word vector old)
  put_calls number position word vector None = tt
  put_calls number position word vector (Some old) = tt

  got_calls : (number position : ℕ) (vector : Vector) (word : Option ℕ) → LeavesCalls (element_got body from number position vector word)
  got_calls number position vector None = tt
  got_calls number position vector (Some word) = tt

  answered_calls : (number : ℕ) (vector : Vector) (turn : Turn) (position : ℕ) (got : Option ℕ) → LeavesCalls (element_answered body number vector turn position got)
  answered_calls number vector turn position None = by (turn.puts position)
    where
      by : (b : Bool) → LeavesCalls (if b then Some (quietly (with_turn body number vector (put_answered turn position))) else None)
      by true = tt
      by false = tt
  answered_calls number vector turn position (Some word) = by (turn.gets position)
    where
      by : (b : Bool) → LeavesCalls (if b then Some (quietly (with_turn body number vector (get_answered turn position word))) else None)
      by true = tt
      by false = tt

  acked_calls : (number position : ℕ) (got : Option ℕ) (vector : Vector) (turn : Option Turn) → LeavesCalls (turn_answered body number position got vector turn)
  acked_calls number position got vector None = tt
  acked_calls number position got vector (Some turn) = answered_calls number vector turn position got

  message_calls : (message : Msg) → IsOfOneCall message → LeavesCalls (serves machine me body from message)
  message_calls (msg.Request slot id operation x y z) is = request_calls slot id operation x y z
  message_calls (msg.Reply slot id first second) is = if_made (task_awaits awaits_reply body slot id) (Some (quietly (resumed machine body slot (reply first second)))) tt
  message_calls msg.StealAsk is = tt
  message_calls (msg.Batch object key effect batch) is = batch_calls object key effect batch (thing machine object)
  message_calls (msg.Turn vector) is = by (body.vectors.masters vector)
    where
      by : (o : Option Turns) → LeavesCalls (turn_asked body from vector o)
      by None = tt
      by (Some turns) = tt
  message_calls (msg.Grant vector head tail) is = grant_calls vector head tail (body.vectors.vectors vector)
  message_calls (msg.Done vector head tail) is = by (body.vectors.masters vector)
    where
      by : (o : Option Turns) → LeavesCalls (turn_done body vector head tail o)
      by None = tt
      by (Some turns) = if_made (is_out turns) (Some (turn_ended body vector (ended turns head tail))) tt
  message_calls (msg.ElemPut vector position word) is = by (body.vectors.vectors vector)
    where
      by : (o : Option Vector) → LeavesCalls (element_stored body from vector position word o)
      by None = tt
      by (Some it) = put_calls vector position word it (it.part position)
  message_calls (msg.ElemGet vector position) is = by (body.vectors.vectors vector)
    where
      by : (o : Option Vector) → LeavesCalls (element_fetched body from vector position o)
      by None = tt
      by (Some it) = got_calls vector position it (it.part position)
  message_calls (msg.ElemAck vector position got) is = by (body.vectors.vectors vector)
    where
      by : (o : Option Vector) → LeavesCalls (element_acked body vector position got o)
      by None = tt
      by (Some it) = acked_calls vector position got it it.turn
  message_calls _ is = absurd is

-- ---- ends of turns

pub marks_of_calls : (answers : List (WaitingCall × Reply)) → Each IsOfCalls (call_marks answers)
marks_of_calls [] = tt
marks_of_calls (answer ∷ answers) = (tt, marks_of_calls answers)

turn_calls : (machine : Machine) (body : Body) (number : ℕ) (vector : Vector) (turn : Option Turn) → LeavesCalls (settled_turn machine body number vector turn)
turn_calls machine body number vector None = tt
turn_calls machine body number vector (Some turn) =
    if_made (turn.left == 0) (Some (turn_finished machine body number vector turn (ends_after turn.calls turn.ends))) (marks_of_calls (turn_replies turn))

vector_calls : (machine : Machine) (body : Body) (number : ℕ) (vector : Option Vector) → LeavesCalls (settled_vector machine body number vector)
vector_calls machine body number None = tt
vector_calls machine body number (Some vector) = turn_calls machine body number vector vector.turn

-- ---- Closes

batches_calls : (machine : Machine) (object : ℕ) (outcome : Outcome) (batches : List Batch) → Each IsOfCalls outcome.marks → Each IsOfCalls (batches_sent machine object outcome batches).marks
batches_calls machine object outcome [] f = f
batches_calls machine object outcome (batch ∷ batches) f =
    batches_calls machine object (followed outcome (batch_sent machine outcome.body object batch)) batches
    (Each-append IsOfCalls outcome.marks (batch_sent machine outcome.body object batch).marks f (tt, tt))

close_calls : (machine : Machine) (body : Body) (object : ℕ) (vector : Option Vector) → Each IsOfCalls (closes_as machine body object vector).marks
close_calls machine body object None =
    batches_calls machine object (quietly (with_combiner body object (rest_of (body.batches.combiners object)))) (batches_of (body.batches.combiners object)) tt
close_calls machine body object (Some vector) = tt

pub messages_leave_calls : laws.MessagesLeaveCalls
messages_leave_calls machine me from body message is = message_calls machine me from body message is

pub batch_replies_leave_none : laws.BatchRepliesLeaveNone
batch_replies_leave_none machine me from body batch before = replied_calls machine me from body batch before (body.batches.flying batch)

pub turn_ends_leave_calls : laws.TurnEndsLeaveCalls
turn_ends_leave_calls machine body (msg.Grant vector head tail) = vector_calls machine body vector (body.vectors.vectors vector)
turn_ends_leave_calls machine body (msg.ElemAck vector position got) = vector_calls machine body vector (body.vectors.vectors vector)
turn_ends_leave_calls machine body _ = tt

pub closes_leave_calls : laws.ClosesLeaveCalls
closes_leave_calls machine body object = close_calls machine body object (body.vectors.vectors object)
