-- Outcomes that leave a core's numbers, and send nothing that tells of the active cores or of the ends of a scope.
use Rattle.std.proofs.Common.{◌≡◌, ℕ, ◌==◌, List, [], ◌∷◌, ◌++◌, refl, ◌∙◌}
use Rattle.std.specs.Prelude.{Bool, true, false, ◌&&◌, Option, Some, None, nat_lt, drop}
use Rattle.gr_syntax.specs.declared.limits.TheConstants.{HEAP}
use Rattle.gr_lang.specs.declared.action.Op.{Op}
use Rattle.gr_lang.specs.declared.action.Effect.{Effect}
use Rattle.gr_lang.specs.declared.action.Reply.{Reply}
use Rattle.gr_lang.specs.declared.action.TaskId.{TaskId}
use Rattle.gr_lang.specs.declared.action.WaitingCall.{WaitingCall}
use Rattle.gr_lang.specs.Objects.{Object, array, keys, pairs, line, start_in}
use Rattle.gr_batch.specs.Folding.{wakes_of}
use Rattle.gr_batch.specs.declared.combiner.Held.{Held}
use Rattle.gr_batch.specs.declared.wakes.Woken.{Woken}
use Rattle.gr_msg.specs.declared.message.Msg.{Msg}
use Rattle.gr_msg.specs.declared.message.Msg.TheVariants as msg
use Rattle.gr_msg.specs.declared.message.Unit.{Unit as WorkUnit}
use Rattle.gr_vector.specs.declared.master.Granted.{Granted}
use Rattle.gr_vector.specs.Plans.{plan_of}
use Rattle.gr_vector.specs.Turns.{Turns, grant_on_asking, ended, granted, is_out}
use Rattle.gr_net.specs.Sums.{Each}
use Rattle.gr_net.proofs.Spreads.{Each-append}
use Rattle.gr_machine.specs.Machines.{Machine, home, place, thing}
use Rattle.gr_machine.specs.declared.waits.Waits.{Waits}
use Rattle.gr_machine.specs.States.{Scopes, Suspended, Turn, Vector, Body}
use Rattle.gr_machine.specs.Outcomes.{Send, Outcome}
use Rattle.gr_machine.specs.Slots.{awaits_reply, task_awaits, resumed, resumed_task, resumed_all, rewaiting, rewaiting_task}
use Rattle.gr_machine.specs.Closes.{closes_vector}
use Rattle.gr_machine.specs.Requests.{word_call, named_at, word_made, allocated, made_at_zero, requested}
use Rattle.gr_machine.specs.BatchServes.{is_of_word, is_of_set, is_of_map, word_applied, word_batch, key_batch, batched, can_wake, batch_replied}
use Rattle.gr_machine.specs.TurnServes.{grants, turn_asked, turn_done, put_sends, get_sends, can_begin, group_granted, turn_granted, element_put, element_stored, element_got, element_fetched, element_answered, turn_answered, element_acked, with_vector, wakes, turn_replies, settled_turn, settled_vector}
use Rattle.gr_machine.specs.Serves.{serves, settles}
use Rattle.gr_machine.specs.Events.{gifts, gives}
use Rattle.gr_machine.proofs.ActionFacts.{choice}

-- The numbers that a core gives, and what it counts.
pub record Numbers : Type 0 where
  pub task : ℕ
  pub scopes : Scopes
  pub combiners : ℕ → List Held
  pub batch : ℕ

abbrev pub numbers : Body → Numbers
numbers body = record { task = body.tasks.next; scopes = body.scopes; combiners = body.batches.combiners; batch = body.batches.next }

-- Neither an Enrol nor a Complete.
abbrev pub IsPlain : Msg → Type 0
IsPlain (msg.Enrol scope) = ⊥
IsPlain (msg.Complete scope tasks) = ⊥
IsPlain _ = Unit

abbrev pub ArePlain : List Send → Type 0
ArePlain sends = Each (λ send. IsPlain send.message) sends

abbrev pub Leaves : Body → Outcome → Type 0
Leaves body outcome = (numbers outcome.body ≡ numbers body) × ArePlain outcome.sends

abbrev pub LeavesIf : Body → Option Outcome → Type 0
LeavesIf body None = Unit {0}
LeavesIf body (Some outcome) = Leaves body outcome

-- ---- series

resumed_same : (machine : Machine) (body : Body) (slot : ℕ) (answer : Reply) (task : Option Suspended) → numbers (resumed_task machine body slot answer task) ≡ numbers body
resumed_same machine body slot answer None = refl
resumed_same machine body slot answer (Some task) = refl

all_resumed_same : (machine : Machine) (body : Body) (wakes : List Woken) → numbers (resumed_all machine body wakes) ≡ numbers body
all_resumed_same machine body [] = refl
all_resumed_same machine body (wake ∷ wakes) = all_resumed_same machine (resumed machine body wake.slot wake.reply) wakes ∙ resumed_same machine body wake.slot wake.reply (body.tasks.slots wake.slot)

task_rewaits : (body : Body) (slot : ℕ) (reason : Waits) (task : Option Suspended) → numbers (rewaiting_task body slot reason task) ≡ numbers body
task_rewaits body slot reason None = refl
task_rewaits body slot reason (Some task) = refl

pub rewaiting_same : (body : Body) (reason : Waits) (calls : List WaitingCall) → numbers (rewaiting body reason calls) ≡ numbers body
rewaiting_same body reason [] = refl
rewaiting_same body reason (call ∷ calls) =
    rewaiting_same (rewaiting_task body call.slot reason (body.tasks.slots call.slot)) reason calls ∙ task_rewaits body call.slot reason (body.tasks.slots call.slot)

gifts_plain : (cores : List ℕ) (units : List WorkUnit) → ArePlain (gifts cores units)
gifts_plain [] units = tt
gifts_plain (core ∷ cores) [] = tt
gifts_plain (core ∷ cores) (unit ∷ units) = (tt, gifts_plain cores units)

puts_plain : (machine : Machine) (vector : ℕ) (words : List (ℕ × ℕ)) → ArePlain (put_sends machine vector words)
puts_plain machine vector [] = tt
puts_plain machine vector (word ∷ words) = (tt, puts_plain machine vector words)

gets_plain : (machine : Machine) (vector : ℕ) (positions : List ℕ) → ArePlain (get_sends machine vector positions)
gets_plain machine vector [] = tt
gets_plain machine vector (position ∷ positions) = (tt, gets_plain machine vector positions)

grants_plain : (vector : ℕ) (grant : Option Granted) → ArePlain (grants vector grant)
grants_plain vector None = tt
grants_plain vector (Some grant) = (tt, tt)

-- ---- messages

-- What none of the four messages of scopes is.
abbrev pub IsOfNoScope : Msg → Type 0
IsOfNoScope (msg.Enrol scope) = ⊥
IsOfNoScope (msg.EnrolAck scope) = ⊥
IsOfNoScope (msg.Complete scope tasks) = ⊥
IsOfNoScope (msg.Leave scope) = ⊥
IsOfNoScope _ = Unit

module _ (machine : Machine) (me : ℕ) (body : Body) (from : ℕ) where
  abbrev P : Option Outcome → Type 0
  P = LeavesIf body

  word_leaves : (slot : ℕ) (id : TaskId) (at : ℕ) (call : Op) (word : Option ℕ) → P (word_made body from slot id at call word)
  word_leaves slot id at call None = tt
  word_leaves slot id at call (Some word) = (refl, (tt, tt))

  block_leaves : (slot : ℕ) (id : TaskId) (count : ℕ) (start : Option ℕ) → P (Some (allocated body from slot id count start))
  block_leaves slot id count None = (refl, (tt, tt))
  block_leaves slot id count (Some start) = (refl, (tt, tt))

  zero_leaves : (slot : ℕ) (id : TaskId) (operation x : ℕ) → P (made_at_zero machine body from slot id operation x)
  zero_leaves slot id operation x = choice P (operation == 5) _ _ (block_leaves slot id x (start_in machine.code.objects.heap body.words.blocks x))
      (choice P (operation == 6) _ _ (refl, (tt, tt)) (choice P (operation == 7) _ _ (refl, (tt, tt)) tt))

  request_leaves : (slot : ℕ) (id : TaskId) (operation x y z : ℕ) → P (requested machine me body from slot id operation x y z)
  request_leaves slot id operation x y z = choice P (nat_lt operation 5) _ _
      (choice P (nat_lt 0 operation && home machine x == me) _ _
      (word_leaves slot id (place machine x) (word_call operation (named_at machine x) y z) (body.words.segment (place machine x))) tt)
      (choice P (me == 0) _ _ (zero_leaves slot id operation x) tt)

  folded_leaves : (at : ℕ) (what : Effect) (batch : ℕ) (word : Option ℕ) → P (word_applied body from at what batch word)
  folded_leaves at what batch None = tt
  folded_leaves at what batch (Some word) = (refl, (tt, tt))

  fold_leaves : (at : ℕ) (what : Effect) (batch : ℕ) → P (word_batch machine me body from at what batch)
  fold_leaves at what batch = choice P (is_of_word what && home machine at == me) _ _ (folded_leaves (place machine at) what batch (body.words.segment (place machine at))) tt

  key_leaves : (object key : ℕ) (what : Effect) (batch : ℕ) (fits : Bool) → P (key_batch body from object key what batch fits)
  key_leaves object key what batch true = (refl, (tt, tt))
  key_leaves object key what batch false = tt

  batch_leaves : (object key : ℕ) (what : Effect) (batch : ℕ) (thing : Option Object) → P (batched machine me body from object key what batch thing)
  batch_leaves object key what batch (Some (array start count)) = fold_leaves key what batch
  batch_leaves object key what batch (Some (keys held)) = key_leaves object key what batch (is_of_set what)
  batch_leaves object key what batch (Some (pairs held)) = key_leaves object key what batch (is_of_map what)
  batch_leaves object key what batch (Some (line words)) = tt
  batch_leaves object key what batch None = choice P (object == HEAP) _ _ (fold_leaves key what batch) tt

  wake_leaves : (batch : ℕ) (before : Option ℕ) (calls : Option (List WaitingCall)) → P (batch_replied machine body batch before calls)
  wake_leaves batch before None = tt
  wake_leaves batch before (Some calls) = choice P (can_wake body batch before calls) _ _ (all_resumed_same machine body (wakes_of calls before), tt) tt

  ask_leaves : (vector : ℕ) (turns : Option Turns) → P (turn_asked body from vector turns)
  ask_leaves vector None = tt
  ask_leaves vector (Some turns) = (refl, grants_plain vector (grant_on_asking turns from))

  done_leaves : (vector head tail : ℕ) (turns : Option Turns) → P (turn_done body vector head tail turns)
  done_leaves vector head tail None = tt
  done_leaves vector head tail (Some turns) = choice P (is_out turns) _ _ (refl, grants_plain vector (granted (ended turns head tail))) tt

  group_leaves : (number head tail : ℕ) (vector : Vector) (turn : Option Turn) (groups : List (List WaitingCall)) → P (group_granted machine body number head tail vector turn groups)
  group_leaves number head tail vector None (calls ∷ groups) = choice P (can_begin body number head tail calls) _ _
      (refl, Each-append (λ (send : Send). IsPlain send.message) _ _ (puts_plain machine number (plan_of calls head tail).puts) (gets_plain machine number (plan_of calls head tail).gets)) tt
  group_leaves number head tail vector None [] = tt
  group_leaves number head tail vector (Some turn) groups = tt

  grant_leaves : (number head tail : ℕ) (vector : Option Vector) → P (turn_granted machine body number head tail vector)
  grant_leaves number head tail None = tt
  grant_leaves number head tail (Some vector) = group_leaves number head tail vector vector.turn vector.groups

  put_leaves : (number position word : ℕ) (vector : Vector) (held : Option ℕ) → P (element_put body from number position word vector held)
  put_leaves number position word vector (Some old) = tt
  put_leaves number position word vector None = (refl, (tt, tt))

  store_leaves : (number position word : ℕ) (vector : Option Vector) → P (element_stored body from number position word vector)
  store_leaves number position word None = tt
  store_leaves number position word (Some vector) = put_leaves number position word vector (vector.part position)

  got_leaves : (number position : ℕ) (vector : Vector) (held : Option ℕ) → P (element_got body from number position vector held)
  got_leaves number position vector None = tt
  got_leaves number position vector (Some word) = (refl, (tt, tt))

  fetch_leaves : (number position : ℕ) (vector : Option Vector) → P (element_fetched body from number position vector)
  fetch_leaves number position None = tt
  fetch_leaves number position (Some vector) = got_leaves number position vector (vector.part position)

  answer_leaves : (number position : ℕ) (got : Option ℕ) (vector : Vector) (turn : Turn) → P (element_answered body number vector turn position got)
  answer_leaves number position None vector turn = choice P (turn.puts position) _ _ (refl, tt) tt
  answer_leaves number position (Some word) vector turn = choice P (turn.gets position) _ _ (refl, tt) tt

  turn_leaves : (number position : ℕ) (got : Option ℕ) (vector : Vector) (turn : Option Turn) → P (turn_answered body number position got vector turn)
  turn_leaves number position got vector None = tt
  turn_leaves number position got vector (Some turn) = answer_leaves number position got vector turn

  ack_leaves : (number position : ℕ) (got : Option ℕ) (vector : Option Vector) → P (element_acked body number position got vector)
  ack_leaves number position got None = tt
  ack_leaves number position got (Some vector) = turn_leaves number position got vector vector.turn

  pub serve_leaves : (message : Msg) → IsOfNoScope message → P (serves machine me body from message)
  serve_leaves (msg.Request slot id operation x y z) i = request_leaves slot id operation x y z
  serve_leaves (msg.Reply slot id first second) i = choice P (task_awaits awaits_reply body slot id) _ _ (resumed_same machine body slot _ (body.tasks.slots slot), tt) tt
  serve_leaves (msg.Spawn unit) i = (refl, tt)
  serve_leaves (msg.Enrol scope) i = absurd i
  serve_leaves (msg.EnrolAck scope) i = absurd i
  serve_leaves (msg.Complete scope count) i = absurd i
  serve_leaves (msg.Leave scope) i = absurd i
  serve_leaves msg.StealAsk i = (refl, tt)
  serve_leaves (msg.StealGive unit) i = choice P (body.steals.asked from) _ _ (refl, tt) tt
  serve_leaves (msg.Batch object key effect batch) i = batch_leaves object key effect batch (thing machine object)
  serve_leaves (msg.BatchReply batch before) i = wake_leaves batch before (body.batches.flying batch)
  serve_leaves (msg.Turn vector) i = ask_leaves vector (body.vectors.masters vector)
  serve_leaves (msg.Grant vector head tail) i = grant_leaves vector head tail (body.vectors.vectors vector)
  serve_leaves (msg.Done vector head tail) i = done_leaves vector head tail (body.vectors.masters vector)
  serve_leaves (msg.ElemPut vector position word) i = store_leaves vector position word (body.vectors.vectors vector)
  serve_leaves (msg.ElemGet vector position) i = fetch_leaves vector position (body.vectors.vectors vector)
  serve_leaves (msg.ElemAck vector position got) i = ack_leaves vector position got (body.vectors.vectors vector)

-- ---- the end of a turn, gifts, groups

turn_settles : (machine : Machine) (body : Body) (number : ℕ) (vector : Vector) (turn : Option Turn) → LeavesIf body (settled_turn machine body number vector turn)
turn_settles machine body number vector None = tt
turn_settles machine body number vector (Some turn) = choice (LeavesIf body) (turn.left == 0) _ _
    (all_resumed_same machine (with_vector body number (record vector { groups = drop 1 vector.groups; turn = None })) (wakes (turn_replies turn)), (tt, tt)) tt

vector_settles : (machine : Machine) (body : Body) (number : ℕ) (vector : Option Vector) → LeavesIf body (settled_vector machine body number vector)
vector_settles machine body number None = tt
vector_settles machine body number (Some vector) = turn_settles machine body number vector vector.turn

pub settle_leaves : (machine : Machine) (body : Body) (message : Msg) → LeavesIf body (settles machine body message)
settle_leaves machine body (msg.Grant vector head tail) = vector_settles machine body vector (body.vectors.vectors vector)
settle_leaves machine body (msg.ElemAck vector position got) = vector_settles machine body vector (body.vectors.vectors vector)
settle_leaves machine body _ = tt

pub give_leaves : (body : Body) → Leaves body (gives body)
give_leaves body = (refl, gifts_plain body.steals.waiting body.work.public)

pub group_closes : (machine : Machine) (body : Body) (object : ℕ) (vector : Vector) (group : List WaitingCall) → Leaves body (closes_vector machine body object vector group)
group_closes machine body object vector group = (rewaiting_same (with_vector body object (record vector { combiner = []; groups = vector.groups ++ group ∷ [] })) _ group, (tt, tt))
