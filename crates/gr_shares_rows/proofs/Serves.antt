-- A message is served that carries no chunk and is no question; and a turn ends.
use Rattle.std.proofs.Common.{ℕ, ◌==◌, ◌&&◌, Bool, true, false, nat_lt, List, [], ◌∷◌, drop, ap, refl, Option, Some, None}
use Rattle.std.specs.List.{list_all}
use Rattle.gr_syntax.specs.declared.limits.TheConstants.{HEAP}
use Rattle.gr_lang.specs.declared.action.Action.{Action}
use Rattle.gr_lang.specs.declared.action.Action.TheVariants as action
use Rattle.gr_lang.specs.declared.action.Effect.{Effect}
use Rattle.gr_lang.specs.declared.action.Op.{Op}
use Rattle.gr_lang.specs.declared.action.Reply.{Reply}
use Rattle.gr_lang.specs.declared.action.TaskId.{TaskId}
use Rattle.gr_lang.specs.declared.action.WaitingCall.{WaitingCall}
use Rattle.gr_lang.specs.Effects.{reply}
use Rattle.gr_lang.specs.Objects.{Object, array, keys, pairs, line, start_in}
use Rattle.gr_msg.specs.declared.message.Msg.{Msg}
use Rattle.gr_msg.specs.declared.message.Msg.TheVariants as msg
use Rattle.gr_msg.specs.declared.message.ScopeId.{ScopeId}
use Rattle.gr_msg.specs.declared.message.Unit.{Unit as WorkUnit}
use Rattle.gr_msg.specs.declared.message.Unit.TheVariants as unit
use Rattle.gr_batch.specs.Folding.{wakes_of}
use Rattle.gr_event.specs.Counts.{waiting_slots, when_acked, completed, left_of}
use Rattle.gr_event.specs.Masters.{released, release_of}
use Rattle.gr_event.specs.declared.counts.LocalCount.{LocalCount}
use Rattle.gr_event.specs.declared.counts.LocalLeft.{LocalLeft}
use Rattle.gr_event.specs.declared.counts.LocalLeft.TheVariants as rest
use Rattle.gr_event.specs.declared.masters.Waiter.TheVariants as waiter
use Rattle.gr_event.specs.declared.masters.Release.{Release}
use Rattle.gr_event.specs.declared.masters.Release.TheVariants as release
use Rattle.gr_vector.specs.declared.master.Granted.{Granted}
use Rattle.gr_vector.specs.Plans.{plan_of}
use Rattle.gr_vector.specs.Turns.{Turns, granted, grant_on_asking, ended, is_out}
use Rattle.gr_work.specs.Queues.{Queues}
use Rattle.gr_net.specs.Sums.{Each}
use Rattle.gr_net.proofs.Spreads.{Each-append}
use Rattle.gr_machine.specs.Machines.{Machine, is_core, home, place, thing}
use Rattle.gr_machine.specs.States.{Suspended, Turn, Vector, Body}
use Rattle.gr_machine.specs.Outcomes.{Send, Outcome, quietly, followed}
use Rattle.gr_machine.specs.Slots.{awaits_reply, awaits_scope, awaits_enrolment, slot_awaits, task_awaits, resumed}
use Rattle.gr_machine.specs.Spawns.{with_count}
use Rattle.gr_machine.specs.ScopeRuns.{can_complete, can_leave}
use Rattle.gr_machine.specs.Requests.{word_call, named_at, word_made, allocated, made_at_zero, requested}
use Rattle.gr_machine.specs.ScopeServes.{spawned, can_enrol_one, planted_by, planted_in, planted_all, acked_slots, completed_to, passed_by, left_with}
use Rattle.gr_machine.specs.BatchServes.{is_of_word, is_of_set, is_of_map, word_applied, word_batch, key_batch, batched, can_wake, batch_replied}
use Rattle.gr_machine.specs.TurnServes.{grants, turn_asked, turn_done, put_sends, get_sends, can_begin, group_granted, turn_granted, element_put, element_stored, element_got, element_fetched, turn_answered, element_acked, with_vector, turn_replies, wakes, call_marks, settled_turn, settled_vector}
use Rattle.gr_machine.specs.Serves.{serves}
use Rattle.gr_machine.proofs.ActionFacts.{choice}
use Rattle.gr_stands_outcomes.specs.Inner.{outcome_of}
use Rattle.gr_shares_units.specs.Leaving.{IsOfNoShare, chunks_in}
use Rattle.gr_shares_rows.specs.Rows.{MarksNoIndex, LeavesWork}
use Rattle.gr_shares_rows.specs.Laws as laws
use Rattle.gr_shares_rows.proofs.Common.{simply, nothing, then_leaves, with_single, one_resumed, all_resumed}
use Rattle.gr_shares_rows.proofs.Acts.{planted_leaves, is_dropped}

-- ---- messages that are sent

granted_go : (vector : ℕ) (o : Option Granted) → Each (λ (s : Send). IsOfNoShare s.message) (grants vector o)
granted_go vector None = tt
granted_go vector (Some grant) = (tt, tt)

puts_go : (machine : Machine) (vector : ℕ) (puts : List (ℕ × ℕ)) → Each (λ (s : Send). IsOfNoShare s.message) (put_sends machine vector puts)
puts_go machine vector [] = tt
puts_go machine vector (one ∷ more) = (tt, puts_go machine vector more)

gets_go : (machine : Machine) (vector : ℕ) (gets : List ℕ) → Each (λ (s : Send). IsOfNoShare s.message) (get_sends machine vector gets)
gets_go machine vector [] = tt
gets_go machine vector (one ∷ more) = (tt, gets_go machine vector more)

-- ---- tasks that make units once their core may count

planted_one : (machine : Machine) (me : ℕ) (body : Body) (slot : ℕ) (task : Suspended) (what : Action) → LeavesWork body.work body.steals (planted_by machine me body slot task what)
planted_one machine me body slot task (action.Spawn way target args) = planted_leaves machine me body slot task target args way
planted_one machine me body slot task _ = is_dropped machine me body slot task

planted_there : (machine : Machine) (me : ℕ) (body : Body) (slot : ℕ) (held : Option Suspended) → LeavesWork body.work body.steals (planted_in machine me body slot held)
planted_there machine me body slot None = nothing body
planted_there machine me body slot (Some task) = planted_one machine me body slot task task.action

module _ (machine : Machine) (me : ℕ) (start : Body) where
  all_planted : (slots : List ℕ) (e : Outcome) → LeavesWork start.work start.steals e → LeavesWork start.work start.steals (planted_all machine me e slots)
  all_planted [] e f = f
  all_planted (slot ∷ slots) e f =
      let next = planted_in machine me e.body slot (e.body.tasks.slots slot) in
      all_planted slots (followed e next) (then_leaves start.work start.steals e next f (planted_there machine me e.body slot (e.body.tasks.slots slot)))

-- ---- each message

module _ (machine : Machine) (me from : ℕ) (body : Body) where
  abbrev Fact : Option Outcome → Type 0
  Fact made = LeavesWork body.work body.steals (outcome_of body made)

  none : Fact None
  none = nothing body

  of_word : (slot : ℕ) (id : TaskId) (at : ℕ) (call : Op) (word : Option ℕ) → Fact (word_made body from slot id at call word)
  of_word slot id at call None = none
  of_word slot id at call (Some word) = record { private = refl; public = refl; steals = refl; sends = (tt, tt); marks = (tt, tt) }

  is_allocated : (slot : ℕ) (id : TaskId) (count : ℕ) (start : Option ℕ) → Fact (Some (allocated body from slot id count start))
  is_allocated slot id count None = record { private = refl; public = refl; steals = refl; sends = (tt, tt); marks = (tt, tt) }
  is_allocated slot id count (Some start) = record { private = refl; public = refl; steals = refl; sends = (tt, tt); marks = (tt, tt) }

  at_zero : (slot : ℕ) (id : TaskId) (operation x : ℕ) → Fact (made_at_zero machine body from slot id operation x)
  at_zero slot id operation x = choice Fact (operation == 5) _ _ (is_allocated slot id x (start_in machine.code.objects.heap body.words.blocks x))
      (choice Fact (operation == 6) _ _ (record { private = refl; public = refl; steals = refl; sends = (tt, tt); marks = (tt, tt) })
      (choice Fact (operation == 7) _ _ (record { private = refl; public = refl; steals = refl; sends = (tt, tt); marks = (tt, tt) }) none))

  of_request : (slot : ℕ) (id : TaskId) (operation x y z : ℕ) → Fact (requested machine me body from slot id operation x y z)
  of_request slot id operation x y z = choice Fact (nat_lt operation 5) _ _
      (choice Fact (nat_lt 0 operation && home machine x == me) _ _
      (of_word slot id (place machine x) (word_call operation (named_at machine x) y z) (body.words.segment (place machine x))) none)
      (choice Fact (me == 0) _ _ (at_zero slot id operation x) none)

  of_reply : (slot : ℕ) (answer : Reply) → Fact (Some (quietly (resumed machine body slot answer)))
  of_reply slot answer = let r = one_resumed machine body slot answer (body.tasks.slots slot) in
      simply body.work body.steals (quietly (resumed machine body slot answer)) r.work r.steals tt tt

  comes : (work : WorkUnit) → IsOfNoShare (msg.Spawn work) → Fact (Some (spawned body work))
  comes (unit.Single target args scope origin id) n =
      record { private = with_single body.work.private target args scope origin id; public = refl; steals = refl; sends = tt; marks = tt }
  comes (unit.Chunk target args scope origin owner lo hi grain) n = absurd n

  of_ack : (scope : ScopeId) (count : Option LocalCount) (slots : Option (List ℕ)) → Fact (acked_slots machine me body scope count slots)
  of_ack scope count None = none
  of_ack scope count (Some slots) = choice Fact (list_all (λ slot. slot_awaits (awaits_enrolment scope) body slot) slots) _ _
      (all_planted machine me body slots (quietly (with_count body scope (when_acked count))) (nothing (with_count body scope (when_acked count)))) none

  of_rest : (scope : ScopeId) (count : Option LocalCount) (more : LocalLeft) → Fact (Some (completed_to (with_count body scope count) scope more))
  of_rest scope count rest.More = record { private = refl; public = refl; steals = refl; sends = tt; marks = tt }
  of_rest scope count rest.Zero = record { private = refl; public = refl; steals = refl; sends = (tt, tt); marks = tt }

  of_pass : (scope : ScopeId) (slot : ℕ) (task : Option Suspended) → Fact (passed_by machine body scope slot task)
  of_pass scope slot None = none
  of_pass scope slot (Some task) = choice Fact (awaits_scope scope task.waits) _ _ (record { private = refl; public = refl; steals = refl; sends = tt; marks = (tt, tt) }) none

  of_leave : (scope : ScopeId) (who : Release) → Fact (left_with machine body scope who)
  of_leave scope release.Held = record { private = refl; public = refl; steals = refl; sends = tt; marks = tt }
  of_leave scope (release.Released (waiter.Task slot)) = of_pass scope slot (body.tasks.slots slot)
  of_leave scope (release.Released waiter.Root) = record { private = refl; public = refl; steals = refl; sends = tt; marks = (tt, tt) }

  folds : (at : ℕ) (what : Effect) (batch : ℕ) (word : Option ℕ) → Fact (word_applied body from at what batch word)
  folds at what batch None = none
  folds at what batch (Some word) = record { private = refl; public = refl; steals = refl; sends = (tt, tt); marks = (tt, tt) }

  of_fold : (at : ℕ) (what : Effect) (batch : ℕ) → Fact (word_batch machine me body from at what batch)
  of_fold at what batch = choice Fact (is_of_word what && home machine at == me) _ _ (folds (place machine at) what batch (body.words.segment (place machine at))) none

  of_key : (object key : ℕ) (what : Effect) (batch : ℕ) (fits : Bool) → Fact (key_batch body from object key what batch fits)
  of_key object key what batch true = record { private = refl; public = refl; steals = refl; sends = (tt, tt); marks = (tt, tt) }
  of_key object key what batch false = none

  of_batch : (object key : ℕ) (what : Effect) (batch : ℕ) (there : Option Object) → Fact (batched machine me body from object key what batch there)
  of_batch object key what batch (Some (array start count)) = of_fold key what batch
  of_batch object key what batch (Some (keys held)) = of_key object key what batch (is_of_set what)
  of_batch object key what batch (Some (pairs held)) = of_key object key what batch (is_of_map what)
  of_batch object key what batch (Some (line words)) = none
  of_batch object key what batch None = choice Fact (object == HEAP) _ _ (of_fold key what batch) none

  wakes_all : (batch : ℕ) (before : Option ℕ) (calls : Option (List WaitingCall)) → Fact (batch_replied machine body batch before calls)
  wakes_all batch before None = none
  wakes_all batch before (Some calls) = choice Fact (can_wake body batch before calls) _ _
      (let r = all_resumed machine (wakes_of calls before) body in record {
        private = ap (λ (q : Queues). chunks_in q.private) r.work;
        public = ap (λ (q : Queues). chunks_in q.public) r.work;
        steals = r.steals;
        sends = tt;
        marks = tt;
      }) none

  of_turn : (vector : ℕ) (turns : Option Turns) → Fact (turn_asked body from vector turns)
  of_turn vector None = none
  of_turn vector (Some turns) = record { private = refl; public = refl; steals = refl; sends = granted_go vector (grant_on_asking turns from); marks = tt }

  of_done : (vector head tail : ℕ) (turns : Option Turns) → Fact (turn_done body vector head tail turns)
  of_done vector head tail None = none
  of_done vector head tail (Some turns) = choice Fact (is_out turns) _ _
      (record { private = refl; public = refl; steals = refl; sends = granted_go vector (granted (ended turns head tail)); marks = tt }) none

  of_group : (number head tail : ℕ) (vector : Vector) (turn : Option Turn) (groups : List (List WaitingCall)) → Fact (group_granted machine body number head tail vector turn groups)
  of_group number head tail vector None (calls ∷ groups) =
      let plan = plan_of calls head tail in
      choice Fact (can_begin body number head tail calls) _ _ (record {
        private = refl;
        public = refl;
        steals = refl;
        sends = Each-append (λ (s : Send). IsOfNoShare s.message) (put_sends machine number plan.puts) (get_sends machine number plan.gets)
            (puts_go machine number plan.puts) (gets_go machine number plan.gets);
        marks = tt;
      }) none
  of_group number head tail vector None [] = none
  of_group number head tail vector (Some turn) groups = none

  of_grant : (number head tail : ℕ) (vector : Option Vector) → Fact (turn_granted machine body number head tail vector)
  of_grant number head tail None = none
  of_grant number head tail (Some vector) = of_group number head tail vector vector.turn vector.groups

  puts : (number position word : ℕ) (vector : Vector) (held : Option ℕ) → Fact (element_put body from number position word vector held)
  puts number position word vector (Some old) = none
  puts number position word vector None = record { private = refl; public = refl; steals = refl; sends = (tt, tt); marks = tt }

  of_put : (number position word : ℕ) (vector : Option Vector) → Fact (element_stored body from number position word vector)
  of_put number position word None = none
  of_put number position word (Some vector) = puts number position word vector (vector.part position)

  gets : (number position : ℕ) (vector : Vector) (held : Option ℕ) → Fact (element_got body from number position vector held)
  gets number position vector None = none
  gets number position vector (Some word) = record { private = refl; public = refl; steals = refl; sends = (tt, tt); marks = tt }

  of_get : (number position : ℕ) (vector : Option Vector) → Fact (element_fetched body from number position vector)
  of_get number position None = none
  of_get number position (Some vector) = gets number position vector (vector.part position)

  answers : (number position : ℕ) (got : Option ℕ) (vector : Vector) (turn : Option Turn) → Fact (turn_answered body number position got vector turn)
  answers number position got vector None = none
  answers number position None vector (Some turn) = choice Fact (turn.puts position) _ _ (record { private = refl; public = refl; steals = refl; sends = tt; marks = tt }) none
  answers number position (Some word) vector (Some turn) = choice Fact (turn.gets position) _ _ (record { private = refl; public = refl; steals = refl; sends = tt; marks = tt }) none

  of_element : (number position : ℕ) (got : Option ℕ) (vector : Option Vector) → Fact (element_acked body number position got vector)
  of_element number position got None = none
  of_element number position got (Some vector) = answers number position got vector vector.turn

  pub serves_leave : (message : Msg) → IsOfNoShare message → Fact (serves machine me body from message)
  serves_leave (msg.Request slot id operation x y z) n = of_request slot id operation x y z
  serves_leave (msg.Reply slot id first second) n = choice Fact (task_awaits awaits_reply body slot id) _ _ (of_reply slot (reply first second)) none
  serves_leave (msg.Spawn work) n = comes work n
  serves_leave (msg.Enrol scope) n = choice Fact (can_enrol_one (body.scopes.masters scope)) _ _ (record { private = refl; public = refl; steals = refl; sends = (tt, tt); marks = tt }) none
  serves_leave (msg.EnrolAck scope) n = of_ack scope (body.scopes.counts scope) (waiting_slots (body.scopes.counts scope))
  serves_leave (msg.Complete scope count) n = choice Fact (is_core machine scope.core && can_complete (body.scopes.counts scope) count) _ _
      (of_rest scope (completed (body.scopes.counts scope) count) (left_of (body.scopes.counts scope) count)) none
  serves_leave (msg.Leave scope) n = choice Fact (can_leave (body.scopes.masters scope)) _ _ (of_leave scope (release_of (released (body.scopes.masters scope)))) none
  serves_leave msg.StealAsk n = absurd n
  serves_leave (msg.StealGive work) n = absurd n
  serves_leave (msg.Batch object key effect batch) n = of_batch object key effect batch (thing machine object)
  serves_leave (msg.BatchReply batch before) n = wakes_all batch before (body.batches.flying batch)
  serves_leave (msg.Turn vector) n = of_turn vector (body.vectors.masters vector)
  serves_leave (msg.Grant vector head tail) n = of_grant vector head tail (body.vectors.vectors vector)
  serves_leave (msg.Done vector head tail) n = of_done vector head tail (body.vectors.masters vector)
  serves_leave (msg.ElemPut vector position word) n = of_put vector position word (body.vectors.vectors vector)
  serves_leave (msg.ElemGet vector position) n = of_get vector position (body.vectors.vectors vector)
  serves_leave (msg.ElemAck vector position got) n = of_element vector position got (body.vectors.vectors vector)

pub messages_leave_work : laws.MessagesLeaveWork
messages_leave_work machine me from body message n = serves_leave machine me from body message n

-- ---- the end of a turn

calls_mark : (answers : List (WaitingCall × Reply)) → Each MarksNoIndex (call_marks answers)
calls_mark [] = tt
calls_mark (answer ∷ answers) = (tt, calls_mark answers)

module _ (machine : Machine) (body : Body) (number : ℕ) where
  abbrev Ends : Option Outcome → Type 0
  Ends made = LeavesWork body.work body.steals (outcome_of body made)

  is_finished : (vector : Vector) (turn : Turn) → Ends (settled_turn machine body number vector (Some turn))
  is_finished vector turn =
      let r = all_resumed machine (wakes (turn_replies turn)) (with_vector body number (record vector { groups = drop 1 vector.groups; turn = None })) in
      choice Ends (turn.left == 0) _ _ (record {
        private = ap (λ (q : Queues). chunks_in q.private) r.work;
        public = ap (λ (q : Queues). chunks_in q.public) r.work;
        steals = r.steals;
        sends = (tt, tt);
        marks = calls_mark (turn_replies turn);
      }) (nothing body)

  of_turns : (vector : Vector) (turn : Option Turn) → Ends (settled_turn machine body number vector turn)
  of_turns vector None = nothing body
  of_turns vector (Some turn) = is_finished vector turn

  pub settled : (vector : Option Vector) → Ends (settled_vector machine body number vector)
  settled None = nothing body
  settled (Some vector) = of_turns vector vector.turn

pub turn_ends_leave_work : laws.TurnEndsLeaveWork
turn_ends_leave_work machine body (msg.Grant vector head tail) = settled machine body vector (body.vectors.vectors vector)
turn_ends_leave_work machine body (msg.ElemAck vector position got) = settled machine body vector (body.vectors.vectors vector)
turn_ends_leave_work machine body _ = nothing body
