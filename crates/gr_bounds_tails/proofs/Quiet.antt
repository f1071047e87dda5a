-- Outcomes that leave the vectors of a core, and send neither a Grant nor a Done.
use Rattle.std.proofs.Common.{◌≡◌, ℕ, ◌-◌, ◌==◌, List, [], ◌∷◌, refl, ◌∙◌}
use Rattle.std.specs.Prelude.{Bool, true, false, ◌&&◌, Option, Some, None, nat_lt}
use Rattle.std.specs.List.{list_all}
use Rattle.gr_syntax.specs.declared.limits.TheConstants.{HEAP}
use Rattle.gr_lang.specs.declared.action.Op.{Op}
use Rattle.gr_lang.specs.declared.action.How.{How}
use Rattle.gr_lang.specs.declared.action.How.TheVariants as how
use Rattle.gr_lang.specs.declared.action.Action.{Action}
use Rattle.gr_lang.specs.declared.action.Action.TheVariants as action
use Rattle.gr_lang.specs.declared.action.Effect.{Effect}
use Rattle.gr_lang.specs.declared.action.Reply.{Reply}
use Rattle.gr_lang.specs.declared.action.TaskId.{TaskId}
use Rattle.gr_lang.specs.declared.action.WaitingCall.{WaitingCall}
use Rattle.gr_lang.specs.Objects.{Object, array, keys, pairs, line, start_in}
use Rattle.gr_lang.specs.Steps.{has_core}
use Rattle.gr_batch.specs.Batches.{batches_of, rest_of}
use Rattle.gr_batch.specs.Folding.{wakes_of}
use Rattle.gr_batch.specs.declared.combiner.Batch.{Batch}
use Rattle.gr_batch.specs.declared.wakes.Woken.{Woken}
use Rattle.gr_event.specs.Counts.{waiting_slots, when_acked, completed, left_of, enrolled, enrol_answer}
use Rattle.gr_event.specs.Masters.{released, release_of}
use Rattle.gr_event.specs.declared.counts.LocalCount.{LocalCount}
use Rattle.gr_event.specs.declared.counts.Enrol.{Enrol}
use Rattle.gr_event.specs.declared.counts.Enrol.TheVariants as enrol
use Rattle.gr_event.specs.declared.counts.LocalLeft.{LocalLeft}
use Rattle.gr_event.specs.declared.counts.LocalLeft.TheVariants as rest
use Rattle.gr_event.specs.declared.masters.Waiter.TheVariants as waiter
use Rattle.gr_event.specs.declared.masters.Release.{Release}
use Rattle.gr_event.specs.declared.masters.Release.TheVariants as release
use Rattle.gr_msg.specs.declared.message.ScopeId.{ScopeId}
use Rattle.gr_msg.specs.declared.message.Msg.{Msg}
use Rattle.gr_msg.specs.declared.message.Msg.TheVariants as msg
use Rattle.gr_msg.specs.declared.message.Unit.{Unit as WorkUnit}
use Rattle.gr_msg.specs.declared.message.Unit.TheVariants as unit
use Rattle.gr_net.specs.Sums.{Each}
use Rattle.gr_net.proofs.Spreads.{Each-append}
use Rattle.gr_machine.specs.Machines.{Machine, is_core, home, place, thing}
use Rattle.gr_machine.specs.declared.waits.Waits.{Waits}
use Rattle.gr_machine.specs.States.{Suspended, Body}
use Rattle.gr_machine.specs.Outcomes.{Send, Outcome, followed, quietly}
use Rattle.gr_machine.specs.Slots.{awaits_reply, awaits_scope, awaits_enrolment, slot_awaits, task_awaits, resumed, resumed_task, resumed_all, rewaiting, rewaiting_task, dropped, innermost}
use Rattle.gr_machine.specs.Calls.{word_asked, is_keyed, key_joins, reduce_joins}
use Rattle.gr_machine.specs.Spawns.{placed, made_in, planted, with_count, enrolled_as, can_enrol, spawns_under, spawns}
use Rattle.gr_machine.specs.ScopeRuns.{own_scope, is_new_scope, finishes, loops, can_complete, can_leave, arrived, arrives_last, arrives_with, can_arrive, arrives, ends}
use Rattle.gr_machine.specs.Closes.{batch_sent, batches_sent, with_combiner, closes_combiner}
use Rattle.gr_machine.specs.Requests.{word_call, named_at, word_made, allocated, made_at_zero, requested}
use Rattle.gr_machine.specs.ScopeServes.{can_enrol_one, planted_by, planted_in, planted_all, acked_slots, completed_to, passed_by, left_with}
use Rattle.gr_machine.specs.BatchServes.{is_of_word, is_of_set, is_of_map, word_applied, word_batch, key_batch, batched, can_wake, batch_replied}
use Rattle.gr_machine.specs.Runs.{with_rest, taken_up}
use Rattle.gr_machine.specs.Serves.{serves}
use Rattle.gr_machine.specs.Events.{gifts, gives}
use Rattle.gr_machine.proofs.ActionFacts.{choice}

-- Neither a Grant nor a Done.
abbrev pub IsLight : Msg → Type 0
IsLight (msg.Grant vector head tail) = ⊥
IsLight (msg.Done vector head tail) = ⊥
IsLight _ = Unit

abbrev pub AreLight : List Send → Type 0
AreLight sends = Each (λ send. IsLight send.message) sends

abbrev pub Quiet : Body → Outcome → Type 0
Quiet body outcome = (outcome.body.vectors ≡ body.vectors) × AreLight outcome.sends

abbrev pub QuietIf : Body → Option Outcome → Type 0
QuietIf body None = Unit {0}
QuietIf body (Some outcome) = Quiet body outcome

-- ---- series

resumed_same : (machine : Machine) (body : Body) (slot : ℕ) (answer : Reply) (task : Option Suspended) → (resumed_task machine body slot answer task).vectors ≡ body.vectors
resumed_same machine body slot answer None = refl
resumed_same machine body slot answer (Some task) = refl

pub all_resumed_same : (machine : Machine) (body : Body) (wakes : List Woken) → (resumed_all machine body wakes).vectors ≡ body.vectors
all_resumed_same machine body [] = refl
all_resumed_same machine body (wake ∷ wakes) = all_resumed_same machine (resumed machine body wake.slot wake.reply) wakes ∙ resumed_same machine body wake.slot wake.reply (body.tasks.slots wake.slot)

task_rewaits : (body : Body) (slot : ℕ) (reason : Waits) (task : Option Suspended) → (rewaiting_task body slot reason task).vectors ≡ body.vectors
task_rewaits body slot reason None = refl
task_rewaits body slot reason (Some task) = refl

pub rewaiting_same : (body : Body) (reason : Waits) (calls : List WaitingCall) → (rewaiting body reason calls).vectors ≡ body.vectors
rewaiting_same body reason [] = refl
rewaiting_same body reason (call ∷ calls) =
    rewaiting_same (rewaiting_task body call.slot reason (body.tasks.slots call.slot)) reason calls ∙ task_rewaits body call.slot reason (body.tasks.slots call.slot)

gifts_light : (cores : List ℕ) (units : List WorkUnit) → AreLight (gifts cores units)
gifts_light [] units = tt
gifts_light (core ∷ cores) [] = tt
gifts_light (core ∷ cores) (unit ∷ units) = (tt, gifts_light cores units)

pub give_quiet : (body : Body) → Quiet body (gives body)
give_quiet body = (refl, gifts_light body.steals.waiting body.work.public)

-- ---- tasks that are made

placed_quiet : (me : ℕ) (body : Body) (way : How) (work : WorkUnit) → Quiet body (placed me body way work)
placed_quiet me body how.Here work = (refl, tt)
placed_quiet me body (how.At core) work = choice (Quiet body) (core == me) _ _ (refl, tt) (refl, (tt, tt))
placed_quiet me body how.Offer work = (refl, tt)

module _ (machine : Machine) (me : ℕ) where
  planted_quiet : (body : Body) (slot : ℕ) (task : Suspended) (way : How) (target : ℕ) (args : List ℕ) → Quiet body (planted machine me body slot task way target args)
  planted_quiet body slot task way target args = placed_quiet me (made_in machine me body slot task) way _

  by_quiet : (body : Body) (slot : ℕ) (task : Suspended) (what : Action) → Quiet body (planted_by machine me body slot task what)
  by_quiet body slot task (action.Spawn way target args) = planted_quiet body slot task way target args
  by_quiet body slot task _ = (refl, tt)

  in_quiet : (body : Body) (slot : ℕ) (task : Option Suspended) → Quiet body (planted_in machine me body slot task)
  in_quiet body slot None = (refl, tt)
  in_quiet body slot (Some task) = by_quiet body slot task task.action

  all_quiet : (outcome : Outcome) (slots : List ℕ) → AreLight outcome.sends → Quiet outcome.body (planted_all machine me outcome slots)
  all_quiet outcome [] p = (refl, p)
  all_quiet outcome (slot ∷ slots) p =
      let first : Outcome = planted_in machine me outcome.body slot (outcome.body.tasks.slots slot) in
      let one = in_quiet outcome.body slot (outcome.body.tasks.slots slot) in
      let more = all_quiet (followed outcome first) slots (Each-append (λ (send : Send). IsLight send.message) outcome.sends first.sends p one.1) in
      (more.0 ∙ one.0, more.1)

  sent_quiet : (object : ℕ) (outcome : Outcome) (batches : List Batch) → AreLight outcome.sends → Quiet outcome.body (batches_sent machine object outcome batches)
  sent_quiet object outcome [] p = (refl, p)
  sent_quiet object outcome (batch ∷ batches) p =
      let first : Outcome = batch_sent machine outcome.body object batch in
      let more = sent_quiet object (followed outcome first) batches (Each-append (λ (send : Send). IsLight send.message) outcome.sends first.sends p (tt, tt)) in
      (more.0 ∙ rewaiting_same outcome.body _ batch.calls, more.1)

  pub closes_quiet : (body : Body) (object : ℕ) → Quiet body (closes_combiner machine body object (body.batches.combiners object))
  closes_quiet body object = sent_quiet object (quietly (with_combiner body object (rest_of (body.batches.combiners object)))) (batches_of (body.batches.combiners object)) tt

  -- ---- what a ready task does, but for calls on vectors

  module _ (body : Body) (slot : ℕ) (task : Suspended) where
    abbrev R : Outcome → Type 0
    R = Quiet body

    pub drops : R (dropped body slot)
    drops = (refl, tt)

    pub words_quiet : (operation y z : ℕ) (at : Option ℕ) → R (word_asked machine body slot task operation y z at)
    words_quiet operation y z None = drops
    words_quiet operation y z (Some at) = (refl, (tt, tt))

    pub reduces_quiet : (call : Op) (object : ℕ) (there : Bool) (at : Option ℕ) → R (reduce_joins body slot task call object there at)
    reduces_quiet call object true (Some at) = (refl, tt)
    reduces_quiet call object true None = drops
    reduces_quiet call object false at = drops

    pub keys_quiet : (call : Op) (object key : ℕ) → R (key_joins machine body slot task call object key)
    keys_quiet call object key = choice R (is_keyed call (thing machine object)) _ _ (refl, tt) drops

    enrolled_quiet : (way : How) (target : ℕ) (args : List ℕ) (local : Option LocalCount) (answer : Enrol)
        → R (enrolled_as machine me (with_count body (innermost task) local) slot task way target args answer)
    enrolled_quiet way target args local enrol.Counted = planted_quiet (with_count body (innermost task) local) slot task way target args
    enrolled_quiet way target args local enrol.Ask = (refl, (tt, tt))
    enrolled_quiet way target args local enrol.Waiting = (refl, tt)

    pub spawns_quiet : (way : How) (target : ℕ) (args : List ℕ) → R (spawns machine me body slot task way target args)
    spawns_quiet way target args = choice R (has_core machine.setup.cores way) _ _ (under (body.scopes.counts (innermost task))) (refl, tt)
      where
        under : (local : Option LocalCount) → R (spawns_under machine me body slot task way target args local)
        under local = choice R (can_enrol machine (innermost task) local) _ _ (enrolled_quiet way target args (enrolled local slot) (enrol_answer local)) drops

    pub finishes_quiet : R (finishes machine me body slot task)
    finishes_quiet = choice R (is_new_scope body (own_scope me body)) _ _ (refl, tt) drops

    pub loops_quiet : (lo hi grain target : ℕ) (args : List ℕ) → R (loops machine me body slot task lo hi grain target args)
    loops_quiet lo hi grain target args = choice R (nat_lt lo hi) _ _ (choice R (is_new_scope body (own_scope me body)) _ _ (refl, tt) drops) (refl, tt)

    last_quiet : (scope : ScopeId) (who : Release) → R (arrives_last machine (arrived body scope slot) slot task scope who)
    last_quiet scope release.Held = (refl, tt)
    last_quiet scope (release.Released waiter) = (refl, tt)

    with_quiet : (scope : ScopeId) (more : LocalLeft) → R (arrives_with machine (arrived body scope slot) slot task scope more)
    with_quiet scope rest.More = (refl, tt)
    with_quiet scope rest.Zero = last_quiet scope (release_of (released ((arrived body scope slot).scopes.masters scope)))

    pub arrives_quiet : (opened : List ScopeId) → R (arrives machine body slot task opened)
    arrives_quiet [] = drops
    arrives_quiet (scope ∷ scopes) = choice R (can_arrive body scope) _ _ (with_quiet scope (left_of (body.scopes.counts scope) 1)) drops

    pub ends_quiet : R (ends machine body slot task)
    ends_quiet = choice R (is_core machine task.origin) _ _ (refl, (tt, tt)) drops

  -- ---- units

  rest_same : (body : Body) (target : ℕ) (args : List ℕ) (scope : ScopeId) (origin : ℕ) (owner : TaskId) (lo hi grain : ℕ) → (with_rest body target args scope origin owner lo hi grain).vectors ≡ body.vectors
  rest_same body target args scope origin owner lo hi grain = choice (λ (b : Body). b.vectors ≡ body.vectors) (nat_lt lo hi) _ _ refl refl

  pub units_quiet : (body : Body) (slot : ℕ) (work : WorkUnit) → Quiet body (taken_up machine me body slot work)
  units_quiet body slot (unit.Single target args scope origin id) = (refl, tt)
  units_quiet body slot (unit.Chunk target args scope origin owner lo hi grain) = choice (Quiet body) (nat_lt grain (hi - lo)) _ _ (refl, tt)
      (rest_same _ target args scope origin owner _ hi grain, tt)

-- ---- messages, but for those of vectors

module _ (machine : Machine) (me : ℕ) (body : Body) (from : ℕ) where
  abbrev P : Option Outcome → Type 0
  P = QuietIf body

  word_quiet : (slot : ℕ) (id : TaskId) (at : ℕ) (call : Op) (word : Option ℕ) → P (word_made body from slot id at call word)
  word_quiet slot id at call None = tt
  word_quiet slot id at call (Some word) = (refl, (tt, tt))

  block_quiet : (slot : ℕ) (id : TaskId) (count : ℕ) (start : Option ℕ) → P (Some (allocated body from slot id count start))
  block_quiet slot id count None = (refl, (tt, tt))
  block_quiet slot id count (Some start) = (refl, (tt, tt))

  zero_quiet : (slot : ℕ) (id : TaskId) (operation x : ℕ) → P (made_at_zero machine body from slot id operation x)
  zero_quiet slot id operation x = choice P (operation == 5) _ _ (block_quiet slot id x (start_in machine.code.objects.heap body.words.blocks x))
      (choice P (operation == 6) _ _ (refl, (tt, tt)) (choice P (operation == 7) _ _ (refl, (tt, tt)) tt))

  request_quiet : (slot : ℕ) (id : TaskId) (operation x y z : ℕ) → P (requested machine me body from slot id operation x y z)
  request_quiet slot id operation x y z = choice P (nat_lt operation 5) _ _
      (choice P (nat_lt 0 operation && home machine x == me) _ _
      (word_quiet slot id (place machine x) (word_call operation (named_at machine x) y z) (body.words.segment (place machine x))) tt)
      (choice P (me == 0) _ _ (zero_quiet slot id operation x) tt)

  folded_quiet : (at : ℕ) (what : Effect) (batch : ℕ) (word : Option ℕ) → P (word_applied body from at what batch word)
  folded_quiet at what batch None = tt
  folded_quiet at what batch (Some word) = (refl, (tt, tt))

  fold_quiet : (at : ℕ) (what : Effect) (batch : ℕ) → P (word_batch machine me body from at what batch)
  fold_quiet at what batch = choice P (is_of_word what && home machine at == me) _ _ (folded_quiet (place machine at) what batch (body.words.segment (place machine at))) tt

  key_quiet : (object key : ℕ) (what : Effect) (batch : ℕ) (fits : Bool) → P (key_batch body from object key what batch fits)
  key_quiet object key what batch true = (refl, (tt, tt))
  key_quiet object key what batch false = tt

  batch_quiet : (object key : ℕ) (what : Effect) (batch : ℕ) (thing : Option Object) → P (batched machine me body from object key what batch thing)
  batch_quiet object key what batch (Some (array start count)) = fold_quiet key what batch
  batch_quiet object key what batch (Some (keys held)) = key_quiet object key what batch (is_of_set what)
  batch_quiet object key what batch (Some (pairs held)) = key_quiet object key what batch (is_of_map what)
  batch_quiet object key what batch (Some (line words)) = tt
  batch_quiet object key what batch None = choice P (object == HEAP) _ _ (fold_quiet key what batch) tt

  wake_quiet : (batch : ℕ) (before : Option ℕ) (calls : Option (List WaitingCall)) → P (batch_replied machine body batch before calls)
  wake_quiet batch before None = tt
  wake_quiet batch before (Some calls) = choice P (can_wake body batch before calls) _ _ (all_resumed_same machine body (wakes_of calls before), tt) tt

  acks_quiet : (scope : ScopeId) (local : Option LocalCount) (slots : Option (List ℕ)) → P (acked_slots machine me body scope local slots)
  acks_quiet scope local None = tt
  acks_quiet scope local (Some slots) = choice P (list_all (λ slot. slot_awaits (awaits_enrolment scope) body slot) slots) _ _
      (all_quiet machine me (quietly (with_count body scope (when_acked local))) slots tt) tt

  completes_quiet : (scope : ScopeId) (local : Option LocalCount) (more : LocalLeft) → P (Some (completed_to (with_count body scope local) scope more))
  completes_quiet scope local rest.More = (refl, tt)
  completes_quiet scope local rest.Zero = (refl, (tt, tt))

  passes_quiet : (scope : ScopeId) (slot : ℕ) (task : Option Suspended) → P (passed_by machine body scope slot task)
  passes_quiet scope slot None = tt
  passes_quiet scope slot (Some task) = choice P (awaits_scope scope task.waits) _ _ (refl, tt) tt

  left_quiet : (scope : ScopeId) (who : Release) → P (left_with machine body scope who)
  left_quiet scope release.Held = (refl, tt)
  left_quiet scope (release.Released (waiter.Task slot)) = passes_quiet scope slot (body.tasks.slots slot)
  left_quiet scope (release.Released waiter.Root) = (refl, tt)

  -- A message that isn't of a vector.
  abbrev pub IsOfNoLine : Msg → Type 0
  IsOfNoLine (msg.Turn vector) = ⊥
  IsOfNoLine (msg.Grant vector head tail) = ⊥
  IsOfNoLine (msg.Done vector head tail) = ⊥
  IsOfNoLine (msg.ElemPut vector position word) = ⊥
  IsOfNoLine (msg.ElemGet vector position) = ⊥
  IsOfNoLine (msg.ElemAck vector position got) = ⊥
  IsOfNoLine _ = Unit

  pub serve_quiet : (message : Msg) → IsOfNoLine message → P (serves machine me body from message)
  serve_quiet (msg.Request slot id operation x y z) i = request_quiet slot id operation x y z
  serve_quiet (msg.Reply slot id first second) i = choice P (task_awaits awaits_reply body slot id) _ _ (resumed_same machine body slot _ (body.tasks.slots slot), tt) tt
  serve_quiet (msg.Spawn unit) i = (refl, tt)
  serve_quiet (msg.Enrol scope) i = choice P (can_enrol_one (body.scopes.masters scope)) _ _ (refl, (tt, tt)) tt
  serve_quiet (msg.EnrolAck scope) i = acks_quiet scope (body.scopes.counts scope) (waiting_slots (body.scopes.counts scope))
  serve_quiet (msg.Complete scope count) i = choice P (is_core machine scope.core && can_complete (body.scopes.counts scope) count) _ _
      (completes_quiet scope (completed (body.scopes.counts scope) count) (left_of (body.scopes.counts scope) count)) tt
  serve_quiet (msg.Leave scope) i = choice P (can_leave (body.scopes.masters scope)) _ _ (left_quiet scope (release_of (released (body.scopes.masters scope)))) tt
  serve_quiet msg.StealAsk i = (refl, tt)
  serve_quiet (msg.StealGive unit) i = choice P (body.steals.asked from) _ _ (refl, tt) tt
  serve_quiet (msg.Batch object key effect batch) i = batch_quiet object key effect batch (thing machine object)
  serve_quiet (msg.BatchReply batch before) i = wake_quiet batch before (body.batches.flying batch)
  serve_quiet (msg.Turn vector) i = absurd i
  serve_quiet (msg.Grant vector head tail) i = absurd i
  serve_quiet (msg.Done vector head tail) i = absurd i
  serve_quiet (msg.ElemPut vector position word) i = absurd i
  serve_quiet (msg.ElemGet vector position) i = absurd i
  serve_quiet (msg.ElemAck vector position got) i = absurd i
