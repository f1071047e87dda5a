-- What raises a share that looks at a core's numbers alone: the outcomes that change these, one by one.
use Rattle.std.proofs.Common.{◌≡◌, ℕ, ◌+◌, ◌-◌, List, [], ◌∷◌, ◌++◌, length, refl, arith}
use Rattle.std.specs.Prelude.{Bool, true, false, ◌&&◌, Option, Some, None, if◌then◌else◌, nat_lt}
use Rattle.std.specs.List.{list_all}
use Rattle.gr_lang.specs.declared.action.Op.{Op}
use Rattle.gr_lang.specs.declared.action.Op.TheVariants as op
use Rattle.gr_lang.specs.declared.action.How.{How}
use Rattle.gr_lang.specs.declared.action.Action.{Action}
use Rattle.gr_lang.specs.declared.action.Action.TheVariants as action
use Rattle.gr_lang.specs.declared.action.TaskId.{TaskId}
use Rattle.gr_lang.specs.Objects.{address}
use Rattle.gr_lang.specs.Steps.{has_core}
use Rattle.gr_msg.specs.declared.message.ScopeId.{ScopeId}
use Rattle.gr_msg.specs.declared.message.Unit.{Unit as WorkUnit}
use Rattle.gr_msg.specs.declared.message.Unit.TheVariants as unit
use Rattle.gr_msg.specs.declared.message.Msg.{Msg}
use Rattle.gr_msg.specs.declared.message.Msg.TheVariants as msg
use Rattle.gr_event.specs.Counts.{waiting_slots, completed, left_of}
use Rattle.gr_event.specs.Masters.{released, release_of}
use Rattle.gr_event.specs.declared.counts.LocalCount.{LocalCount}
use Rattle.gr_event.specs.declared.counts.LocalCount.TheVariants as count
use Rattle.gr_event.specs.declared.counts.LocalLeft.{LocalLeft}
use Rattle.gr_event.specs.declared.counts.LocalLeft.TheVariants as rest
use Rattle.gr_event.specs.declared.masters.Waiter.TheVariants as waiter
use Rattle.gr_event.specs.declared.masters.Release.{Release}
use Rattle.gr_event.specs.declared.masters.Release.TheVariants as release
use Rattle.gr_agg.specs.Laws.{Adds}
use Rattle.gr_machine.specs.Machines.{Machine, is_core, thing}
use Rattle.gr_machine.specs.States.{Suspended, Vector, Body}
use Rattle.gr_machine.specs.Outcomes.{Send, Outcome, quietly}
use Rattle.gr_machine.specs.Slots.{awaits_scope, awaits_enrolment, slot_awaits, dropped, innermost}
use Rattle.gr_machine.specs.Calls.{word_asked, joins, is_keyed, is_reducer, key_joins, reduce_joins, vector_joins, called}
use Rattle.gr_machine.specs.Spawns.{planted, with_count, asks_enrolment, waits_enrolment, can_enrol, enrols, spawns}
use Rattle.gr_machine.specs.ScopeRuns.{own_scope, is_new_scope, finishes_in, loops_in, loops_over_nothing, passes, with_leave, can_complete, can_leave, arrived, arrives_early, arrives_last, arrives_with, can_arrive, arrives, ends_at}
use Rattle.gr_machine.specs.ScopeServes.{can_enrol_one, core_enrolled_at, planted_all, acked_slots, completed_to, passed_by, over, left_with}
use Rattle.gr_machine.specs.Runs.{acts, without_ready, without_unit, begins, taken_up}
use Rattle.gr_machine.specs.Closes.{closes_combiner, closes_as}
use Rattle.gr_machine.specs.Serves.{serves, settles}
use Rattle.gr_machine.specs.Events.{gives, asks}
use Rattle.gr_machine.proofs.ActionFacts.{choice}
use Rattle.gr_vector.specs.Groups.{group_of}
use Rattle.gr_stands.specs.Worlds.{Weight, of_sends}
use Rattle.gr_bounds.specs.Outcomes.{Raises, RaisesIf, Rules}
use Rattle.gr_bounds_numbers.proofs.Plain.{numbers, IsPlain, ArePlain, Leaves, LeavesIf, IsOfNoScope, serve_leaves, settle_leaves, give_leaves, group_closes}

module _ (AtMost : ℕ → Body → ℕ → Type 0) (weight : Weight) where
  -- The outcomes that change a core's numbers, or tell of them, and a share that looks at nothing else.
  pub record NumberRules (machine : Machine) (Known : ℕ → Body → Type 0) : Type 0 where
    pub adds : (from to : ℕ) → Adds (weight from to)
    pub light : (from to : ℕ) (message : Msg) → IsPlain message → weight from to message ≡ 0
    pub looks : (me : ℕ) (body other : Body) (x : ℕ) → numbers other ≡ numbers body → AtMost me body x → AtMost me other x
    pub knows : (me : ℕ) (body : Body) → Known me body → Known me (without_ready body)
    pub joined : (me : ℕ) (body : Body) (slot : ℕ) (task : Suspended) (call : Op) (object key : ℕ) → Raises AtMost weight me body (joins body slot task call object key) 1
    pub counted : (me : ℕ) (body : Body) (slot : ℕ) (task : Suspended) (tasks : ℕ) → body.scopes.counts (innermost task) ≡ Some (count.Active tasks)
        → (way : How) (target : ℕ) (args : List ℕ)
        → Raises AtMost weight me body (planted machine me (with_count body (innermost task) (Some (count.Active (tasks + 1)))) slot task way target args) 1
    pub asks_first : (me : ℕ) (body : Body) (slot : ℕ) (task : Suspended) → body.scopes.counts (innermost task) ≡ None
        → Raises AtMost weight me body (asks_enrolment (with_count body (innermost task) (Some (count.Waits (slot ∷ [])))) slot task (innermost task)) 1
    pub waits_behind : (me : ℕ) (body : Body) (slot : ℕ) (task : Suspended) (slots : List ℕ) → body.scopes.counts (innermost task) ≡ Some (count.Waits slots)
        → Raises AtMost weight me body (waits_enrolment (with_count body (innermost task) (Some (count.Waits (slots ++ slot ∷ [])))) slot task (innermost task)) 1
    pub finish : (me : ℕ) (body : Body) (slot : ℕ) (task : Suspended) (scope : ScopeId) → is_new_scope body scope ≡ true
        → Raises AtMost weight me body (finishes_in machine body slot task scope) 1
    pub range : (me : ℕ) (body : Body) (slot : ℕ) (task : Suspended) (scope : ScopeId) → Known me body → body.tasks.slots slot ≡ Some task → is_new_scope body scope ≡ true
        → (lo hi grain target : ℕ) (args : List ℕ) → task.action ≡ action.Loop lo hi grain target args
        → Raises AtMost weight me body (loops_in me body slot task lo hi grain target args scope) 1
    pub early : (me : ℕ) (body : Body) (slot : ℕ) (task : Suspended) (scope : ScopeId) → Raises AtMost weight me body (arrives_early (arrived body scope slot) slot task scope) 1
    pub early_left : (me : ℕ) (body : Body) (slot : ℕ) (task : Suspended) (scope : ScopeId)
        → Raises AtMost weight me body (arrives_early (with_leave (arrived body scope slot) scope) slot task scope) 1
    pub last : (me : ℕ) (body : Body) (slot : ℕ) (task : Suspended) (scope : ScopeId) → Raises AtMost weight me body (passes machine (with_leave (arrived body scope slot) scope) slot task) 1
    pub end : (me : ℕ) (body : Body) (slot : ℕ) (task : Suspended) → Raises AtMost weight me body (ends_at body slot task) 1
    pub index : (me : ℕ) (body : Body) (slot target : ℕ) (args : List ℕ) (scope : ScopeId) (origin : ℕ) (owner : TaskId) (lo hi grain : ℕ)
        → Raises AtMost weight me body (begins machine me body slot target args scope origin owner lo hi grain) 1
    pub core_enrols : (me : ℕ) (body : Body) (from : ℕ) (scope : ScopeId)
        → Raises AtMost weight me body (core_enrolled_at body from scope (body.scopes.masters scope)) (weight from me (msg.Enrol scope) + 1)
    pub acks : (me : ℕ) (body : Body) (scope : ScopeId) (slots : List ℕ) → body.scopes.counts scope ≡ Some (count.Waits slots)
        → Raises AtMost weight me body (planted_all machine me (quietly (with_count body scope (Some (count.Active (length slots))))) slots) 1
    pub completes : (me : ℕ) (body : Body) (from : ℕ) (scope : ScopeId) (tasks : ℕ) (more : LocalLeft)
        → Raises AtMost weight me body (completed_to (with_count body scope (completed (body.scopes.counts scope) tasks)) scope more) (weight from me (msg.Complete scope tasks) + 1)
    pub leaves : (me : ℕ) (body other : Body) (scope : ScopeId) → other.tasks.next ≡ body.tasks.next → other.scopes ≡ (with_leave body scope).scopes → other.batches ≡ body.batches
        → (x : ℕ) → AtMost me body x → AtMost me other x
    pub close : (me : ℕ) (body : Body) (object : ℕ) → Raises AtMost weight me body (closes_combiner machine body object (body.batches.combiners object)) 1

module _ (AtMost : ℕ → Body → ℕ → Type 0) (weight : Weight) (machine : Machine) (Known : ℕ → Body → Type 0) (rules : NumberRules AtMost weight machine Known) where
  no_weight : (me : ℕ) (sends : List Send) → ArePlain sends → of_sends weight me sends ≡ 0
  no_weight me [] p = refl
  no_weight me (send ∷ sends) p = omega (arith, rules.light me send.to send.message p.0, no_weight me sends p.1)

  plain : (me : ℕ) (body : Body) (outcome : Outcome) (more : ℕ) → Leaves body outcome → Raises AtMost weight me body outcome more
  plain me body outcome more l x fact = record { share = x; body = rules.looks me body outcome.body x l.0 fact; all = omega (arith, no_weight me outcome.sends l.1) }

  plain_if : (me : ℕ) (body : Body) (outcome : Option Outcome) (more : ℕ) → LeavesIf body outcome → RaisesIf AtMost weight me body outcome more
  plain_if me body None more l = tt
  plain_if me body (Some outcome) more l = plain me body outcome more l

  module _ (me : ℕ) (body : Body) (slot : ℕ) (task : Suspended) where
    abbrev P : Outcome → Type 0
    P outcome = Raises AtMost weight me body outcome 1

    is_dropped : P (dropped body slot)
    is_dropped = plain me body (dropped body slot) 1 (refl, tt)

    words_raise : (operation y z : ℕ) (at : Option ℕ) → P (word_asked machine body slot task operation y z at)
    words_raise operation y z None = is_dropped
    words_raise operation y z (Some at) = plain me body _ 1 (refl, (tt, tt))

    reduces_raise : (call : Op) (object : ℕ) (there : Bool) (at : Option ℕ) → P (reduce_joins body slot task call object there at)
    reduces_raise call object true (Some at) = rules.joined me body slot task call object at
    reduces_raise call object true None = is_dropped
    reduces_raise call object false at = is_dropped

    keys_raise : (call : Op) (object key : ℕ) → P (key_joins machine body slot task call object key)
    keys_raise call object key = choice P (is_keyed call (thing machine object)) _ _ (rules.joined me body slot task call object key) is_dropped

    vectors_raise : (call : Op) (object : ℕ) (vector : Option Vector) → P (vector_joins body slot task call object vector)
    vectors_raise call object None = is_dropped
    vectors_raise call object (Some vector) = plain me body (vector_joins body slot task call object (Some vector)) 1 (refl, tt)

    calls_raise : (call : Op) → P (called machine body slot task call)
    calls_raise (op.Read object place) = words_raise 1 0 0 (address machine.code.objects object place)
    calls_raise (op.Write object place word) = words_raise 2 word 0 (address machine.code.objects object place)
    calls_raise (op.Add object place word) = words_raise 3 word 0 (address machine.code.objects object place)
    calls_raise (op.Cas object place old new) = words_raise 4 old new (address machine.code.objects object place)
    calls_raise (op.Reduce object reducer place word) = reduces_raise (op.Reduce object reducer place word) object (is_reducer reducer) (address machine.code.objects object place)
    calls_raise (op.Insert object key) = keys_raise (op.Insert object key) object key
    calls_raise (op.Remove object key) = keys_raise (op.Remove object key) object key
    calls_raise (op.Has object key) = keys_raise (op.Has object key) object key
    calls_raise (op.Put object key word) = keys_raise (op.Put object key word) object key
    calls_raise (op.Get object key) = keys_raise (op.Get object key) object key
    calls_raise (op.Erase object key) = keys_raise (op.Erase object key) object key
    calls_raise (op.Merge object reducer key word) = keys_raise (op.Merge object reducer key word) object key
    calls_raise (op.Push object word) = vectors_raise (op.Push object word) object (body.vectors.vectors object)
    calls_raise (op.Pop object) = vectors_raise (op.Pop object) object (body.vectors.vectors object)
    calls_raise (op.Dequeue object) = vectors_raise (op.Dequeue object) object (body.vectors.vectors object)
    calls_raise (op.Alloc words) = plain me body _ 1 (refl, (tt, tt))
    calls_raise (op.Free place) = plain me body _ 1 (refl, (tt, tt))
    calls_raise (op.Print word) = plain me body _ 1 (refl, (tt, tt))

    enrols_raise : (way : How) (target : ℕ) (args : List ℕ) (local : Option LocalCount) → body.scopes.counts (innermost task) ≡ local → P (enrols machine me body slot task way target args local)
    enrols_raise way target args None e = rules.asks_first me body slot task e
    enrols_raise way target args (Some (count.Waits slots)) e = rules.waits_behind me body slot task slots e
    enrols_raise way target args (Some (count.Active tasks)) e = rules.counted me body slot task tasks e way target args

    spawns_raise : (way : How) (target : ℕ) (args : List ℕ) → P (spawns machine me body slot task way target args)
    spawns_raise way target args = choice P (has_core machine.setup.cores way) _ _
        (choice P (can_enrol machine (innermost task) (body.scopes.counts (innermost task))) _ _ (enrols_raise way target args (body.scopes.counts (innermost task)) refl) is_dropped)
        (plain me body _ 1 (refl, tt))

    finish_raises : (new : Bool) → is_new_scope body (own_scope me body) ≡ new → P (if new then finishes_in machine body slot task (own_scope me body) else dropped body slot)
    finish_raises true e = rules.finish me body slot task (own_scope me body) e
    finish_raises false e = is_dropped

    last_raises : (scope : ScopeId) (who : Release) → P (arrives_last machine (arrived body scope slot) slot task scope who)
    last_raises scope release.Held = rules.early_left me body slot task scope
    last_raises scope (release.Released waiter) = rules.last me body slot task scope

    left_raises : (scope : ScopeId) (more : LocalLeft) → P (arrives_with machine (arrived body scope slot) slot task scope more)
    left_raises scope rest.More = rules.early me body slot task scope
    left_raises scope rest.Zero = last_raises scope (release_of (released ((arrived body scope slot).scopes.masters scope)))

    arrives_raise : (opened : List ScopeId) → P (arrives machine body slot task opened)
    arrives_raise [] = is_dropped
    arrives_raise (scope ∷ scopes) = choice P (can_arrive body scope) _ _ (left_raises scope (left_of (body.scopes.counts scope) 1)) is_dropped

    module _ (known : Known me body) (there : body.tasks.slots slot ≡ Some task) where
      range_raises : (lo hi grain target : ℕ) (args : List ℕ) → task.action ≡ action.Loop lo hi grain target args → (new : Bool) → is_new_scope body (own_scope me body) ≡ new
          → P (if new then loops_in me body slot task lo hi grain target args (own_scope me body) else dropped body slot)
      range_raises lo hi grain target args a true e = rules.range me body slot task (own_scope me body) known there e lo hi grain target args a
      range_raises lo hi grain target args a false e = is_dropped

      pub acts_raise : (what : Action) → task.action ≡ what → P (acts machine me body slot task what)
      acts_raise (action.Call call) e = calls_raise call
      acts_raise (action.Spawn way target args) e = spawns_raise way target args
      acts_raise action.Finish e = finish_raises (is_new_scope body (own_scope me body)) refl
      acts_raise action.Arrive e = arrives_raise task.opened
      acts_raise (action.Loop lo hi grain target args) e = choice P (nat_lt lo hi) _ _
          (range_raises lo hi grain target args e (is_new_scope body (own_scope me body)) refl)
          (plain me body (loops_over_nothing machine body slot task lo hi grain target args) 1 (refl, tt))
      acts_raise action.End e = choice P (is_core machine task.origin) _ _ (rules.end me body slot task) is_dropped
      acts_raise (action.Trap kind) e = plain me body _ 1 (refl, tt)

  unit_raises : (me : ℕ) (body : Body) (slot : ℕ) (work : WorkUnit) → Raises AtMost weight me body (taken_up machine me body slot work) 1
  unit_raises me body slot (unit.Single target args scope origin id) = plain me body _ 1 (refl, tt)
  unit_raises me body slot (unit.Chunk target args scope origin owner lo hi grain) = choice (λ (outcome : Outcome). Raises AtMost weight me body outcome 1) (nat_lt grain (hi - lo)) _ _
      (plain me body _ 1 (refl, tt)) (rules.index me body slot target args scope origin owner lo hi grain)

  leaves_raise : (me : ℕ) (body : Body) (scope : ScopeId) (outcome : Outcome) (more : ℕ) → outcome.body.tasks.next ≡ body.tasks.next → outcome.body.scopes ≡ (with_leave body scope).scopes
      → outcome.body.batches ≡ body.batches → ArePlain outcome.sends → Raises AtMost weight me body outcome more
  leaves_raise me body scope outcome more t s b p x fact = record { share = x; body = rules.leaves me body outcome.body scope t s b x fact; all = omega (arith, no_weight me outcome.sends p) }

  passes_raise : (me : ℕ) (body : Body) (scope : ScopeId) (slot more : ℕ) (task : Option Suspended) → RaisesIf AtMost weight me body (passed_by machine body scope slot task) more
  passes_raise me body scope slot more None = tt
  passes_raise me body scope slot more (Some task) = choice (λ (outcome : Option Outcome). RaisesIf AtMost weight me body outcome more) (awaits_scope scope task.waits) _ _
      (leaves_raise me body scope (passes machine (with_leave body scope) slot task) more refl refl refl tt) tt

  who_raises : (me : ℕ) (body : Body) (scope : ScopeId) (more : ℕ) (who : Release) → RaisesIf AtMost weight me body (left_with machine body scope who) more
  who_raises me body scope more release.Held = leaves_raise me body scope (quietly (with_leave body scope)) more refl refl refl tt
  who_raises me body scope more (release.Released (waiter.Task slot)) = passes_raise me body scope slot more (body.tasks.slots slot)
  who_raises me body scope more (release.Released waiter.Root) = leaves_raise me body scope (over body scope) more refl refl refl tt

  acks_raise : (me : ℕ) (body : Body) (scope : ScopeId) (more : ℕ) (local : Option LocalCount) → body.scopes.counts scope ≡ local
      → RaisesIf AtMost weight me body (acked_slots machine me body scope local (waiting_slots local)) (more + 1)
  acks_raise me body scope more None e = tt
  acks_raise me body scope more (Some (count.Active tasks)) e = tt
  acks_raise me body scope more (Some (count.Waits slots)) e = choice (λ (outcome : Option Outcome). RaisesIf AtMost weight me body outcome (more + 1)) (list_all (λ slot. slot_awaits (awaits_enrolment scope) body slot) slots) _ _
      (λ x fact. (let r = rules.acks me body scope slots e x fact in record { share = r.share; body = r.body; all = omega (arith, r.all) })) tt

  plain_served : (me : ℕ) (body : Body) (from : ℕ) (message : Msg) → IsOfNoScope message → RaisesIf AtMost weight me body (serves machine me body from message) (weight from me message + 1)
  plain_served me body from message i = plain_if me body (serves machine me body from message) (weight from me message + 1) (serve_leaves machine me body from message i)

  serves_raise : (me : ℕ) (body : Body) (from : ℕ) (message : Msg) → RaisesIf AtMost weight me body (serves machine me body from message) (weight from me message + 1)
  serves_raise me body from (msg.Enrol scope) = choice (λ (outcome : Option Outcome). RaisesIf AtMost weight me body outcome (weight from me (msg.Enrol scope) + 1)) (can_enrol_one (body.scopes.masters scope)) _ _
      (rules.core_enrols me body from scope) tt
  serves_raise me body from (msg.EnrolAck scope) = acks_raise me body scope (weight from me (msg.EnrolAck scope)) (body.scopes.counts scope) refl
  serves_raise me body from (msg.Complete scope tasks) = choice (λ (outcome : Option Outcome). RaisesIf AtMost weight me body outcome (weight from me (msg.Complete scope tasks) + 1))
      (is_core machine scope.core && can_complete (body.scopes.counts scope) tasks) _ _ (rules.completes me body from scope tasks (left_of (body.scopes.counts scope) tasks)) tt
  serves_raise me body from (msg.Leave scope) = choice (λ (outcome : Option Outcome). RaisesIf AtMost weight me body outcome (weight from me (msg.Leave scope) + 1)) (can_leave (body.scopes.masters scope)) _ _
      (who_raises me body scope (weight from me (msg.Leave scope) + 1) (release_of (released (body.scopes.masters scope)))) tt
  serves_raise me body from (msg.Request slot id operation x y z) = plain_served me body from (msg.Request slot id operation x y z) tt
  serves_raise me body from (msg.Reply slot id first second) = plain_served me body from (msg.Reply slot id first second) tt
  serves_raise me body from (msg.Spawn work) = plain_served me body from (msg.Spawn work) tt
  serves_raise me body from msg.StealAsk = plain_served me body from msg.StealAsk tt
  serves_raise me body from (msg.StealGive work) = plain_served me body from (msg.StealGive work) tt
  serves_raise me body from (msg.Batch object key effect batch) = plain_served me body from (msg.Batch object key effect batch) tt
  serves_raise me body from (msg.BatchReply batch before) = plain_served me body from (msg.BatchReply batch before) tt
  serves_raise me body from (msg.Turn vector) = plain_served me body from (msg.Turn vector) tt
  serves_raise me body from (msg.Grant vector head tail) = plain_served me body from (msg.Grant vector head tail) tt
  serves_raise me body from (msg.Done vector head tail) = plain_served me body from (msg.Done vector head tail) tt
  serves_raise me body from (msg.ElemPut vector position word) = plain_served me body from (msg.ElemPut vector position word) tt
  serves_raise me body from (msg.ElemGet vector position) = plain_served me body from (msg.ElemGet vector position) tt
  serves_raise me body from (msg.ElemAck vector position got) = plain_served me body from (msg.ElemAck vector position got) tt

  closes_raise : (me : ℕ) (body : Body) (object : ℕ) (vector : Option Vector) → Raises AtMost weight me body (closes_as machine body object vector) 1
  closes_raise me body object None = rules.close me body object
  closes_raise me body object (Some vector) = plain me body (closes_as machine body object (Some vector)) 1 (group_closes machine body object vector (group_of vector.combiner))

  pub rules_of : Rules AtMost weight machine Known
  rules_of = record {
    adds = rules.adds;
    not_ready = λ me body x fact. rules.looks me body (without_ready body) x refl fact;
    no_unit = λ me body x fact. rules.looks me body (without_unit body) x refl fact;
    run = λ me body known slot task there. acts_raise me (without_ready body) slot task (rules.knows me body known) there task.action refl;
    unit = λ me body known slot work e x fact. unit_raises me (without_unit body) slot work x (rules.looks me body (without_unit body) x refl fact);
    serve = λ me body known from message. serves_raise me body from message;
    close = λ me body known object. closes_raise me body object (body.vectors.vectors object);
    steal = λ me body victim. plain me body (asks victim body) 1 (refl, (tt, tt));
    settle = λ me body message. plain_if me body (settles machine body message) 0 (settle_leaves machine body message);
    give = λ me body. plain me body (gives body) 0 (give_leaves body);
  }
